-- The pages of a run.
use Rattle.std.proofs.Common.{◌≡◌, ℕ, ◌<◌, List, [], ◌∷◌, ◌++◌, length, sym, ap, ◌∙◌, subst, arith, length-append, append_assoc, le_refl}
use Rattle.std.proofs.Math.Seq.{take-length}
use Rattle.std.proofs.lemmas.List.{take-append-le}
use Rattle.peer_step.specs.declared.step.Step.TheVariants.{Show}
use Rattle.peer_step.specs.declared.answer.Answer.{Answer}
use Rattle.peer_step.specs.declared.answer.Answer.TheVariants.{Shown}
use Rattle.peer_core.specs.Peer.{Peer, fresh_peer, text}
use Rattle.peer_lock.specs.declared.call.Call.{Call}
use Rattle.peer_lock.specs.declared.view.View.{View}
use Rattle.peer_lock.specs.Run.{call, peer_after_run}
use Rattle.peer_lock.specs.KnownPass.{KnownPass}
use Rattle.peer_lock.specs.Answers.{Stepped, IsSame}
use Rattle.peer_lock.proofs.RunLemmas.{peer_after_run-push}
use Rattle.screen_read.specs.Pages.{PageText, page_text, IsAscending}
use Rattle.screen_read.specs.Screen.{page_after, ArePagesOf, ArePublished, KnownScreen, IsPassOf, StepsShow}

abbrev shown_text : Answer → List (List ℕ)
shown_text (Shown pieces) = pieces
shown_text answer = []

-- a Show step is answered by a text
pub is_shown : (v w : View) (a : Answer) → Stepped v Show a w → (pieces : List (List ℕ)) × (a ≡ Shown pieces)
is_shown v w a st = (text (peer_after_run (fresh_peer v.origin) (v.seen ++ st.between)), st.answer)

-- it is the text after the whole run, since the step changes nothing
pub page_is : (v w : View) (pieces : List (List ℕ)) → Stepped v Show (Shown pieces) w → page_text (length w.seen) pieces ≡ page_after v.origin w.seen
page_is v w pieces st =
    let p : Peer = fresh_peer v.origin in
    let front : List Call = v.seen ++ st.between in
    let whole : text (peer_after_run p w.seen) ≡ text (peer_after_run p front) = ap (λ (run : List Call). text (peer_after_run p run)) st.seen ∙ ap text (peer_after_run-push p front (call v.number Show)) in
    ap (page_text (length w.seen)) (ap shown_text st.answer ∙ sym whole)

-- the page that is made of the answer
pub shown_page : (k l : KnownPass) (a : Answer) (pieces : List (List ℕ)) (steps : ℕ) (p : PageText) → p ≡ page_text steps pieces → steps ≡ length l.view.seen → a ≡ Shown pieces → Stepped k.view Show a l.view → IsSame k l
    → p ≡ page_after l.view.origin l.view.seen
shown_page k l a pieces steps p is many answer st same =
    let st' : Stepped k.view Show (Shown pieces) l.view = subst (λ (x : Answer). Stepped k.view Show x l.view) answer st in
    is ∙ ap (λ (n : ℕ). page_text n pieces) many ∙ page_is k.view l.view pieces st' ∙ ap (λ (n : ℕ). page_after n l.view.seen) (sym same.origin)

pub pages_more : (site : ℕ) (run more : List Call) (pages : List PageText) → ArePagesOf site run pages → ArePagesOf site (run ++ more) pages
pages_more site run more [] a = tt
pages_more site run more (p ∷ ps) a = ((omega (arith, a.0.0, length-append run more), a.0.1 ∙ ap (page_after site) (sym (take-append-le p.steps run more a.0.0))), pages_more site run more ps a.1)

pages_one_more : (site : ℕ) (run : List Call) (pages : List PageText) → ArePagesOf site run pages → ArePagesOf site run (pages ++ page_after site run ∷ [])
pages_one_more site run [] a = ((le_refl (length run), ap (page_after site) (sym (take-length run))), tt)
pages_one_more site run (p ∷ ps) a = (a.0, pages_one_more site run ps a.1)

-- a page with more steps than the run can follow the pages of the run
ascending_next : (site : ℕ) (run : List Call) (pages : List PageText) (p : PageText) → IsAscending pages → ArePagesOf site run pages → length run < p.steps → IsAscending (pages ++ p ∷ [])
ascending_next site run [] p up a more = tt
ascending_next site run (x ∷ []) p up a more = (omega (arith, a.0.0), tt)
ascending_next site run (x ∷ y ∷ ys) p up a more = (up.0, ascending_next site run (y ∷ ys) p up.1 a.1 more)

-- the page of a longer run can be published behind the pages
pub published_next : (site : ℕ) (run more : List Call) (pages : List PageText) → 0 < length more → IsAscending pages → ArePagesOf site run pages
    → IsAscending (pages ++ page_after site (run ++ more) ∷ []) × ArePagesOf site (run ++ more) (pages ++ page_after site (run ++ more) ∷ [])
published_next site run more pages some up a = (
  ascending_next site run pages (page_after site (run ++ more)) up a (omega (arith, length-append run more)),
  pages_one_more site (run ++ more) pages (pages_more site run more pages a),
)

abbrev AscendOf : ℕ → List Call → List PageText → Type 0
AscendOf n run pages = IsAscending pages × ArePagesOf n run pages

-- the pages of a screen after one more Show step of its pass
pub next_pages : (s : KnownScreen) (k l : KnownPass) (a : Answer) → IsPassOf s k → IsSame k l → Stepped k.view Show a l.view → ArePublished s.pass.view s.pages
    → ArePublished l.view (s.pages ++ page_after l.view.origin l.view.seen ∷ [])
next_pages s k l a own same st known =
    let site : l.view.origin ≡ s.pass.view.origin = same.origin ∙ own.origin in
    let e : List Call = call k.view.number Show ∷ [] in
    let more : List Call = own.seen.0 ++ (st.between ++ e) in
    let run : l.view.seen ≡ s.pass.view.seen ++ more = st.seen
    ∙ append_assoc k.view.seen st.between e
    ∙ ap (λ (x : List Call). x ++ (st.between ++ e)) own.seen.1
    ∙ append_assoc s.pass.view.seen own.seen.0 (st.between ++ e) in
    let next = published_next s.pass.view.origin s.pass.view.seen more s.pages (omega (arith, length-append own.seen.0 (st.between ++ e), length-append st.between e)) known.ascending known.of_run in
    let all : AscendOf s.pass.view.origin (s.pass.view.seen ++ more) (s.pages ++ page_after s.pass.view.origin (s.pass.view.seen ++ more) ∷ []) = next in
    let moved : AscendOf l.view.origin l.view.seen (s.pages ++ page_after l.view.origin l.view.seen ∷ []) =
    subst (λ (n : ℕ). AscendOf n l.view.seen (s.pages ++ page_after n l.view.seen ∷ [])) (sym site)
    (subst (λ (r : List Call). AscendOf s.pass.view.origin r (s.pages ++ page_after s.pass.view.origin r ∷ [])) (sym run) all) in
    record { ascending = moved.0; of_run = moved.1 }

-- a first page is published
pub first_page : (v : View) → ArePublished v (page_after v.origin v.seen ∷ [])
first_page v = record { ascending = tt; of_run = ((le_refl (length v.seen), ap (page_after v.origin) (sym (take-length v.seen))), tt) }

-- the page of a pass that made one more Show step can follow
pub next_page : (s : KnownScreen) (k l : KnownPass) (page : PageText) → page ≡ page_after l.view.origin l.view.seen → IsPassOf s k → IsSame k l → StepsShow k.view l.view → ArePublished s.pass.view s.pages
    → ArePublished l.view (s.pages ++ page ∷ [])
next_page s k l page is own same shown known = subst (λ (p : PageText). ArePublished l.view (s.pages ++ p ∷ [])) (sym is) (next_pages s k l shown.0 own same shown.1 known)

-- a screen's pages, once it is known which they are
pub published_as : (v w : View) (xs ys : List PageText) → v ≡ w → xs ≡ ys → ArePublished w ys → ArePublished v xs
published_as v w xs ys e f a = subst (λ (x : View). ArePublished x xs) (sym e) (subst (ArePublished w) (sym f) a)
