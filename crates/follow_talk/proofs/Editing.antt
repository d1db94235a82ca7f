-- Edits of the device's own, one after another.
use Rattle.std.proofs.Common.{◌≡◌, ℕ, zero, suc, ◌+◌, ◌<◌, ◌≤◌, List, [], ◌∷◌, ◌++◌, true, length, take, get_or, refl, ap, sym, subst, ◌∙◌, arith, add-one}
use Rattle.std.proofs.Math.Logic.{∥∥₁_elim}
use Rattle.std.specs.Coded.{Coded-set, coded_ℕ, coded_list}
use Rattle.std.specs.Prelude.{Result, Ok, Err, OnOk, IfOk, Bool}
use Rattle.std.specs.List.{concat}
use Rattle.std.proofs.lemmas.List.{take_more, length-take-le}
use Rattle.std.proofs.lemmas.List.Sums.{fold-append}
use Rattle.coop_request.specs.Request.{Request}
use Rattle.peer_step.specs.declared.step.LocalEdit.{LocalEdit}
use Rattle.peer_step.specs.declared.step.LocalEdit.TheVariants.{Insert, Delete}
use Rattle.peer_step.specs.declared.step.Step.TheVariants.{Edit}
use Rattle.peer_step.specs.declared.answer.Answer.{Answer}
use Rattle.peer_step.specs.declared.answer.Answer.TheVariants.{Done}
use Rattle.peer_core.specs.Peer.{Peer, text}
use Rattle.peer_core.specs.Answers.{answer_of}
use Rattle.peer_core.specs.After.{peer_after}
use Rattle.peer_core.specs.Laws.{text_edited, EditLaw}
use Rattle.peer_core.specs.Sound.{IsSound}
use Rattle.text_change.specs.Rows.{text_told}
use Rattle.text_change.specs.Told.{is_done}
use Rattle.follow_core.specs.declared.event.FollowEvent.{FollowEvent}
use Rattle.follow_core.specs.declared.event.FollowEvent.TheVariants.{Made}
use Rattle.follow_core.specs.Past.{follow_peer}
use Rattle.follow_text.specs.Edits.{deletions, inserts, ReplacedLaw}
use Rattle.follow_text.specs.Shown.{with_pieces}
use Rattle.follow_talk.specs.Mirrors.{ShowsText}

abbrev Pieces : Type 0
Pieces = List (List ℕ)

-- an edit is made by a request
request_of : (a : Answer) → is_done a ≡ true → (q : Request) × (a ≡ Done q)
request_of (Done q) is = (q, refl)
request_of a is = absurd cc

-- one that is made shows as such
pub shown_edited : EditLaw → (p : Peer) (edit : LocalEdit) (a : Answer) (old new : Pieces) (rows : List LocalEdit) → IsSound p → a ≡ answer_of p (Edit edit) → is_done a ≡ true
    → ∥ old ≡ text p ∥₁ → ∥ text_told old rows ≡ text (peer_after p (Edit edit)) ∥₁ → new ≡ text_told old rows → new ≡ text_edited old edit
shown_edited law p edit a old new rows sound is done shows told new_is =
    let q = request_of a done in
    ∥∥₁_elim shows (Coded-set (coded_list (coded_list coded_ℕ)) new (text_edited old edit)) (λ (here : old ≡ text p).
    ∥∥₁_elim told (Coded-set (coded_list (coded_list coded_ℕ)) new (text_edited old edit)) (λ (after : text_told old rows ≡ text (peer_after p (Edit edit))).
    new_is ∙ after ∙ law p edit q.0 sound (sym is ∙ q.1) ∙ ap (λ (pieces : Pieces). text_edited pieces edit) (sym here)))

-- the same of a follower that was asked for it
pub edit_shows : {E : Type 0} → EditLaw → (result : Result Bool E) (es fs : List FollowEvent) (edit : LocalEdit) (a : Answer) (old mid new : Pieces) (rows : List LocalEdit)
    → IsSound (follow_peer es) → a ≡ answer_of (follow_peer es) (Edit edit) → fs ≡ Made (Edit edit) ∷ es → mid ≡ old → ∥ ShowsText old es ∥₁
    → ∥ text_told mid rows ≡ text (follow_peer fs) ∥₁ → IfOk result (λ made. made ≡ is_done a) → OnOk result (new ≡ text_told mid rows)
    → IfOk result (λ made. made ≡ true → new ≡ text_edited old edit)
edit_shows law (Ok made) es fs edit a old mid new rows sound is after same shows told done shown = λ yes.
    let here : ∥ text_told old rows ≡ text (peer_after (follow_peer es) (Edit edit)) ∥₁ =
    subst (λ (p : Pieces). ∥ text_told p rows ≡ text (peer_after (follow_peer es) (Edit edit)) ∥₁) same
    (subst (λ (gs : List FollowEvent). ∥ text_told mid rows ≡ text (follow_peer gs) ∥₁) after told) in
    shown_edited law (follow_peer es) edit a old new rows sound is (sym done ∙ yes) shows here (shown ∙ ap (λ (p : Pieces). text_told p rows) same)
edit_shows law (Err e) es fs edit a old mid new rows sound is after same shows told done shown = tt

-- ---- many

deletions_push : (at n : ℕ) → deletions at (suc n) ≡ deletions at n ++ Delete at ∷ []
deletions_push at zero = refl
deletions_push at (suc n) = ap (λ (es : List LocalEdit). Delete at ∷ es) (deletions_push at n)

-- one more piece goes
pub one_gone : (pieces old new : Pieces) (at n : ℕ) → old ≡ text_told pieces (deletions at n) → new ≡ text_edited old (Delete at) → new ≡ text_told pieces (deletions at (n + 1))
one_gone pieces old new at n old_is new_is =
    new_is ∙ ap (λ (p : Pieces). text_edited p (Delete at)) old_is
    ∙ sym (fold-append text_edited pieces (deletions at n) (Delete at ∷ []))
    ∙ ap (λ (es : List LocalEdit). text_told pieces es) (sym (deletions_push at n))
    ∙ ap (λ (k : ℕ). text_told pieces (deletions at k)) (sym (add-one n))

inserts_push : (at : ℕ) (put : Pieces) (letter : List ℕ) → inserts at (put ++ letter ∷ []) ≡ inserts at put ++ Insert (at + length put) letter ∷ []
inserts_push at [] letter = ap (λ (k : ℕ). Insert k letter ∷ []) (omega arith)
inserts_push at (piece ∷ put) letter =
    ap (λ (es : List LocalEdit). Insert at piece ∷ es)
    (inserts_push (at + 1) put letter ∙ ap (λ (k : ℕ). inserts (at + 1) put ++ Insert k letter ∷ []) (omega arith))

-- one more comes
one_put : (pieces old new : Pieces) (put : Pieces) (at : ℕ) (letter : List ℕ) → old ≡ text_told pieces (inserts at put) → new ≡ text_edited old (Insert (at + length put) letter)
    → new ≡ text_told pieces (inserts at (put ++ letter ∷ []))
one_put pieces old new put at letter old_is new_is =
    new_is ∙ ap (λ (p : Pieces). text_edited p (Insert (at + length put) letter)) old_is
    ∙ sym (fold-append text_edited pieces (inserts at put) (Insert (at + length put) letter ∷ []))
    ∙ ap (λ (es : List LocalEdit). text_told pieces es) (sym (inserts_push at put letter))

-- the next of those that come
pub next_put : (pieces old new P : Pieces) (at n : ℕ) (letter : List ℕ) → n < length P → letter ≡ get_or P n letter → old ≡ text_told pieces (inserts at (take n P))
    → new ≡ text_edited old (Insert (at + n) letter) → new ≡ text_told pieces (inserts at (take (n + 1) P))
next_put pieces old new P at n letter there is old_is new_is =
    let size : length (take n P) ≡ n = length-take-le n P (omega arith) in
    one_put pieces old new (take n P) at letter old_is (new_is ∙ ap (λ (k : ℕ). text_edited old (Insert (at + k) letter)) (sym size))
    ∙ ap (λ (ps : Pieces). text_told pieces (inserts at ps)) (sym (take_more P n letter there ∙ ap (λ (x : List ℕ). take n P ++ x ∷ []) (sym is)))

-- ---- a range

-- pieces that go and others that come there replace a range
pub range_replaced : ReplacedLaw → (old new put : Pieces) (at out : ℕ) (bytes : List ℕ) → at + out ≤ length old → concat (with_pieces old at out put) ≡ bytes
    → new ≡ text_told (text_told old (deletions at out)) (inserts at put) → concat new ≡ bytes
range_replaced law old new put at out bytes few bytes_are new_is =
    ap (λ (p : Pieces). concat p) (new_is ∙ sym (fold-append text_edited old (deletions at out) (inserts at put)) ∙ law old put at out few) ∙ bytes_are
