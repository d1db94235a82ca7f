-- The run of a watch, once its shared peer was closed.
use Rattle.std.proofs.Common.{◌≡◌, ℕ, ◌≤◌, Bool, List, [], ◌∷◌, ◌++◌, length, map, refl, sym, ap, ◌∙◌, subst, arith, cond, eq-eqb, Ok, Err}
use Rattle.std.specs.Prelude.{IfOk, IfErr}
use Rattle.std.specs.declared.result.Result.{Result}
use mathlib.Core.Logic.{dite}
use native.Mathlib.Decide.{ℕ_discrete}
use Rattle.peer_step.specs.declared.step.Step.{Step}
use Rattle.peer_step.specs.declared.step.Step.TheVariants.{Show}
use Rattle.peer_core.specs.Peer.{Peer, fresh_peer}
use Rattle.peer_lock.specs.declared.call.Call.{Call}
use Rattle.peer_lock.specs.declared.view.View.{View}
use Rattle.peer_lock.specs.KnownPass.{KnownPass}
use Rattle.peer_lock.specs.Run.{call, steps_by, peer_after_run, Recorded, recorded}
use Rattle.peer_lock.specs.Rule.{HasNumber, newcomer}
use Rattle.peer_lock.specs.Answers.{ClosesRun}
use Rattle.peer_lock.proofs.Lists.{steps-append, steps_mine, no_front, no_back}
use Rattle.screen_read.specs.Ends.{ReaderPages}
use Rattle.screen_read.specs.Screen.{KnownScreen, ArePagesOf}
use Rattle.screen_read.proofs.Shows.{pages_more}
use Rattle.form_watch.specs.Run.{each_shown, watch_run}
use Rattle.form_watch.specs.Workers.{Opens, Publishing}

-- a run of caller 0 alone is that caller's steps
sole_run : (run : List Call) → ((n : ℕ) → 1 ≤ n → steps_by n run ≡ []) → run ≡ map (call 0) (steps_by 0 run)
sole_run [] none = refl
sole_run (e ∷ es) none =
    let parts : (n : ℕ) → 1 ≤ n → steps_by n (e ∷ []) ++ steps_by n es ≡ [] = λ n le. sym (steps-append n (e ∷ []) es) ∙ none n le in
    dite (ℕ_discrete e.caller 0)
    (λ mine.
    let rest : es ≡ map (call 0) (steps_by 0 es) = sole_run es (λ n le. no_back (steps_by n (e ∷ [])) (steps_by n es) (parts n le)) in
    let all : steps_by 0 (e ∷ es) ≡ e.step ∷ steps_by 0 es = ap (λ (b : Bool). cond {A = List Step} b (e.step ∷ steps_by 0 es) (steps_by 0 es)) (eq-eqb e.caller 0 mine) in
    ap (λ (n : ℕ). call n e.step ∷ es) mine ∙ ap (λ (l : List Call). call 0 e.step ∷ l) rest ∙ ap (λ (l : List Step). map (call 0) l) (sym all))
    (λ other.
    let made : e.step ∷ [] ≡ [] = sym (steps_mine e.caller e refl) ∙ no_front (steps_by e.caller (e ∷ [])) (steps_by e.caller es) (parts e.caller (omega arith)) in
    absurd (cc))

-- the one pass of a watch, from its screen to the end
module _ (site : ℕ) (first opened last : KnownPass) (s t : KnownScreen) (r : ReaderPages) (steps : List Step)
    (new : first.view ≡ newcomer 0 1 site) (opens : Opens first opened s r) (did : Publishing s opened steps t last) where
  number : last.view.number ≡ 0
  number = did.same.number ∙ opens.same.number ∙ ap (λ (v : View). v.number) new

  numbers : last.view.numbers ≡ 0 ∷ []
  numbers = did.same.numbers ∙ opens.same.numbers ∙ ap (λ (v : View). v.numbers) new

  pub origin : last.view.origin ≡ site
  origin = did.same.origin ∙ opens.same.origin ∙ ap (λ (v : View). v.origin) new

  one : last.view.made ≡ 1
  one = did.same.made ∙ opens.same.made ∙ ap (λ (v : View). v.made) new

  -- it stands for all passes
  pub for_all : length last.view.numbers ≡ last.view.made
  for_all = ap (λ (l : List ℕ). length l) numbers ∙ sym one

  has_own : HasNumber last.view.numbers 0
  has_own = subst (λ (l : List ℕ). HasNumber l 0) (sym numbers) (omega arith)

  -- the steps that it has made
  steps_are : steps_by 0 last.view.seen ≡ Show ∷ each_shown steps
  steps_are =
      ap (λ (n : ℕ). steps_by n last.view.seen) (sym (opens.same.number ∙ ap (λ (v : View). v.number) new))
      ∙ did.made
      ∙ ap (λ (n : ℕ). steps_by n opened.view.seen ++ each_shown steps) opens.same.number
      ∙ ap (λ (l : List Step). l ++ each_shown steps) opens.made
      ∙ ap (λ (v : View). (steps_by v.number v.seen ++ Show ∷ []) ++ each_shown steps) new

  pub run_is : (p : Peer) (run : List Call) → ClosesRun last.view p run → run ≡ watch_run steps
  run_is p run closes =
      let none : (n : ℕ) → 1 ≤ n → steps_by n run ≡ [] = λ n le. closes.callers n (omega (arith, le, one)) in
      sole_run run none ∙ ap (λ (l : List Step). map (call 0) l) (closes.steps 0 has_own ∙ steps_are)

  -- so it is the run of the history, and it led to the peer
  pub history_is : (p : Peer) (history : Recorded) → ClosesRun last.view p history.run → history.site ≡ last.view.origin → history ≡ recorded site (watch_run steps)
  history_is p history closes of = λ i. recorded ((of ∙ origin) i) (run_is p history.run closes i)

  pub peer_is : (p : Peer) (run : List Call) → ClosesRun last.view p run → p ≡ peer_after_run (fresh_peer site) run
  peer_is p run closes = closes.peer ∙ ap (λ (o : ℕ). peer_after_run (fresh_peer o) run) origin

  -- the pages that were published are pages of the run
  pub pages_are : (p : Peer) (run : List Call) → ClosesRun last.view p run → ArePagesOf site run t.pages
  pages_are p run closes =
      subst (λ (n : ℕ). ArePagesOf n run t.pages) origin
      (subst (λ (l : List Call). ArePagesOf last.view.origin l t.pages) (sym closes.seen.1)
      (pages_more last.view.origin last.view.seen closes.seen.0 t.pages did.current.published.of_run))

-- what holds of a result that is known to be Ok
pub ok_of : {T E : Type 0} (P : T → Type 0) (r : Result T E) (x : T) → r ≡ Ok x → IfOk r P → P x
ok_of {T} {E} P r x is h = subst (λ (y : Result T E). IfOk y P) is h

-- what holds of one that is known to be Err
pub err_of : {T E : Type 0} (P : E → Type 0) (r : Result T E) (x : E) → r ≡ Err x → IfErr r P → P x
err_of {T} {E} P r x is h = subst (λ (y : Result T E). IfErr y P) is h
