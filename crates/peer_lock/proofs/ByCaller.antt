-- The answers of one number's steps, and the number of all steps.
use Rattle.std.proofs.Common.{◌≡◌, ◌≢◌, ℕ, zero, suc, ◌+◌, ◌<◌, ◌≤◌, List, [], ◌∷◌, ◌++◌, length, refl, sym, ap, ◌∙◌, arith, cond, eq-eqb, ne_eqb, append-nil}
use mathlib.Core.Logic.{dite}
use native.Mathlib.Decide.{ℕ_discrete, dec_le}
use Rattle.peer_core.specs.Peer.{Peer, fresh_peer}
use Rattle.peer_core.specs.Answers.{answer_of}
use Rattle.peer_core.specs.After.{peer_after}
use Rattle.peer_lock.specs.Run.{call, peer_after_run, steps_by}
use Rattle.peer_lock.specs.Laws.{answers_by, steps_below}
use Rattle.peer_lock.specs.Answers.{Stepped, ClosesRun}
use Rattle.peer_step.specs.declared.step.Step.{Step}
use Rattle.peer_step.specs.declared.answer.Answer.{Answer}
use Rattle.peer_lock.specs.declared.limits.TheConstants.{MAX_RUN}
use Rattle.peer_lock.specs.declared.call.Call.{Call}
use Rattle.peer_lock.specs.declared.view.View.{View}
use Rattle.peer_lock.proofs.Lists.{steps-append, steps_mine, no_front, no_back}

pub told-append : (n : ℕ) (p : Peer) (xs ys : List Call) → answers_by n p (xs ++ ys) ≡ answers_by n p xs ++ answers_by n (peer_after_run p xs) ys
told-append n p [] ys = refl
told-append n p (e ∷ es) ys = dite (ℕ_discrete e.caller n)
    (λ h. let y = eq-eqb e.caller n h in rw y (ap (λ l. answer_of p e.step ∷ l) (told-append n (peer_after p e.step) es ys)))
    (λ h. let y = ne_eqb e.caller n h in rw y (told-append n (peer_after p e.step) es ys))

some_none : (s : Step) (ss : List Step) → s ∷ ss ≡ [] → ⊥
some_none s ss e = absurd (omega (arith, ap (λ (l : List Step). length l) e))

pub told_none : (n : ℕ) (p : Peer) (ys : List Call) → steps_by n ys ≡ [] → answers_by n p ys ≡ []
told_none n p [] e = refl
told_none n p (y ∷ ys) e =
    let parts : steps_by n (y ∷ []) ++ steps_by n ys ≡ [] = sym (steps-append n (y ∷ []) ys) ∙ e in
    dite (ℕ_discrete y.caller n)
    (λ h. absurd (some_none y.step [] (sym (steps_mine n y h) ∙ no_front (steps_by n (y ∷ [])) (steps_by n ys) parts)))
    (λ h. ap (λ b. cond {A = List Answer} b (answer_of p y.step ∷ answers_by n (peer_after p y.step) ys) (answers_by n (peer_after p y.step) ys)) (ne_eqb y.caller n h) ∙ told_none n (peer_after p y.step) ys (no_back (steps_by n (y ∷ [])) (steps_by n ys) parts))

-- the answer of a step is one more answer of its number in the run
pub told_step : (v : View) (s : Step) (a : Answer) (w : View) → Stepped v s a w → answers_by v.number (fresh_peer v.origin) w.seen ≡ answers_by v.number (fresh_peer v.origin) v.seen ++ a ∷ []
told_step v s a w st =
    let n = v.number in
    let p = fresh_peer v.origin in
    let front : List Call = v.seen ++ st.between in
    let none-between : answers_by n (peer_after_run p v.seen) st.between ≡ [] = told_none n (peer_after_run p v.seen) st.between (st.quiet n st.named) in
    ap (answers_by n p) st.seen
    ∙ told-append n p front (call n s ∷ [])
    ∙ (λ i. (told-append n p v.seen st.between ∙ ap (λ (l : List Answer). answers_by n p v.seen ++ l) none-between ∙ append-nil (answers_by n p v.seen)) i
    ++ (ap (λ b. cond {A = List Answer} b (answer_of (peer_after_run p front) s ∷ []) []) (eq-eqb n n refl) ∙ ap (λ (x : Answer). x ∷ []) (sym st.answer)) i)

owned_none : (m : ℕ) → steps_below m [] ≡ 0
owned_none zero = refl
owned_none (suc m) = omega (arith, owned_none m)

none_yet : (m : ℕ) (e : Call) (es : List Call) → m ≤ e.caller → steps_below m (e ∷ es) ≡ steps_below m es
none_yet zero e es h = refl
none_yet (suc m) e es h = let off : e.caller ≢ m = λ x. absurd (omega arith) in
    omega (arith, none_yet m e es (omega arith), ap (λ b. length (cond {A = List Step} b (e.step ∷ steps_by m es) (steps_by m es))) (ne_eqb e.caller m off))

one_more : (m : ℕ) (e : Call) (es : List Call) → e.caller < m → steps_below m (e ∷ es) ≡ steps_below m es + 1
one_more zero e es h = absurd (omega arith)
one_more (suc m) e es h = dite (ℕ_discrete e.caller m)
    (λ x. omega (arith, none_yet m e es (omega arith), ap (λ b. length (cond {A = List Step} b (e.step ∷ steps_by m es) (steps_by m es))) (eq-eqb e.caller m x)))
    (λ n. omega (arith, one_more m e es (omega arith), ap (λ b. length (cond {A = List Step} b (e.step ∷ steps_by m es) (steps_by m es))) (ne_eqb e.caller m n)))

-- a run whose callers are all below m has as many steps as these have
pub all_owned : (m : ℕ) (run : List Call) → ((x : ℕ) → m ≤ x → steps_by x run ≡ []) → length run ≡ steps_below m run
all_owned m [] h = sym (owned_none m)
all_owned m (e ∷ es) h =
    let parts : (x : ℕ) → m ≤ x → steps_by x (e ∷ []) ++ steps_by x es ≡ [] = λ x le. sym (steps-append x (e ∷ []) es) ∙ h x le in
    dite (dec_le m e.caller)
    (λ high. absurd (some_none e.step [] (sym (steps_mine e.caller e refl) ∙ no_front (steps_by e.caller (e ∷ [])) (steps_by e.caller es) (parts e.caller high))))
    (λ low. omega (arith, one_more m e es (omega arith), all_owned m es (λ x le. no_back (steps_by x (e ∷ [])) (steps_by x es) (parts x le))))

-- callers whose steps are the same in both have as many in both
as_many_below : (m : ℕ) (xs ys : List Call) → ((n : ℕ) → n < m → steps_by n xs ≡ steps_by n ys) → steps_below m xs ≡ steps_below m ys
as_many_below zero xs ys same = refl
as_many_below (suc m) xs ys same = omega (arith, as_many_below m xs ys (λ n less. same n (omega arith)), ap (λ (l : List Step). length l) (same m (omega arith)))

-- a run whose last pass has seen fewer steps of all callers than a run may have wasn't full
pub had_room : (v : View) (p : Peer) (run : List Call) → ClosesRun v p run → steps_below v.made v.seen < MAX_RUN → v.floor < MAX_RUN
had_room v p run closes few =
    omega (arith, all_owned v.made run closes.callers, as_many_below v.made run v.seen (λ n less. closes.steps n (closes.numbers n less)), closes.floor, few)
