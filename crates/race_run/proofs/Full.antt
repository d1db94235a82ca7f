-- A worker that met a full run would have seen more steps than there are.
use Rattle.std.proofs.Common.{◌≡◌, ℕ, ◌+◌, ◌<◌, ◌≤◌, ◌⊎◌, max, List, [], ◌∷◌, ◌++◌, length, sym, ap, ◌∙◌, subst, inl, inr, arith, length-append, length-take, take}
use Rattle.peer_step.specs.declared.step.Step.{Step}
use Rattle.peer_core.specs.Peer.{Peer}
use Rattle.peer_lock.specs.declared.limits.TheConstants.{MAX_RUN}
use Rattle.peer_lock.specs.declared.call.Call.{Call}
use Rattle.peer_lock.specs.declared.view.View.{View}
use Rattle.peer_lock.specs.KnownPass.{KnownPass}
use Rattle.peer_lock.specs.Run.{steps_by}
use Rattle.peer_lock.specs.Rule.{times, HasNumber, newcomer}
use Rattle.peer_lock.specs.Answers.{IsSame, KnowsFull, UnitesPasses, ClosesRun}
use Rattle.peer_lock.specs.Laws.{steps_below}
use Rattle.peer_lock.proofs.Lists.{times-append}
use Rattle.peer_lock.proofs.ByCaller.{had_room}
use Rattle.race_run.specs.declared.working.Ended.{Ended}
use Rattle.race_run.specs.declared.working.Ended.TheVariants.{Done, Full, Short}
use Rattle.race_run.specs.Work.{MadeSome, Works}

-- the steps that a worker has made are at most those of its list, and fewer where the run was full
abbrev left_out : Ended → ℕ
left_out Done = 0
left_out Full = 1
left_out Short = 0

made_some : (v w : View) (steps : List Step) → MadeSome v w steps → length (steps_by v.number w.seen) + 1 ≤ length (steps_by v.number v.seen) + length steps
made_some v w steps m =
    omega (arith, m.1, ap (λ (l : List Step). length l) m.2, length-append (steps_by v.number v.seen) (take m.0 steps), length-take m.0 steps)

made_few : (v w : View) (steps : List Step) (e : Ended) → Works v w steps e → length (steps_by v.number w.seen) + left_out e ≤ length (steps_by v.number v.seen) + length steps
made_few v w steps Done m = omega (arith, ap (λ (l : List Step). length l) m, length-append (steps_by v.number v.seen) steps)
made_few v w steps Full m = made_some v w steps m.1
made_few v w steps Short m = omega (arith, made_some v w steps m)

is_full : (v w : View) (steps : List Step) (e : Ended) → e ≡ Full → Works v w steps e → KnowsFull w
is_full v w steps e x m = (subst (Works v w steps) x m).0

-- a newcomer has made no step before
pub few_of : (number made site : ℕ) (k l : KnownPass) (steps : List Step) (e : Ended) → k.view ≡ newcomer number made site → Works k.view l.view steps e
    → length (steps_by number l.view.seen) + left_out e ≤ length steps
few_of number made site k l steps e is m =
    let h : length (steps_by number l.view.seen) + left_out e ≤ 0 + length steps
    = subst (λ (v : View). length (steps_by v.number l.view.seen) + left_out e ≤ length (steps_by v.number v.seen) + length steps) is (made_few k.view l.view steps e m) in
    omega arith

-- a worker's own number
pub has_own : (number made site : ℕ) (k l : KnownPass) → HasNumber (number ∷ []) number → k.view ≡ newcomer number made site → IsSame k l → HasNumber l.view.numbers number
has_own number made site k l own is same = subst (λ (l : List ℕ). HasNumber l number) (sym (same.numbers ∙ ap (λ (v : View). v.numbers) is)) own

-- the numbers of both sides of a join
pub has_left : (v o w : View) (n : ℕ) → UnitesPasses v o w → HasNumber v.numbers n → HasNumber w.numbers n
has_left v o w n u h = omega (arith, ap (λ (l : List ℕ). times n l) u.numbers, times-append n v.numbers o.numbers)

pub has_right : (v o w : View) (n : ℕ) → UnitesPasses v o w → HasNumber o.numbers n → HasNumber w.numbers n
has_right v o w n u h = omega (arith, ap (λ (l : List ℕ). times n l) u.numbers, times-append n v.numbers o.numbers)

-- three passes that were joined into the first, and the run that they closed
module _ (site : ℕ) (k0 l0 k1 l1 k2 l2 : KnownPass) (j i : View) (p : Peer) (run : List Call)
    (first : k0.view ≡ newcomer 0 3 site) (second : k1.view ≡ newcomer 1 0 site) (third : k2.view ≡ newcomer 2 0 site)
    (same0 : IsSame k0 l0) (same1 : IsSame k1 l1) (same2 : IsSame k2 l2)
    (one : UnitesPasses l0.view l1.view j) (two : UnitesPasses j l2.view i) (closes : ClosesRun i p run) where
  own0 : HasNumber l0.view.numbers 0
  own0 = has_own 0 3 site k0 l0 (omega arith) first same0

  own1 : HasNumber l1.view.numbers 1
  own1 = has_own 1 0 site k1 l1 (omega arith) second same1

  own2 : HasNumber l2.view.numbers 2
  own2 = has_own 2 0 site k2 l2 (omega arith) third same2

  -- what the last pass has seen of each
  all0 : HasNumber i.numbers 0
  all0 = has_left j l2.view i 0 two (has_left l0.view l1.view j 0 one own0)

  all1 : HasNumber i.numbers 1
  all1 = has_left j l2.view i 1 two (has_right l0.view l1.view j 1 one own1)

  all2 : HasNumber i.numbers 2
  all2 = has_right j l2.view i 2 two own2

  seen0 : steps_by 0 i.seen ≡ steps_by 0 l0.view.seen
  seen0 = two.my_steps 0 (has_left l0.view l1.view j 0 one own0) ∙ one.my_steps 0 own0

  seen1 : steps_by 1 i.seen ≡ steps_by 1 l1.view.seen
  seen1 = two.my_steps 1 (has_right l0.view l1.view j 1 one own1) ∙ one.their_steps 1 own1

  seen2 : steps_by 2 i.seen ≡ steps_by 2 l2.view.seen
  seen2 = two.their_steps 2 own2

  pub steps0 : steps_by 0 run ≡ steps_by 0 l0.view.seen
  steps0 = closes.steps 0 all0 ∙ seen0

  pub steps1 : steps_by 1 run ≡ steps_by 1 l1.view.seen
  steps1 = closes.steps 1 all1 ∙ seen1

  pub steps2 : steps_by 2 run ≡ steps_by 2 l2.view.seen
  steps2 = closes.steps 2 all2 ∙ seen2

  three : i.made ≡ 3
  three =
      omega (arith, two.made, one.made, same0.made, same1.made, same2.made, ap (λ (v : View). v.made) first, ap (λ (v : View). v.made) second, ap (λ (v : View). v.made) third)

  pub no_others : (x : ℕ) → 3 ≤ x → steps_by x run ≡ []
  no_others x le = closes.callers x (omega (arith, three, le))

  -- no worker met a full run
  pub never_full : (xs ys zs : List Step) (e0 e1 e2 : Ended) → Works k0.view l0.view xs e0 → Works k1.view l1.view ys e1 → Works k2.view l2.view zs e2
      → length xs + length ys + length zs ≤ MAX_RUN → (e0 ≡ Full) ⊎ ((e1 ≡ Full) ⊎ (e2 ≡ Full)) → ⊥
  never_full xs ys zs e0 e1 e2 w0 w1 w2 few full =
      let met = one_met full in
      let below : steps_below i.made i.seen < MAX_RUN = subst (λ (m : ℕ). steps_below m i.seen < MAX_RUN) (sym three) (omega (
        arith,
        few,
        met.0,
        few_of 0 3 site k0 l0 xs e0 first w0,
        few_of 1 0 site k1 l1 ys e1 second w1,
        few_of 2 0 site k2 l2 zs e2 third w2,
        ap (λ (l : List Step). length l) seen0,
        ap (λ (l : List Step). length l) seen1,
        ap (λ (l : List Step). length l) seen2,
      )) in
      omega (arith, had_room i p run closes below, met.1, one.floor, two.floor)
    where
      -- who met a full run made fewer steps than its list has, and knew that the run was full
      one_met : (e0 ≡ Full) ⊎ ((e1 ≡ Full) ⊎ (e2 ≡ Full)) → (1 ≤ left_out e0 + left_out e1 + left_out e2) × (MAX_RUN ≤ max (max l0.view.floor l1.view.floor) l2.view.floor)
      one_met (inl x) = (omega (arith, ap left_out x), omega (arith, is_full k0.view l0.view xs e0 x w0))
      one_met (inr (inl x)) = (omega (arith, ap left_out x), omega (arith, is_full k1.view l1.view ys e1 x w1))
      one_met (inr (inr x)) = (omega (arith, ap left_out x), omega (arith, is_full k2.view l2.view zs e2 x w2))
