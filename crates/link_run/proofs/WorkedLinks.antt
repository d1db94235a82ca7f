-- Links that were worked, in the run that all workers made.
use Rattle.std.proofs.Common.{◌≡◌, ◌==◌, ℕ, ◌+◌, ◌<◌, List, [], ◌∷◌, Option, Some, Result, Err, length, slice_index_or, ap, ◌∙◌, arith}
use Rattle.edit_io.specs.Link.{with_last}
use Rattle.atomic_table.specs.Seated.{TableId}
use Rattle.peer_core.specs.Peer.{Peer, fresh_peer}
use Rattle.peer_lock.specs.declared.call.Call.{Call}
use Rattle.peer_lock.specs.declared.view.View.{View}
use Rattle.peer_lock.specs.KnownPass.{KnownPass}
use Rattle.peer_lock.specs.Run.{steps_by}
use Rattle.peer_lock.specs.Laws.{answers_by}
use Rattle.peer_lock.specs.Answers.{ClosesRun}
use Rattle.session_core.specs.declared.fault.SessionFault.{SessionFault}
use Rattle.session_core.specs.declared.fault.SessionFault.TheVariants as session_faults
use Rattle.session_core.specs.Session.{pass_steps, pass_answers}
use Rattle.link_run.specs.declared.job.Job.{Job}
use Rattle.link_run.specs.Gathered.{EachOf, IsIn}
use Rattle.link_run.specs.Jobs.{passes_of, links_of, outcomes_of}
use Rattle.link_run.specs.Taken.{hurt_among}
use Rattle.link_run.specs.Worked.{Worked}
use Rattle.link_run.specs.Served.{HaveDealtPasses, IsFullRun}
use Rattle.link_run.proofs.Wholly.{each_index, steps_in_run, answers_in_run, full_in_run}

-- each job was worked; its caller's steps and their answers in the run are those that its session shows; its link came
-- back, and how it ended was noted
pub record LinksIn {L : Type 0} (got sent : L → Option (List (List ℕ))) (faults closes : L → ℕ) (site : ℕ) (before : List (Job L)) (used used' : Option (List L)) (hurt hurt' : ℕ) (outcomes : List (Option (Result ℕ SessionFault))) (run : List Call) : Type 0 where
  pub after : List (Job L)
  pub many : length after ≡ length before
  pub used_is : used' ≡ with_last used (links_of after)
  pub hurt_is : hurt' ≡ hurt + hurt_among faults (links_of after)
  pub outcomes_are : outcomes ≡ outcomes_of after
  pub worked : (i : ℕ) (d : Job L) → i < length before → Worked got sent faults closes (site == 0) (slice_index_or before i d) (slice_index_or after i d)
  pub steps_are : (i : ℕ) (d : Job L) → i < length before → steps_by (i + 1) run ≡ pass_steps (slice_index_or after i d).pass
  pub answers_are : (i : ℕ) (d : Job L) → i < length before → answers_by (i + 1) (fresh_peer site) run ≡ pass_answers (slice_index_or after i d).pass
  -- where a session met the full run, the run is full
  pub full : (i : ℕ) (d : Job L) → i < length before → (slice_index_or after i d).outcome ≡ Some (Err session_faults.RunFull) → IsFullRun run

module _ {L : Type 0} (got sent : L → Option (List (List ℕ))) (faults closes : L → ℕ) (site : ℕ) (table : TableId) (before after : List (Job L)) (last : KnownPass) (p : Peer) (run : List Call)
    (dealt : HaveDealtPasses table site before) (many : length after ≡ length before)
    (worked : (i : ℕ) (d : Job L) → i < length before → Worked got sent faults closes (site == 0) (slice_index_or before i d) (slice_index_or after i d))
    (joined : EachOf (λ (o : KnownPass). IsIn o.view last.view) (passes_of after)) (closing : ClosesRun last.view p run) where
  -- the last pass knows what the pass of each job knew
  in_last : (i : ℕ) (d : Job L) → i < length before → IsIn (slice_index_or after i d).pass.view last.view
  in_last i d less = each_index (λ (o : KnownPass). IsIn o.view last.view) after i d joined (omega (arith, many))

  -- which is still the one that was dealt
  number_is : (i : ℕ) (d : Job L) → i < length before → (slice_index_or after i d).pass.view.number ≡ i + 1
  number_is i d less = (worked i d less).same.number ∙ ap (λ (v : View). v.number) (dealt i d less).1

  numbers_are : (i : ℕ) (d : Job L) → i < length before → (slice_index_or after i d).pass.view.numbers ≡ (i + 1) ∷ []
  numbers_are i d less = (worked i d less).same.numbers ∙ ap (λ (v : View). v.numbers) (dealt i d less).1

  origin_is : (i : ℕ) (d : Job L) → i < length before → (slice_index_or after i d).pass.view.origin ≡ site
  origin_is i d less = (worked i d less).same.origin ∙ ap (λ (v : View). v.origin) (dealt i d less).1

  pub links_in : (used used' : Option (List L)) (hurt hurt' : ℕ) (outcomes : List (Option (Result ℕ SessionFault)))
      → used' ≡ with_last used (links_of after) → hurt' ≡ hurt + hurt_among faults (links_of after) → outcomes ≡ outcomes_of after
      → LinksIn got sent faults closes site before used used' hurt hurt' outcomes run
  links_in used used' hurt hurt' outcomes back failed noted = record {
    after = after;
    many = many;
    used_is = back;
    hurt_is = failed;
    outcomes_are = noted;
    worked = worked;
    steps_are = λ i d less. steps_in_run (slice_index_or after i d).pass last p run (i + 1) (number_is i d less) (numbers_are i d less) (in_last i d less) closing;
    answers_are = λ i d less.
        answers_in_run (slice_index_or after i d).pass last p run (i + 1) site (number_is i d less) (numbers_are i d less) (origin_is i d less) (in_last i d less) closing;
    full = λ i d less is.
        full_in_run got sent faults closes (site == 0) (slice_index_or before i d) (slice_index_or after i d) (slice_index_or after i d).outcome last.view p run
        (worked i d less).ended is (in_last i d less) closing;
  }
