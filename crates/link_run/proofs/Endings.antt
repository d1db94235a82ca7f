-- From what the parts leave to how a whole run ends.
use Rattle.std.proofs.Common.{◌≡◌, ◌==◌, ℕ, ◌+◌, Bool, List, Option, Result, Ok, Err, length, refl, sym, ap, ◌∙◌, subst, arith}
use Rattle.std.specs.Prelude.{slice_get, sum_by, IfErr}
use Rattle.atomic_table.specs.Seated.{TableId}
use Rattle.edit_io.specs.Door.{IsUnused}
use Rattle.peer_step.specs.declared.step.Step.{Step}
use Rattle.peer_core.specs.Peer.{Peer, fresh_peer}
use Rattle.peer_lock.specs.declared.call.Call.{Call}
use Rattle.peer_lock.specs.declared.view.View.{View}
use Rattle.peer_lock.specs.KnownPass.{KnownPass}
use Rattle.peer_lock.specs.Run.{steps_by, peer_after_run}
use Rattle.peer_lock.specs.Laws.{answers_by}
use Rattle.peer_lock.specs.Rule.{newcomer, HasNumber}
use Rattle.peer_lock.specs.Answers.{IsSame, KnowsFull, ClosesRun}
use Rattle.session_core.specs.declared.fault.SessionFault.{SessionFault}
use Rattle.session_core.specs.declared.fault.SessionFault.TheVariants as session_faults
use Rattle.session_core.specs.Events.{Mode, serving}
use Rattle.session_core.specs.Session.{side, Session, pass_steps, pass_answers, FullIsKnown, LeavesSide}
use Rattle.link_run.specs.declared.job.Job.{Job}
use Rattle.link_run.specs.declared.own.OwnEnd.{OwnEnd}
use Rattle.link_run.specs.Gathered.{EachOf, IsIn}
use Rattle.link_run.specs.Jobs.{links_of}
use Rattle.link_run.specs.Taken.{IsUnservedJob}
use Rattle.link_run.specs.Worked.{MakesOwn}
use Rattle.link_run.specs.Served.{OwnIn, IsFullRun, HaveDealtPasses}
use Rattle.link_run.proofs.Gathering.{joins_none, length-outcomes}
use Rattle.link_run.proofs.Wholly.{has_one, own_steps_in_run, steps_in_run, answers_in_run}
use Rattle.link_run.specs.Passes.{IsSolePass}
use Rattle.link_run.specs.Standing.{SessionInRun, LinksInRun}
use Rattle.link_run.specs.declared.left.LinkRun.{LinkRun}
use Rattle.link_run.specs.Ends.{LedFrom, DialEnds}
use Rattle.link_run.specs.Counts.{failures_in}
use Rattle.link_run.proofs.WorkedLinks.{LinksIn}
use Rattle.link_run.proofs.Standings.{talk_in_run, links_in_run, as_many_outcomes, hurt_worked}

-- ---- one pass

-- the pass of a peer that is alone
pub fresh_sole : (k : KnownPass) (table : TableId) (site : ℕ) → k.table ≡ table → k.view ≡ newcomer 0 1 site → IsSolePass table site k
fresh_sole k table site at new = record {
  table_is = at;
  number_is = ap (λ (v : View). v.number) new;
  numbers_are = ap (λ (v : View). v.numbers) new;
  origin_is = ap (λ (v : View). v.origin) new;
  made_is = ap (λ (v : View). v.made) new;
}

-- after its steps
pub sole_same : (table : TableId) (site : ℕ) (k l : KnownPass) → IsSolePass table site k → IsSame k l → IsSolePass table site l
sole_same table site k l sole same = record {
  table_is = same.table ∙ sole.table_is;
  number_is = same.number ∙ sole.number_is;
  numbers_are = same.numbers ∙ sole.numbers_are;
  origin_is = same.origin ∙ sole.origin_is;
  made_is = same.made ∙ sole.made_is;
}

-- it stands for all
pub stands_for_all : (table : TableId) (site : ℕ) (k : KnownPass) → IsSolePass table site k → length k.view.numbers ≡ k.view.made
stands_for_all table site k sole = omega (arith, ap (λ (l : List ℕ). length l) sole.numbers_are, sole.made_is)

-- a run that a pass of this site closed
pub led_from : (site : ℕ) (v : View) (r : LinkRun) → v.origin ≡ site → ClosesRun v r.peer r.history.run → r.history.site ≡ v.origin → LedFrom site r
led_from site v r origin closes of = record { site_is = of ∙ origin; peer_is = closes.peer ∙ ap (λ (o : ℕ). peer_after_run (fresh_peer o) r.history.run) (sym of) }

-- the own steps in its run
pub own_in_run : (k l : KnownPass) (table : TableId) (site : ℕ) (steps : List Step) (r : OwnEnd) (p : Peer) (run : List Call)
    → k.view ≡ newcomer 0 1 site → IsSolePass table site l → MakesOwn k.view l.view steps r → ClosesRun l.view p run → OwnIn steps r run
own_in_run k l table site steps r p run new sole made closes =
    let mine : HasNumber l.view.numbers 0 = has_one 0 l.view.numbers sole.numbers_are in
    own_steps_in_run k.view l.view 1 site steps r run new (closes.steps 0 mine) closes.floor made

-- a session behind them
talked_behind : {L : Type 0} (got sent : L → Option (List (List ℕ))) (faults closes : L → ℕ) (mode : Mode) (site : ℕ) (k l : KnownPass) (a b : L) (ended : Result ℕ SessionFault) (run : List Call)
    → Session mode (side k (got a) (sent a)) (side l (got b) (sent b)) ended
    → IsUnused (faults a) (closes a) (got a) (sent a) → LeavesSide closes faults k l a b ended
    → steps_by 0 run ≡ pass_steps l → answers_by 0 (fresh_peer site) run ≡ pass_answers l → (ended ≡ Err session_faults.RunFull → IsFullRun run)
    → SessionInRun got sent faults closes mode site 0 (pass_steps k) run b ended
talked_behind got sent faults closes mode site k l a b (Ok n) run session unused left steps answers full =
    talk_in_run got sent faults closes mode site 0 (pass_steps k) run k l a b (Ok n) session.0 session.1 (session.2, session.3) unused left refl steps answers full
talked_behind got sent faults closes mode site k l a b (Err fault) run session unused left steps answers full =
    talk_in_run got sent faults closes mode site 0 (pass_steps k) run k l a b (Err fault) session.0 session.1 session.2 unused left refl steps answers full

full_of : (k : KnownPass) (p : Peer) (run : List Call) (ended : Result ℕ SessionFault) → IfErr ended (FullIsKnown k.view) → ClosesRun k.view p run → ended ≡ Err session_faults.RunFull → IsFullRun run
full_of k p run ended full closes e = let at : KnowsFull k.view = subst (λ (r : Result ℕ SessionFault). IfErr r (FullIsKnown k.view)) e full refl in omega (arith, at, closes.floor)

pub dialled_in_run : {L : Type 0} (got sent : L → Option (List (List ℕ))) (faults closes : L → ℕ) (mode : Mode) (table : TableId) (site : ℕ) (k l : KnownPass) (a b : L) (ended : Result ℕ SessionFault) (p : Peer) (run : List Call)
    → Session mode (side k (got a) (sent a)) (side l (got b) (sent b)) ended → LeavesSide closes faults k l a b ended
    → IsUnused (faults a) (closes a) (got a) (sent a)
    → IsSolePass table site l → ClosesRun l.view p run
    → SessionInRun got sent faults closes mode site 0 (pass_steps k) run b ended
dialled_in_run got sent faults closes mode table site k l a b ended p run session left unused sole closing =
    let self : IsIn l.view l.view = (joins_none l).mine in
    talked_behind got sent faults closes mode site k l a b ended run session unused left
    (steps_in_run l l p run 0 sole.number_is sole.numbers_are self closing)
    (answers_in_run l l p run 0 site sole.number_is sole.numbers_are sole.origin_is self closing)
    (full_of l p run ended left.full closing)

-- the same end of a dial, by equations
pub dial_ends_at : {L : Type 0} (got sent : L → Option (List (List ℕ))) (faults closes : L → ℕ) (site rounds : ℕ) (steps : List Step) (used used' : Option (List L)) (own own' : Option OwnEnd) (failed failed' : Bool) (outcomes outcomes' : List (Option (Result ℕ SessionFault))) (run : List Call)
    → own ≡ own' → failed ≡ failed' → outcomes ≡ outcomes'
    → DialEnds got sent faults closes site rounds steps used used' own' failed' outcomes' run → DialEnds got sent faults closes site rounds steps used used' own failed outcomes run
dial_ends_at got sent faults closes site rounds steps used used' own own' failed failed' outcomes outcomes' run e f g ends =
    subst (λ (x : Option OwnEnd). DialEnds got sent faults closes site rounds steps used used' x failed outcomes run) (sym e)
    (subst (λ (x : Bool). DialEnds got sent faults closes site rounds steps used used' own' x outcomes run) (sym f)
    (subst (λ (x : List (Option (Result ℕ SessionFault))). DialEnds got sent faults closes site rounds steps used used' own' failed' x run) (sym g) ends))

-- ---- many links

pub links_stand : {L : Type 0} (got sent : L → Option (List (List ℕ))) (faults closes : L → ℕ) (site : ℕ) (table : TableId) (before : List (Job L)) (used used' : Option (List L)) (hurt hurt' : ℕ) (outcomes : List (Option (Result ℕ SessionFault))) (run : List Call)
    → HaveDealtPasses table site before → EachOf (IsUnservedJob got sent faults closes) before → LinksIn got sent faults closes site before used used' hurt hurt' outcomes run
    → LinksInRun got sent faults closes (serving (site == 0)) site used used' outcomes run
links_stand got sent faults closes site table before used used' hurt hurt' outcomes run dealt ready l = record {
  links = links_of l.after;
  many = as_many_outcomes l.after ∙ ap (λ (os : List (Option (Result ℕ SessionFault))). length os) (sym l.outcomes_are);
  used_is = l.used_is;
  each = λ i link o there told.
      links_in_run got sent faults closes (site == 0) site table before l.after run dealt ready l.many l.worked l.steps_are l.answers_are l.full i link o there
      (ap (λ (os : List (Option (Result ℕ SessionFault))). slice_get os i) (sym l.outcomes_are) ∙ told);
}

pub links_counted : {L : Type 0} (got sent : L → Option (List (List ℕ))) (faults closes : L → ℕ) (site : ℕ) (before : List (Job L)) (used used' : Option (List L)) (hurt hurt' : ℕ) (outcomes : List (Option (Result ℕ SessionFault))) (run : List Call)
    → LinksIn got sent faults closes site before used used' hurt hurt' outcomes run → length outcomes ≡ length before
links_counted got sent faults closes site before used used' hurt hurt' outcomes run l =
    ap (λ (os : List (Option (Result ℕ SessionFault))). length os) l.outcomes_are ∙ length-outcomes l.after ∙ l.many

pub links_failed : {L : Type 0} (got sent : L → Option (List (List ℕ))) (faults closes : L → ℕ) (site : ℕ) (before : List (Job L)) (used used' : Option (List L)) (hurt hurt' : ℕ) (outcomes : List (Option (Result ℕ SessionFault))) (run : List Call)
    → EachOf (IsUnservedJob got sent faults closes) before → LinksIn got sent faults closes site before used used' hurt hurt' outcomes run → hurt' ≡ hurt + sum_by failures_in outcomes
links_failed got sent faults closes site before used used' hurt hurt' outcomes run ready l =
    omega (
      arith,
      l.hurt_is,
      hurt_worked got sent faults closes (site == 0) before l.after l.many ready l.worked,
      ap (λ (os : List (Option (Result ℕ SessionFault))). sum_by failures_in os) l.outcomes_are,
    )
