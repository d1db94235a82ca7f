-- How runs over links end.
use Rattle.std.specs.Prelude.{◌≡◌, ◌==◌, ℕ, ◌+◌, ◌≤◌, Bool, true, false, List, [], ◌∷◌, length, Option, Some, None, Result}
use Rattle.edit_io.specs.Link.{with_last}
use Rattle.peer_step.specs.declared.step.Step.{Step}
use Rattle.peer_core.specs.Peer.{fresh_peer}
use Rattle.peer_lock.specs.declared.call.Call.{Call}
use Rattle.peer_lock.specs.Run.{peer_after_run}
use Rattle.session_core.specs.declared.fault.SessionFault.{SessionFault}
use Rattle.session_core.specs.Events.{serving, dialling}
use Rattle.link_run.specs.declared.own.OwnEnd.{OwnEnd}
use Rattle.link_run.specs.declared.own.OwnEnd.TheVariants.{Done, RunFull, NoMemory}
use Rattle.link_run.specs.declared.left.LinkRun.{LinkRun}
use Rattle.link_run.specs.Served.{OwnIn, IsRunOf}
use Rattle.link_run.specs.Standing.{SessionInRun, LinksInRun, LinksUntouched}

-- the run is of a peer of this site, and leads to the peer that is left
pub record LedFrom (site : ℕ) (r : LinkRun) : Type 0 where
  pub site_is : r.history.site ≡ site
  pub peer_is : r.peer ≡ peer_after_run (fresh_peer r.history.site) r.history.run

-- the own steps in the run are those of the list, or, where they were cut, the first ones
abbrev pub OwnEnds : List Step → Option OwnEnd → List Call → Type 0
OwnEnds steps None run = ⊥
OwnEnds steps (Some own) run = OwnIn steps own run

-- all links were taken, each had its session beside the own steps, and nobody else made a step
pub record ServedAll {L : Type 0} (got sent : L → Option (List (List ℕ))) (faults closes : L → ℕ) (site links : ℕ) (steps : List Step) (used used' : Option (List L)) (own : Option OwnEnd) (outcomes : List (Option (Result ℕ SessionFault))) (run : List Call) : Type 0 where
  pub taken : length outcomes ≡ links
  pub own_steps : OwnEnds steps own run
  pub callers : IsRunOf (links + 1) run
  pub in_run : LinksInRun got sent faults closes (serving (site == 0)) site used used' outcomes run

-- the door failed first, no step was made, and the links that it had given came back untouched
pub record ServedNone {L : Type 0} (got sent : L → Option (List (List ℕ))) (faults closes : L → ℕ) (links : ℕ) (used used' : Option (List L)) (own : Option OwnEnd) (outcomes : List (Option (Result ℕ SessionFault))) (run : List Call) : Type 0 where
  pub taken : length outcomes ≤ links
  pub no_own : own ≡ None
  pub no_step : run ≡ []
  pub untouched : LinksUntouched got sent faults closes used used' outcomes

-- how a serve ends, by whether the door failed
abbrev pub ServeEnds : {L : Type 0} → (L → Option (List (List ℕ))) → (L → Option (List (List ℕ))) → (L → ℕ) → (L → ℕ) → ℕ → ℕ → List Step → Option (List L) → Option (List L) → Option OwnEnd → Bool → List (Option (Result ℕ SessionFault)) → List Call → Type 0
ServeEnds got sent faults closes site links steps used used' own true outcomes run = ServedNone got sent faults closes links used used' own outcomes run
ServeEnds got sent faults closes site links steps used used' own false outcomes run = ServedAll got sent faults closes site links steps used used' own outcomes run

-- the own steps ended so, nobody else made a step, and no link was given
abbrev pub NoLink : {L : Type 0} → List Step → Option (List L) → Option (List L) → OwnEnd → List Call → Type 0
NoLink steps used used' own run = OwnIn steps own run × IsRunOf 1 run × (used' ≡ used)

-- how a dial ends. The door gave a link, whose session stands behind the own steps, and nobody else made a step; or it
-- failed; or the own steps were cut, and it wasn't asked
abbrev pub DialEnds : {L : Type 0} → (L → Option (List (List ℕ))) → (L → Option (List (List ℕ))) → (L → ℕ) → (L → ℕ) → ℕ → ℕ → List Step → Option (List L) → Option (List L) → Option OwnEnd → Bool → List (Option (Result ℕ SessionFault)) → List Call → Type 0
DialEnds {L} got sent faults closes site rounds steps used used' (Some Done) false (Some ended ∷ []) run =
    (link : L) × (used' ≡ with_last used (link ∷ [])) × IsRunOf 1 run × SessionInRun got sent faults closes (dialling (site == 0) rounds) site 0 steps run link ended
DialEnds got sent faults closes site rounds steps used used' (Some Done) true [] run = NoLink steps used used' Done run
DialEnds got sent faults closes site rounds steps used used' (Some RunFull) false [] run = NoLink steps used used' RunFull run
DialEnds got sent faults closes site rounds steps used used' (Some NoMemory) false [] run = NoLink steps used used' NoMemory run
DialEnds got sent faults closes site rounds steps used used' own failed outcomes run = ⊥

-- how own steps end where no door is asked: nobody else makes a step
pub record AloneEnds (steps : List Step) (own : Option OwnEnd) (failed : Bool) (outcomes : List (Option (Result ℕ SessionFault))) (run : List Call) : Type 0 where
  pub own_steps : OwnEnds steps own run
  pub callers : IsRunOf 1 run
  pub no_fault : failed ≡ false
  pub no_link : outcomes ≡ []
