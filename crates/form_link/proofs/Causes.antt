-- Why a link fault is answered.
use Rattle.std.proofs.Common.{◌≡◌, ℕ, ◌+◌, ◌<◌, Bool, true, false, List, [], ◌∷◌, ◌++◌, Option, Some, None, Ok, Err, ◌⊎◌, inl, inr, refl, sym, ap, ◌∙◌, subst, arith}
use Rattle.std.specs.Prelude.{option_to_list, sum_by, if◌then◌else◌}
use Rattle.std.specs.List.{list_any}
use Rattle.std.specs.declared.result.Result.{Result}
use Rattle.std.proofs.lemmas.List.Sums.{sum_by-cons}
use Rattle.line_engine.specs.declared.status.Status.{Status}
use Rattle.line_engine.specs.declared.status.Status.TheVariants as status
use Rattle.line_engine.specs.Status.{IsSinkFail}
use Rattle.line_engine.specs.Output.{Output}
use Rattle.line_engine.specs.Engine.{Says}
use Rattle.peer_lock.specs.declared.call.Call.{Call}
use Rattle.session_core.specs.declared.fault.SessionFault.{SessionFault}
use Rattle.session_core.specs.declared.fault.SessionFault.TheVariants as session
use Rattle.link_run.specs.declared.own.OwnEnd.{OwnEnd}
use Rattle.link_run.specs.declared.own.OwnEnd.TheVariants as own_end
use Rattle.line_input.specs.declared.reading.InputEnd.{InputEnd}
use Rattle.line_input.specs.declared.reading.InputEnd.TheVariants as input_end
use Rattle.link_run.specs.declared.left.LinkRun.{LinkRun}
use Rattle.link_run.specs.Counts.{failures_in}
use Rattle.form_link.specs.declared.faults.Fault.{Fault}
use Rattle.form_link.specs.Faults.{own_fault, link_faults, faults_of}
use Rattle.form_link.specs.Lines.{wants_memory, first_status, faults_status}
use Rattle.form_link.specs.Report.{link_output}
use Rattle.form_link.specs.Form.{DoorState, DoorAfter, HasLinkCause}

-- some link has failed
abbrev Failed : List (Option (Result ℕ SessionFault)) → Type 0
Failed outcomes = 0 < sum_by failures_in outcomes

failed_later : (o : Option (Result ℕ SessionFault)) (os : List (Option (Result ℕ SessionFault))) → Failed os → Failed (o ∷ os)
failed_later o os lt = let more : 0 < sum_by failures_in os = lt in omega (arith, sum_by-cons failures_in o os)

link_first : (k : ℕ) (outcomes : List (Option (Result ℕ SessionFault))) → first_status (link_faults k outcomes) ≡ status.LinkFault → Failed outcomes
link_first k [] e = absurd cc
link_first k (None ∷ os) e = failed_later None os (link_first (k + 1) os e)
link_first k (Some (Ok n) ∷ os) e = failed_later (Some (Ok n)) os (link_first (k + 1) os e)
link_first k (Some (Err session.LinkFault) ∷ os) e = omega (arith, sum_by-cons failures_in (Some (Err session.LinkFault)) os)
link_first k (Some (Err session.Closed) ∷ os) e = absurd cc
link_first k (Some (Err (session.BadFrame fault)) ∷ os) e = absurd cc
link_first k (Some (Err session.RunFull) ∷ os) e = absurd cc
link_first k (Some (Err session.NoMemory) ∷ os) e = absurd cc

-- own steps give no link fault
own_first : (end : InputEnd) (own : Option OwnEnd) (outcomes : List (Option (Result ℕ SessionFault)))
    → first_status (option_to_list (own_fault end own) ++ link_faults 1 outcomes) ≡ status.LinkFault → Failed outcomes
own_first end None outcomes e = link_first 1 outcomes e
own_first end (Some own_end.RunFull) outcomes e = absurd cc
own_first end (Some own_end.NoMemory) outcomes e = absurd cc
own_first input_end.Whole (Some own_end.Done) outcomes e = link_first 1 outcomes e
own_first (input_end.BadLine k) (Some own_end.Done) outcomes e = absurd cc
own_first input_end.TooLong (Some own_end.Done) outcomes e = absurd cc
own_first input_end.ReadFault (Some own_end.Done) outcomes e = absurd cc
own_first input_end.NoMemory (Some own_end.Done) outcomes e = absurd cc

door_first : (failed : Bool) (end : InputEnd) (own : Option OwnEnd) (outcomes : List (Option (Result ℕ SessionFault)))
    → first_status (faults_of failed end own outcomes) ≡ status.LinkFault → (failed ≡ true) ⊎ Failed outcomes
door_first true end own outcomes e = inl refl
door_first false end own outcomes e = inr (own_first end own outcomes e)

-- the status is that of the first fault
status_first : (faults : List Fault) → faults_status faults ≡ status.LinkFault → first_status faults ≡ status.LinkFault
status_first faults = by (list_any wants_memory faults)
  where
    by : (wants : Bool) → (if wants then status.NoMemory else first_status faults) ≡ status.LinkFault → first_status faults ≡ status.LinkFault
    by true e = absurd cc
    by false e = e

-- a run that was told, and what it added to the counts of the door
module _ {L : Type 0} {d d' : DoorState L} (run : LinkRun) (after : DoorAfter d d' run.door_failed run.links.items) where
  counted : (run.door_failed ≡ true) ⊎ Failed run.links.items → (d.faults < d'.faults) ⊎ (d.hurt < d'.hurt)
  counted (inl e) =
      let grown : d'.faults ≡ d.faults + 1 = after.faults_are ∙ ap (λ (b : Bool). d.faults + (if b then 1 else 0)) e in
      inl (omega arith)
  counted (inr lt) =
      let some : 0 < sum_by failures_in run.links.items = lt in
      inr (omega (arith, after.hurt_are))

  pub told_cause : (site : ℕ) (end : InputEnd) (a b : Option (List ℕ)) (s : Status)
      → (w : List ℕ) × Says a b s (link_output site run.history.run (faults_of run.door_failed end run.own run.links.items)) w → HasLinkCause d.faults d'.faults d.hurt d'.hurt s
  told_cause site end a b s (w, says) e = by says.given
    where
      met : List Fault
      met = faults_of run.door_failed end run.own run.links.items

      by : (link_output site run.history.run met ≡ record { written = w; status = s }) ⊎ IsSinkFail s → (d.faults < d'.faults) ⊎ (d.hurt < d'.hurt)
      by (inl whole) =
          let given : faults_status met ≡ status.LinkFault = ap (λ (o : Output). o.status) whole ∙ e in
          counted (door_first run.door_failed end run.own run.links.items (status_first met given))
      by (inr (inl failed)) = let clash : status.WriteFault ≡ status.LinkFault = sym failed ∙ e in absurd cc
      by (inr (inr wanting)) = let clash : status.NoMemory ≡ status.LinkFault = sym wanting ∙ e in absurd cc

-- what was said of faults was said of these
pub told_so : (site : ℕ) (run : List Call) (fs gs : List Fault) (a b : Option (List ℕ)) (s : Status) → fs ≡ gs → (w : List ℕ) × Says a b s (link_output site run fs) w → (w : List ℕ) × Says a b s (link_output site run gs) w
told_so site run fs gs a b s is says = subst (λ (l : List Fault). (w : List ℕ) × Says a b s (link_output site run l) w) is says
