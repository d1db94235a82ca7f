-- Runs over links, and what they leave of a door.
use Rattle.std.proofs.Common.{◌≡◌, ◌≢◌, ℕ, ◌+◌, List, Option, Ok, inl, ap, ◌∙◌, subst}
use Rattle.std.specs.declared.result.Result.{Result}
use Rattle.element_name.specs.declared.no_memory.NoMemory.{NoMemory}
use Rattle.line_engine.specs.declared.status.Status.{Status}
use Rattle.line_engine.specs.Engine.{Says}
use Rattle.peer_step.specs.declared.step.Step.{Step}
use Rattle.line_input.specs.declared.reading.InputEnd.{InputEnd}
use Rattle.line_input.specs.declared.reading.InputEnd.TheVariants as input_end
use Rattle.line_input.specs.Steps.{ReadSteps, EndCause}
use Rattle.link_run.specs.declared.left.LinkRun.{LinkRun}
use Rattle.link_run.specs.Counts.{links_given, links_hurt, door_failures, LeavesDoor}
use Rattle.link_run.specs.Ends.{LedFrom}
use Rattle.form_link.specs.Faults.{faults_of}
use Rattle.form_link.specs.Report.{link_output}
use Rattle.form_link.specs.Form.{DoorState, door_state, DoorAfter, RunEnds, ReadAndRan}

-- what a run leaves of a door
pub door_ok : {D L : Type 0} {faults given returned hurt : D → ℕ} {used : D → Option (List L)} {d d' : D} {r : Result LinkRun NoMemory} {run : LinkRun} → LeavesDoor faults given returned hurt used d d' r → r ≡ Ok run
    → DoorAfter (door_state (faults d) (given d) (returned d) (hurt d) (used d)) (door_state (faults d') (given d') (returned d') (hurt d') (used d')) run.door_failed run.links.items
door_ok {faults = faults} {given = given} {returned = returned} {hurt = hurt} {d = d} left is = record {
  faults_are = left.faults_are ∙ ap (λ (x : Result LinkRun NoMemory). faults d + door_failures x) is;
  given_are = left.given_are ∙ ap (λ (x : Result LinkRun NoMemory). given d + links_given x) is;
  returned_are = left.returned_are ∙ ap (λ (x : Result LinkRun NoMemory). returned d + links_given x) is;
  hurt_are = left.hurt_are ∙ ap (λ (x : Result LinkRun NoMemory). hurt d + links_hurt x) is;
}

-- a run that was told, of the steps of an input
module _ {L : Type 0} (Ends : List Step → InputEnd → RunEnds) (site : ℕ) (l r : Option (List ℕ)) (f f' : ℕ) (a b : Option (List ℕ)) (d d' : DoorState L) (steps given : List Step) (end : InputEnd)
    (read : (input : List ℕ) × ReadSteps l r input steps end) (cause : EndCause f f' end) where
  pub form_told : (s : Status) (run : LinkRun) → LedFrom site run → end ≢ input_end.NoMemory → given ≡ steps → Ends given end run.own run.door_failed run.links.items run.history.run → DoorAfter d d' run.door_failed run.links.items
      → (w : List ℕ) × Says a b s (link_output run.history.site run.history.run (faults_of run.door_failed end run.own run.links.items)) w
      → ReadAndRan Ends site l r f f' a b d d' s
  form_told s run led had_memory same ends door says = record {
    input = read.0;
    steps = steps;
    end = end;
    read = read.1;
    read_cause = cause;
    ran = inl (record {
      had_memory = had_memory;
      own = run.own;
      door_failed = run.door_failed;
      outcomes = run.links.items;
      run = run.history.run;
      written = says.0;
      ends = subst (λ (xs : List Step). Ends xs end run.own run.door_failed run.links.items run.history.run) same ends;
      door = door;
      says = subst (λ (n : ℕ). Says a b s (link_output n run.history.run (faults_of run.door_failed end run.own run.links.items)) says.0) led.site_is says.1;
    });
  }
