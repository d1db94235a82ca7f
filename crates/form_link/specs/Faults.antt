-- The faults that a peer meets that is run over links.
use Rattle.std.specs.Prelude.{ℕ, ◌+◌, Bool, List, [], ◌∷◌, ◌++◌, Option, Some, None, Result, Ok, Err, option_to_list, if◌then◌else◌}
use Rattle.link_run.specs.declared.own.OwnEnd.{OwnEnd}
use Rattle.link_run.specs.declared.own.OwnEnd.TheVariants as own_end
use Rattle.session_core.specs.declared.fault.SessionFault.{SessionFault}
use Rattle.line_input.specs.declared.reading.InputEnd.{InputEnd}
use Rattle.line_input.specs.declared.reading.InputEnd.TheVariants as input_end
use Rattle.form_link.specs.declared.faults.Fault.{Fault}
use Rattle.form_link.specs.declared.faults.Fault.TheVariants.{Door, BadLine, TooLong, Read, NoMemory, Link}

-- the fault of an input that ended so
abbrev pub input_fault : InputEnd → Option Fault
input_fault input_end.Whole = None
input_fault (input_end.BadLine k) = Some (BadLine k)
input_fault input_end.TooLong = Some TooLong
input_fault input_end.ReadFault = Some Read
input_fault input_end.NoMemory = Some NoMemory

-- the fault of the own steps: that they met, or else that of their input; none where none was to be made
abbrev pub own_fault : InputEnd → Option OwnEnd → Option Fault
own_fault end None = None
own_fault end (Some own_end.RunFull) = Some TooLong
own_fault end (Some own_end.NoMemory) = Some NoMemory
own_fault end (Some own_end.Done) = input_fault end

-- the fault of a session that ended so, on the link of this number
abbrev pub outcome_fault : ℕ → Option (Result ℕ SessionFault) → Option Fault
outcome_fault number None = None
outcome_fault number (Some (Ok turns)) = None
outcome_fault number (Some (Err fault)) = Some (Link number fault)

-- the faults of sessions, in order, of which the first was on the link of this number
abbrev pub link_faults : ℕ → List (Option (Result ℕ SessionFault)) → List Fault
link_faults number [] = []
link_faults number (outcome ∷ outcomes) = option_to_list (outcome_fault number outcome) ++ link_faults (number + 1) outcomes

-- the fault of a door that has failed or hasn't
abbrev pub door_fault : Bool → Option Fault
door_fault failed = if failed then Some Door else None

-- all faults: that of the door, that of the own steps, and those of the sessions
abbrev pub faults_of : Bool → InputEnd → Option OwnEnd → List (Option (Result ℕ SessionFault)) → List Fault
faults_of failed end own outcomes = option_to_list (door_fault failed) ++ (option_to_list (own_fault end own) ++ link_faults 1 outcomes)
