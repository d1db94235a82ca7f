-- The commands that the top call leaves to the plain one.
use Rattle.std.proofs.Common.{◌≡◌, ℕ, Bool, true, false, List, None, Some}
use Rattle.std.specs.declared.option.Option.{Option}
use Rattle.line_engine.specs.declared.status.Status.{Status}
use Rattle.form_link.specs.Form.{DoorState}
use Rattle.editor_main.specs.declared.command.Command.{Command}
use Rattle.editor_main.specs.declared.command.Command.TheVariants.{Replay, Feed, Make, Race, Serve, Dial, Watch, Certify, Audit, Keep}
use Rattle.editor_main.specs.Plain.{RanPlain}
use Rattle.editor_main.specs.Editor.{StreamState, AsksNoDoor, EditorEnds}

-- whether no threads and no other programs take part in a command, or there is none
abbrev pub is_plain : Option Command → Bool
is_plain (Some (Race site)) = false
is_plain (Some (Serve site port links)) = false
is_plain (Some (Dial site port rounds)) = false
is_plain (Some (Watch site reads)) = false
is_plain command = true

-- the plain call is then what the top call does
pub plain_ends : {L : Type 0} (got sent : L → Option (List (List ℕ))) (faults closes : L → ℕ) (command : Option Command) (source source' sink sink' : StreamState) (door door' : DoorState L) (status : Status)
    → is_plain command ≡ true
    → (input : List ℕ) × (written : List ℕ) × RanPlain command source.bytes source'.bytes sink.bytes sink'.bytes status input written
    → AsksNoDoor source source' sink sink' door door' status
    → EditorEnds got sent faults closes command source source' sink sink' door door' status
plain_ends got sent faults closes (Some (Race site)) source source' sink sink' door door' status plain ran asks = absurd (cc plain)
plain_ends got sent faults closes (Some (Serve site port links)) source source' sink sink' door door' status plain ran asks = absurd (cc plain)
plain_ends got sent faults closes (Some (Dial site port rounds)) source source' sink sink' door door' status plain ran asks = absurd (cc plain)
plain_ends got sent faults closes (Some (Watch site reads)) source source' sink sink' door door' status plain ran asks = absurd (cc plain)
plain_ends got sent faults closes (Some Replay) source source' sink sink' door door' status plain ran asks = (ran, asks)
plain_ends got sent faults closes (Some (Feed site)) source source' sink sink' door door' status plain ran asks = (ran, asks)
plain_ends got sent faults closes (Some (Make seed edits)) source source' sink sink' door door' status plain ran asks = (ran, asks)
plain_ends got sent faults closes (Some (Certify site)) source source' sink sink' door door' status plain ran asks = (ran, asks)
plain_ends got sent faults closes (Some Audit) source source' sink sink' door door' status plain ran asks = (ran, asks)
plain_ends got sent faults closes (Some (Keep site)) source source' sink sink' door door' status plain ran asks = (ran, asks)
plain_ends got sent faults closes None source source' sink sink' door door' status plain ran asks = (ran, asks)
