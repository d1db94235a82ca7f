-- What the top call writes.
use Rattle.std.specs.Prelude.{◌≡◌, ℕ, ◌≤◌, Bool, true, false, List, Option, Some, None, length}
use Rattle.std.specs.Io.KnownBytes.{Appends, Consumes, IsAtEnd, Keeps}
use Rattle.line_engine.specs.declared.limits.TheConstants.{MAX_INPUT}
use Rattle.line_engine.specs.declared.status.Status.{Status}
use Rattle.line_engine.specs.declared.status.Status.TheVariants.{Done, Usage, ReadFault}
use Rattle.line_engine.specs.Output.{Output, Ends}
use Rattle.line_engine.specs.Engine.{Told}
use Rattle.form_replay.specs.Replay.{replay_output, replay_part}
use Rattle.form_replay.specs.Headline.{Headline}
use Rattle.form_feed.specs.Feed.{feed_output, feed_part}
use Rattle.form_certificate.specs.Certify.{certify_output, certify_part}
use Rattle.form_certificate.specs.Audit.{audit_output, audit_part}
use Rattle.form_certificate.specs.Laws.{IsRightlyAnswered}
use Rattle.edit_make.specs.Schedule.{made_world}
use Rattle.edit_make.specs.Summary.{summary_text}
use Rattle.editor_main.specs.declared.command.Command.{Command}
use Rattle.editor_main.specs.declared.command.Command.TheVariants.{Replay, Feed, Make, Certify, Audit}
use Rattle.editor_main.specs.Forms.{usage_line}

-- what is written where the words name no command of a call, and the status
abbrev pub usage_output : Output
usage_output = record { written = usage_line; status = Usage }

-- the summary of the world that a seed makes, and the status
abbrev pub make_output : ℕ → ℕ → Output
make_output seed edits = record { written = summary_text seed edits (made_world seed edits); status = Done }

-- what a command writes of an input, and the status; where it is one of another call, or there is none, the usage line
abbrev pub plain_output : Option Command → List ℕ → Output
plain_output (Some Replay) input = replay_output input
plain_output (Some (Feed site)) input = feed_output site input
plain_output (Some (Make seed edits)) input = make_output seed edits
plain_output (Some (Certify site)) input = certify_output site input
plain_output (Some Audit) input = audit_output input
plain_output command input = usage_output

-- what a command writes of bytes after which reading fails; none where it reads nothing or they have a fault
abbrev pub plain_part : Option Command → List ℕ → Option (List ℕ)
plain_part (Some Replay) bytes = replay_part bytes
plain_part (Some (Feed site)) bytes = feed_part site bytes
plain_part (Some (Certify site)) bytes = certify_part bytes
plain_part (Some Audit) bytes = audit_part bytes
plain_part command bytes = None

-- whether a command reads its input
abbrev pub is_reader : Option Command → Bool
is_reader (Some Replay) = true
is_reader (Some (Feed site)) = true
is_reader (Some (Certify site)) = true
is_reader (Some Audit) = true
is_reader command = false

-- A top call over a source that had this input and a sink that was given these bytes.
-- Of a source that doesn't tell its bytes there are some of which this holds, and of a sink likewise.
pub record RanPlain (command : Option Command) (left_old left_new sink_old sink_new : Option (List ℕ)) (status : Status) (input written : List ℕ) : Type 0 where
  pub told : Told left_old input
  pub appends : Appends sink_old sink_new written
  -- with a whole status the bytes and the status are the output, else the bytes begin it
  pub ends : Ends status written (plain_output command input)
  -- with Done a command that reads has read its input to the end
  pub at_end : is_reader command ≡ true → status ≡ Done → IsAtEnd left_new
  -- where reading failed, all that was read counts, the bytes are the part of it, and nothing in it is bad
  pub read_fault : status ≡ ReadFault
      → (read : List ℕ) × Consumes left_old left_new read × (length read ≤ MAX_INPUT) × (plain_part command read ≡ Some written)
  -- a command that reads nothing leaves the source as it is
  pub kept : is_reader command ≡ false → Keeps left_old left_new
  -- what the output of `replay` says of the texts that are shown
  pub headline : command ≡ Some Replay → Headline input
  -- what is answered of a journal and its certificate is right
  pub answer : command ≡ Some Audit → IsRightlyAnswered input
