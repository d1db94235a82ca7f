-- What a peer answers to a frame of a stream, and the peer after it.
use Rattle.std.specs.Prelude.{ℕ, zero, suc, true, false, List, [], ◌∷◌, ◌++◌, None, length, flat_map, if◌then◌else◌}
use Rattle.edit_message.specs.declared.message.Message.{Message}
use Rattle.edit_frame.specs.declared.frame.Frame.{Frame}
use Rattle.edit_frame.specs.declared.frame.Frame.TheVariants as frames
use Rattle.peer_step.specs.declared.step.Step.TheVariants.{Receive, Settle}
use Rattle.peer_step.specs.declared.answer.Answer.{Answer}
use Rattle.peer_step.specs.Answers.{is_quiet}
use Rattle.peer_core.specs.Peer.{Peer}
use Rattle.peer_core.specs.Answers.{answer_receive, answer_settle}
use Rattle.peer_core.specs.After.{peer_after}
use Rattle.line_spelling.specs.Answers.{answer_line}
use Rattle.report_text.specs.Frame.{turn_line, end_line}
use Rattle.form_feed.specs.Stream.{FrameTurn}

-- what is told of a settle step's answer, where this is told of an answer; nothing where nothing is due
abbrev pub settle_told : (Answer → List ℕ) → Answer → List ℕ
settle_told line answer = if is_quiet answer then [] else line answer

-- answers one after the other, and the peer after them
pub record SettleRun : Type 0 where
  pub answers : List Answer
  pub peer : Peer

-- one more answer before these
abbrev pub run_first : Answer → SettleRun → SettleRun
run_first answer later = record { answers = answer ∷ later.answers; peer = later.peer }

-- the settle steps before the one that is answered by Quiet, but at most n
unfoldable pub settle_steps : ℕ → Peer → SettleRun
settle_steps zero p = record { answers = []; peer = p }
settle_steps (suc n) p = elim (is_quiet (answer_settle p)) [
  | true ↦ record { answers = []; peer = p }
  | false ↦ run_first (answer_settle p) (settle_steps n (peer_after p Settle))
]

-- all of them: each takes a held message away
unfoldable pub all_settle_steps : Peer → SettleRun
all_settle_steps p = settle_steps (length p.held) p

-- the settle steps behind a message that is received
abbrev pub received_run : Peer → Message → SettleRun
received_run p m = all_settle_steps (peer_after p (Receive m))

-- what is told of its answer and theirs, where this is told of an answer
abbrev pub message_told : (Answer → List ℕ) → Peer → Message → List ℕ
message_told line p m = line (answer_receive p m) ++ flat_map line (received_run p m).answers

-- of each of these answers the line is written, where no message is numbered
abbrev pub message_turn : Peer → Message → FrameTurn Peer
message_turn p m = record { reply = message_told (answer_line None) p m; after = (received_run p m).peer }

-- one frame: of those that are no messages the peer isn't told
unfoldable pub frame_turn : Peer → Frame → FrameTurn Peer
frame_turn p (frames.Item m) = message_turn p m
frame_turn p frames.Turn = record { reply = turn_line; after = p }
frame_turn p frames.End = record { reply = end_line; after = p }
