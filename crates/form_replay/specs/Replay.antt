-- What the lines of a script write, and the world that they leave. There is none before the first line.
use Rattle.std.specs.Prelude.{ℕ, true, false, List, [], Option, Some, None, length, option_map, ⊤}
use Rattle.element_name.specs.Cases.{◌>>=◌}
use Rattle.line_engine.specs.declared.status.Status.{Status}
use Rattle.line_engine.specs.Output.{Output}
use Rattle.line_engine.specs.Run.{LineTurn, output_of, part_of}
use Rattle.line_engine.specs.Engine.{Ran}
use Rattle.replay_net.specs.declared.line.Line.{Line}
use Rattle.replay_net.specs.declared.line.Line.TheVariants.{Peers}
use Rattle.replay_net.specs.World.{World, fresh_world, turn_of}
use Rattle.script_text.specs.Line.{script_line}
use Rattle.form_replay.specs.Reply.{reply_line}

-- the line that begins a world writes nothing; no other line does
abbrev pub opening_turn : Line → Option (LineTurn (Option World))
opening_turn (Peers count) = Some (record { reply = []; world = Some (fresh_world count) })
opening_turn line = None

-- a line of the world writes its reply
abbrev pub reply_turn : World → Line → LineTurn (Option World)
reply_turn w line = record { reply = reply_line (turn_of w line).reply; world = Some (turn_of w line).after }

-- what a line of a script writes, and the world after it; none where it is no line there
abbrev pub script_turn : Option World → List ℕ → Option (LineTurn (Option World))
script_turn None line = script_line true 0 line >>= opening_turn
script_turn (Some w) line = option_map (reply_turn w) (script_line false (length w.peers) line)

-- nothing more is written at the end, but the first line has to have come
abbrev pub script_closing : Option World → Option (List ℕ)
script_closing None = None
script_closing (Some w) = Some []

-- what is written of an input, and the status
abbrev pub replay_output : List ℕ → Output
replay_output input = output_of script_turn script_closing None input

-- what is written of bytes after which reading fails; none where a whole line among them is bad, or their rest is too long for a line
abbrev pub replay_part : List ℕ → Option (List ℕ)
replay_part bytes = part_of script_turn None bytes

-- A run over a source that had this input and a sink that was given these bytes.
-- Of a source that doesn't tell its bytes there are some of which this holds, and of a sink likewise.
abbrev pub RanReplay : Option (List ℕ) → Option (List ℕ) → Option (List ℕ) → Option (List ℕ) → Status → List ℕ → List ℕ → Type 0
RanReplay = Ran replay_output replay_part (λ cut bytes. ⊤)
