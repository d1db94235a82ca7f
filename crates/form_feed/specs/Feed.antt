-- What is written of a stream of frames that is fed to a peer.
use Rattle.std.specs.Prelude.{ℕ, List, Option}
use Rattle.line_engine.specs.Output.{Output}
use Rattle.peer_core.specs.Peer.{Peer, fresh_peer}
use Rattle.report_text.specs.Closing.{closing_lines}
use Rattle.form_feed.specs.Stream.{stream_output, stream_part, stream_after}
use Rattle.form_feed.specs.Turn.{frame_turn}

-- what a peer writes of an input: its answers to the frames, and then its text and what it holds, or the first fault
abbrev pub fed_output : Peer → List ℕ → Output
fed_output p input = stream_output frame_turn closing_lines p input

-- what a peer writes of bytes after which reading fails
abbrev pub part_from : Peer → List ℕ → Option (List ℕ)
part_from p bytes = stream_part frame_turn p bytes

-- the peer after the frames of a stream's bytes
abbrev pub peer_fed : Peer → List ℕ → Peer
peer_fed p bytes = stream_after frame_turn p bytes

-- what `feed` with this site writes of an input, and its status
abbrev pub feed_output : ℕ → List ℕ → Output
feed_output site input = fed_output (fresh_peer site) input

-- what it writes of bytes after which reading fails
abbrev pub feed_part : ℕ → List ℕ → Option (List ℕ)
feed_part site bytes = part_from (fresh_peer site) bytes
