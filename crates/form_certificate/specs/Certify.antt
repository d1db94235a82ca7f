-- What is written of a stream of frames after which the peer's journal is certified.
use Rattle.std.specs.Prelude.{ℕ, ◌+◌, ◌-◌, Bool, true, List, [], ◌++◌, Option, length, map, is_none}
use Rattle.std.specs.List.{flat_map}
use Rattle.element_name.specs.Cases.{when}
use Rattle.edit_message.specs.declared.message.Message.{Message}
use Rattle.line_engine.specs.Output.{Output}
use Rattle.line_engine.specs.Input.{is_cut, counted_bytes}
use Rattle.edit_frame.specs.declared.frame.Frame.TheVariants.{Item, End}
use Rattle.edit_frame.specs.Spelling.{spelling}
use Rattle.edit_frame.specs.Reading.{stream}
use Rattle.peer_core.specs.Peer.{Peer, fresh_peer}
use Rattle.form_feed.specs.Stream.{counted_fault, closing, stream_ending}
use Rattle.form_feed.specs.Feed.{peer_fed}
use Rattle.audit_cert.specs.Certificate.{certificate_bytes}

-- the frames of a journal
abbrev pub journal_bytes : List Message → List ℕ
journal_bytes J = flat_map spelling (map Item J)

-- a journal, End and its certificate
abbrev pub certified_bytes : List Message → List ℕ
certified_bytes J = journal_bytes J ++ (spelling End ++ certificate_bytes J)

-- what is written of a stream's bytes from this place on: nothing of its frames, and then at its rest
unfoldable pub certified_from : Bool → Peer → ℕ → List ℕ → Output
certified_from cut p offset bytes =
    let s = stream bytes in
    stream_ending (closing cut (certified_bytes (peer_fed p bytes).journal)) (offset + (length bytes - length s.rest)) (counted_fault cut s.rest)

-- what `certify` with this site writes of an input, and its status
abbrev pub certify_output : ℕ → List ℕ → Output
certify_output site input = certified_from (is_cut input) (fresh_peer site) 0 (counted_bytes input)

-- what it writes of bytes after which reading fails: nothing; none where their rest has a fault, other than that it is cut
unfoldable pub certify_part : List ℕ → Option (List ℕ)
certify_part bytes = when (is_none (counted_fault true (stream bytes).rest)) []
