use Rattle.std.proofs.Common.{◌≡◌, filter_map, take}
use Rattle.request_state.specs.Table.{kept_piece}
use Rattle.peer_tables.proofs.text.text_of.Given as goal

abbrev pub invariant-loop-name : goal.invariant-loop-name
invariant-loop-name l = l.text ≡ filter_map (kept_piece l.states) (take l.name-index l.name-items)
