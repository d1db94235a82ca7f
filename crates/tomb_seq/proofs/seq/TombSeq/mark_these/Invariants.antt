use Rattle.std.proofs.Common.{◌≡◌, map, take}
use Rattle.tomb_seq.specs.Slots.{marked_among}
use Rattle.tomb_seq.proofs.seq.TombSeq.mark_these.Given as goal

abbrev pub invariant-loop-name : goal.invariant-loop-name
invariant-loop-name g l = l.self ≡ map (marked_among (take l.name-index l.names) (g.T.Shows.is_shown l.test)) l.fn.self
