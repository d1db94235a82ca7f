-- The sizes of the pieces before the place.
use Rattle.std.proofs.Common.{◌≡◌, length, map, take}
use Rattle.editor_lib.proofs.told.piece_sizes.Given as goal

abbrev pub invariant-loop-place : goal.invariant-loop-place
invariant-loop-place l = l.sizes.items ≡ map length (take l.place l.text)
