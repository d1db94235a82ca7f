use Rattle.std.proofs.Common.{◌≡◌, ℕ, ◌<◌, None}
use Rattle.std.specs.Prelude.{IfSome, slice_get}
use Rattle.host_core.specs.Past.{device_of}
use Rattle.host_house.proofs.shelf.close_in_all.Given as goal

abbrev pub invariant-loop-number : goal.invariant-loop-number
invariant-loop-number g l =
    (k : ℕ) → k < l.number → IfSome (slice_get l.documents k) (λ document. IfSome (g.D.HouseDocument.past document) (λ events. device_of l.site events ≡ None))
