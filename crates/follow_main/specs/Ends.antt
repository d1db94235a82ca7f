-- Why a follower ends.
use Rattle.std.specs.Prelude.{ℕ, Bool, ◌==◌, [], ◌∷◌}
use Rattle.std.specs.List.{list_any}
use Rattle.line_engine.specs.declared.status.Status.{Status}
use Rattle.line_engine.specs.declared.status.Status.TheVariants as status
use Rattle.follow_talk.specs.declared.stop.Stop.{Stop}
use Rattle.follow_talk.specs.declared.stop.Stop.TheVariants as stop

-- the status of what stops a follower
abbrev pub stop_status : Stop → Status
stop_status stop.BadLine = status.BadInput
stop_status stop.Lost = status.BadStore
stop_status stop.StoreFull = status.StoreFull
stop_status stop.DiskFault = status.DiskFault
stop_status stop.NoMemory = status.NoMemory

-- the closes that aren't mended by linking again
abbrev pub is_final : ℕ → Bool
is_final code = list_any (λ c. c == code) (4000 ∷ 4001 ∷ 4002 ∷ 4003 ∷ 4004 ∷ 4005 ∷ 4006 ∷ 4013 ∷ 4015 ∷ 4016 ∷ 4024 ∷ [])
