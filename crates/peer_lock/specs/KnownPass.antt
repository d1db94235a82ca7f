-- What contracts see of a pass.
use Rattle.std.specs.Prelude.{◌≡◌, ℕ, ◌<◌, ◌≤◌, false, [], length}
use Rattle.atomic_table.specs.Seated.{TableId}
use Rattle.peer_lock.specs.declared.limits.TheConstants.{MAX_PASSES}
use Rattle.peer_lock.specs.declared.view.View.{View}
use Rattle.peer_lock.specs.Rule.{Seated}

-- the name of its shared peer, its place among the seats, and what it knows
pub record KnownPass : Type 0 where
  pub table : TableId
  pub id : ℕ
  pub view : View

abbrev pub known_pass : TableId → ℕ → View → KnownPass
known_pass table id view = record { table = table; id = id; view = view }

-- a seat between two calls: it has no slot, and not the gate
pub record IsIdle (m : Seated) (number weight known : ℕ) : Type 0 where
  pub bare : m.1 ≡ []
  pub hand : m.0.hand ≡ false
  pub base : m.0.base ≡ []
  pub olds : m.0.olds ≡ []
  pub number_is : m.0.number ≡ number
  pub weight_is : length m.0.numbers ≡ weight
  pub some : 0 < weight
  pub few : weight ≤ MAX_PASSES
  pub known_is : length m.0.seen ≡ known
