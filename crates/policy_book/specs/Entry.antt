-- Numbered administrative operations.
use Rattle.std.specs.Prelude.{ℕ, Bool, ◌&&◌, nat_lt, nat_le}
use Rattle.element_name.specs.declared.limits.TheConstants.{MAX_VERSION}
use Rattle.policy_book.specs.declared.op.AdminOp.{AdminOp}
use Rattle.policy_book.specs.Operation.{is_operation}

-- the version that an operation makes, and the operation
pub record Entry : Type 0 where
  pub version : ℕ
  pub op : AdminOp

-- a version that an entry can make: 0 is made by none
abbrev pub is_entry_version : ℕ → Bool
is_entry_version version = nat_lt 0 version && nat_le version MAX_VERSION

-- numbered, and its operation in its ranges
abbrev pub is_entry : Entry → Bool
is_entry e = is_entry_version e.version && is_operation e.op
