-- Where another authorization may be the first that matches, and the table of it.
use Rattle.std.specs.Prelude.{◌≡◌, ℕ, zero, suc, Bool, false, List, [], ◌∷◌, slice_get}
use Rattle.std.specs.Option.{option_map_or}
use Rattle.policy_book.specs.declared.op.AdminOp.{AdminOp}
use Rattle.policy_book.specs.declared.op.AdminOp.TheVariants.{AddUser, DelUser, AddAuth, DelAuth, Validate}
use Rattle.policy_book.specs.declared.reach.Reach.{Reach}
use Rattle.policy_book.specs.declared.reach.Reach.TheVariants.{Nobody, Users, Everyone}
use Rattle.policy_book.specs.Entry.{Entry}
use Rattle.policy_book.specs.Policy.{Policy}
use Rattle.policy_book.specs.Reach.{reach_of_users, is_reached}
use Rattle.admin_log.specs.Log.{policy_at}
use Rattle.admin_log.specs.declared.version_table.VersionTable.{VersionTable}
use Rattle.admin_log.specs.VersionTable.{is_noted}

-- after the operation another authorization may be the first that matches an access of these, by the policy before it
abbrev pub rematch_reach : Policy → AdminOp → Reach
rematch_reach p (AddUser u) = Users (u ∷ [])
rematch_reach p (DelUser u) = Users (u ∷ [])
rematch_reach p (AddAuth place auth) = reach_of_users auth.users
rematch_reach p (DelAuth place) = option_map_or (λ a. reach_of_users a.auth.users) (slice_get p.auths place) Everyone
rematch_reach p (Validate request) = Nobody
rematch_reach p op = Everyone

-- another one may be the first that matches an access of the user at the version than at the one before it
abbrev pub may_rematch_at : List Entry → ℕ → ℕ → Bool
may_rematch_at log zero user = false
may_rematch_at log (suc version) user = option_map_or (λ e. is_reached (rematch_reach (policy_at log version) e.op) user) (slice_get log version) false

-- a version is in the table for a user exactly where another authorization may match first
abbrev pub IsRematchTable : List Entry → VersionTable → Type 0
IsRematchTable log table = (version user : ℕ) → is_noted table version user ≡ may_rematch_at log version user
