-- Versions that are noted for users.
use Rattle.std.specs.Prelude.{◌≡◌, ℕ, Bool, true, ◌&&◌, ◌||◌, ◌==◌}
use Rattle.std.specs.declared.cmp.Ordering.{Ordering}
use Rattle.std.specs.Ordering.{nat_cmp, ordering_then}
use Rattle.std.specs.BTreeSet.{contains}
use Rattle.admin_log.specs.declared.version_table.UserVersion.{UserVersion}
use Rattle.admin_log.specs.declared.version_table.VersionTable.{VersionTable}

-- by user, then by version
abbrev pub user_version_cmp : UserVersion → UserVersion → Ordering
user_version_cmp a b = ordering_then (nat_cmp a.user b.user) (nat_cmp a.version b.version)

-- the version is noted for the user, or for everyone
abbrev pub is_noted : VersionTable → ℕ → ℕ → Bool
is_noted table version user = contains nat_cmp table.all version || contains user_version_cmp table.single (record { user = user; version = version })

-- the second table has these users' version more than the first
abbrev pub NotesMore : VersionTable → VersionTable → ℕ → (ℕ → Bool) → Type 0
NotesMore old new version users = (v u : ℕ) → is_noted new v u ≡ (is_noted old v u || (v == version && users u))

-- what the first table has, the second has too
abbrev pub KeepsNotes : VersionTable → VersionTable → Type 0
KeepsNotes old new = (v u : ℕ) → is_noted old v u ≡ true → is_noted new v u ≡ true
