-- The table of rematches: what is put into it of a log.
use Rattle.std.proofs.Common.{◌≡◌, ℕ, zero, suc, ◌+◌, ⊎_elim, Bool, true, false, List, length, Some, None, refl, sym, ap, ◌∙◌, arith, eqb, add-one}
use Rattle.std.specs.Prelude.{◌&&◌, ◌||◌, nat_le, slice_get}
use Rattle.std.specs.declared.option.Option.{Option}
use Rattle.std.specs.Option.{option_map_or}
use Rattle.std.proofs.lemmas.Bool.{cases_Bool}
use Rattle.std.proofs.lemmas.Bool.Decides.{nat_tests}
use Rattle.std.proofs.lemmas.Option.{slice_get_past}
use Rattle.policy_book.specs.Entry.{Entry}
use Rattle.policy_book.specs.Reach.{is_reached}
use Rattle.admin_log.specs.declared.version_table.VersionTable.{VersionTable}
use Rattle.admin_log.specs.VersionTable.{is_noted, NotesMore}
use Rattle.admin_log.specs.Log.{policy_at}
use Rattle.audit_cert.specs.Rematches.{rematch_reach, may_rematch_at}

-- none is noted before the first
pub nothing_noted : (log : List Entry) (v u : ℕ) → false ≡ (nat_le v 0 && may_rematch_at log v u)
nothing_noted log zero u = refl
nothing_noted log (suc v) u = let no : nat_le (suc v) 0 ≡ false = grind (arith, nat_tests) in rw no refl

-- none is behind the last
pub all_noted : (log : List Entry) (v u : ℕ) → (nat_le v (length log) && may_rematch_at log v u) ≡ may_rematch_at log v u
all_noted log zero u = none (nat_le 0 (length log))
  where
    none : (b : Bool) → (b && false) ≡ false
    none true = refl
    none false = refl
all_noted log (suc v) u =
    ⊎_elim
    (λ (t : nat_le (suc v) (length log) ≡ true). rw t refl)
    (λ (f : nat_le (suc v) (length log) ≡ false).
    let none : slice_get log v ≡ None = slice_get_past log v (grind (arith, nat_tests, f)) in
    rw (f, none) refl)
    (cases_Bool (nat_le (suc v) (length log)))

-- what an entry's version says
at_entry : (log : List Entry) (before u : ℕ) (e : Entry) → slice_get log before ≡ Some e
    → may_rematch_at log (before + 1) u ≡ is_reached (rematch_reach (policy_at log before) e.op) u
at_entry log before u e is =
    ap (λ n. may_rematch_at log n u) (add-one before)
    ∙ ap (λ (o : Option Entry). option_map_or (λ (d : Entry). is_reached (rematch_reach (policy_at log before) d.op) u) o false) is

-- one version more
pub next_noted : (log : List Entry) (old new : VersionTable) (before : ℕ) (e : Entry) → slice_get log before ≡ Some e
    → NotesMore old new (before + 1) (is_reached (rematch_reach (policy_at log before) e.op))
    → ((v u : ℕ) → is_noted old v u ≡ (nat_le v before && may_rematch_at log v u))
    → (v u : ℕ) → is_noted new v u ≡ (nat_le v (before + 1) && may_rematch_at log v u)
next_noted log old new before e is more noted v u =
    more v u
    ∙ ap (λ b. b || (eqb v (before + 1) && is_reached (rematch_reach (policy_at log before) e.op) u)) (noted v u)
    ∙ ⊎_elim
    (λ (t : eqb v (before + 1) ≡ true).
    let same : v ≡ before + 1 = grind (arith, nat_tests, t) in
    let above : nat_le v before ≡ false = grind (arith, nat_tests, same) in
    let within : nat_le v (before + 1) ≡ true = grind (arith, nat_tests, same) in
    let here : may_rematch_at log v u ≡ is_reached (rematch_reach (policy_at log before) e.op) u = ap (λ n. may_rematch_at log n u) same ∙ at_entry log before u e is in
    rw (t, above, within) (sym here))
    (λ (f : eqb v (before + 1) ≡ false).
    let alike : nat_le v (before + 1) ≡ nat_le v before = grind (arith, nat_tests, f) in
    rw (f, alike) (or_none (nat_le v before && may_rematch_at log v u)))
    (cases_Bool (eqb v (before + 1)))
  where
    or_none : (b : Bool) → (b || false) ≡ b
    or_none true = refl
    or_none false = refl
