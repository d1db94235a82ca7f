use Rattle.std.proofs.Common.{◌≡◌, ◌-◌, ◌<◌, cond, Some, None, IsSome, length, ◌∙◌, refl, ap, sym, subst, arith}
use Rattle.std.specs.Prelude.{slice_get}
use Rattle.std.specs.Map.{keys_of, lookup, remove_entry}
use Rattle.std.specs.BTreeMap.{is_at}
use Rattle.element_name.specs.Named.{name_cmp}
use Rattle.element_name.proofs.NameOrder.{name_cmp_total}
use Rattle.name_index.specs.Chunks.{IsOrdered}
use Rattle.name_index.specs.Rows.{by_name}
use Rattle.name_index.proofs.Results.{remove_absent, lookup_removed, ordered_remove}
use Rattle.name_index.proofs.Numbers.{none_found, row_within, ordered_rows, removed_numbers, removed_entries}
use Rattle.name_index.proofs.names.NameMap.remove.Goals as goal

pub returns-in_default-clause-entries : goal.returns-in_default-clause-entries
returns-in_default-clause-entries g c =
    let none = ap (λ m. lookup (is_at (name_cmp m)) c.self.inside.index) (sym c.of-key.ensures) ∙ sym c.get.ensures.value ∙ c.in_default.is in
    let absent = ap (lookup (is_at (name_cmp c.args.name))) (sym c.self.view_is) ∙ none_found c.self.inside.index c.self.inside.rows.items c.self.invariant c.args.name none in
    sym (remove_absent (is_at (name_cmp c.args.name)) c.args.self.now absent)

pub returns-in_default-clause-ordered : goal.returns-in_default-clause-ordered
returns-in_default-clause-ordered g c = subst (IsOrdered name_cmp) c.self.view_is (ordered_rows c.self.inside.index c.self.inside.rows.items c.self.invariant)

pub returns-in_default-clause-updates : goal.returns-in_default-clause-updates
returns-in_default-clause-updates g c = λ q.
    ap (lookup (is_at (name_cmp q))) (returns-in_default-clause-entries g c) ∙ lookup_removed name_cmp_total c.args.self.now c.args.name q (returns-in_default-clause-ordered g c)

pub last_name-requires : goal.last_name-requires
last_name-requires g c =
    let l = row_within c.self.inside.index c.self.inside.rows.items c.self.invariant c.of-key.result c.in-Some.number (sym c.get.ensures.value ∙ c.in-Some.is) in
    subst (λ es. 0 < length es) (sym c.deref.ensures.value) (omega (arith, l))

pub take_row-requires : goal.take_row-requires
take_row-requires g c = row_within c.self.inside.index c.self.inside.rows.items c.self.invariant c.of-key.result c.in-Some.number (sym c.get.ensures.value ∙ c.in-Some.is)

pub invariant_of-self : goal.invariant_of-self
invariant_of-self g c =
    let index = c.self.inside.index in
    let rows = c.self.inside.rows.items in
    let n = c.of-key.result in
    let moved = c.last_name.result in
    let end = subst (λ es. slice_get (keys_of es) (length es - 1) ≡ Some moved) c.deref.ensures.value c.last_name.ensures in
    let at = c.self.invariant.number moved (length rows - 1) end in
    let known = subst (λ o. IsSome o) (sym at) refl in
    removed_numbers index c.remove.new.self rows c.take_row.new.rows.items c.self.invariant n moved c.in-Some.number (sym c.get.ensures.value ∙ c.in-Some.is) c.take_row.ensures end
    (λ q. c.remove.ensures.updates q ∙ ap (cond (is_at (name_cmp n) q) None) (c.set.ensures.updates known q))

pub returns-clause-entries : goal.returns-clause-entries
returns-clause-entries g c =
    let index = c.self.inside.index in
    let rows = c.self.inside.rows.items in
    removed_entries index c.remove.new.self rows c.take_row.new.rows.items c.self.invariant c.of-key.result c.last_name.result c.in-Some.number (sym c.get.ensures.value ∙ c.in-Some.is) c.take_row.ensures
    ∙ ap (λ m. remove_entry (is_at (name_cmp m)) (by_name rows)) c.of-key.ensures ∙ ap (remove_entry (is_at (name_cmp c.args.name))) c.self.view_is

pub returns-clause-updates : goal.returns-clause-updates
returns-clause-updates g c = λ q.
    let before = subst (IsOrdered name_cmp) c.self.view_is (ordered_rows c.self.inside.index c.self.inside.rows.items c.self.invariant) in
    ap (lookup (is_at (name_cmp q))) (returns-clause-entries g c) ∙ lookup_removed name_cmp_total c.args.self.now c.args.name q before

pub returns-clause-ordered : goal.returns-clause-ordered
returns-clause-ordered g c =
    let before = subst (IsOrdered name_cmp) c.self.view_is (ordered_rows c.self.inside.index c.self.inside.rows.items c.self.invariant) in
    subst (IsOrdered name_cmp) (sym (returns-clause-entries g c)) (ordered_remove name_cmp (is_at (name_cmp c.args.name)) c.args.self.now before)
