use Rattle.std.proofs.Common.{◌<◌, Some, ◌∙◌, ap, sym, subst}
use Rattle.std.specs.Map.{lookup}
use Rattle.std.specs.BTreeMap.{is_at}
use Rattle.element_name.specs.Named.{name_cmp}
use Rattle.name_index.specs.Chunks.{IsOrdered}
use Rattle.name_index.proofs.Numbers.{value_found, none_found, row_within, ordered_rows}
use Rattle.name_index.proofs.names.NameMap.get.Goals as goal

pub index-requires : goal.index-requires
index-requires g c =
    let rows = c.self.inside.rows in
    let at = ap (λ m. lookup (is_at (name_cmp m)) c.self.inside.index) (sym c.of.ensures) ∙ sym c.in-Some.ensures.value in
    subst (λ n. c.in-Some.number < n) (sym rows.ok.0) (row_within c.self.inside.index rows.items c.self.invariant c.args.name c.in-Some.number at)

pub returns-in-Some-clause-value : goal.returns-in-Some-clause-value
returns-in-Some-clause-value g c =
    let rows = c.self.inside.rows.items in
    let at = ap (λ m. lookup (is_at (name_cmp m)) c.self.inside.index) (sym c.of.ensures) ∙ sym c.in-Some.ensures.value in
    ap (λ e. Some e.1) c.behind-self.view_is ∙ sym (value_found c.self.inside.index rows c.self.invariant c.args.name c.in-Some.number c.index.result.now at c.index.ensures)
    ∙ ap (lookup (is_at (name_cmp c.args.name))) c.self.view_is

pub returns-in-Some-clause-ordered : goal.returns-in-Some-clause-ordered
returns-in-Some-clause-ordered g c = subst (IsOrdered name_cmp) c.self.view_is (ordered_rows c.self.inside.index c.self.inside.rows.items c.self.invariant)

pub returns-in-None-clause-value : goal.returns-in-None-clause-value
returns-in-None-clause-value g c =
    let none = ap (λ m. lookup (is_at (name_cmp m)) c.self.inside.index) (sym c.of.ensures) ∙ sym c.in-None.ensures.value in
    sym (none_found c.self.inside.index c.self.inside.rows.items c.self.invariant c.args.name none) ∙ ap (lookup (is_at (name_cmp c.args.name))) c.self.view_is

pub returns-in-None-clause-ordered : goal.returns-in-None-clause-ordered
returns-in-None-clause-ordered g c = subst (IsOrdered name_cmp) c.self.view_is (ordered_rows c.self.inside.index c.self.inside.rows.items c.self.invariant)
