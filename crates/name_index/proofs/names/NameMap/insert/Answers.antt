use Rattle.std.proofs.Common.{◌∙◌, ap, sym, subst}
use Rattle.std.specs.Map.{lookup}
use Rattle.std.specs.BTreeMap.{is_at, insert_entry}
use Rattle.element_name.specs.Named.{name_cmp}
use Rattle.element_name.proofs.NameOrder.{name_cmp_total}
use Rattle.name_index.specs.Chunks.{IsOrdered}
use Rattle.name_index.proofs.Results.{ordered_insert, lookup_insert}
use Rattle.name_index.proofs.Numbers.{added, entry_made, ordered_rows}
use Rattle.name_index.proofs.names.NameMap.insert.Goals as goal

pub invariant_of-self-in-Ok : goal.invariant_of-self-in-Ok
invariant_of-self-in-Ok g c =
    let rows = c.self.inside.rows in
    let none = ap (lookup (is_at (name_cmp c.args.name))) c.self.view_is ∙ c.requires.new in
    added c.self.inside.index c.insert.new.self rows.items c.push.new.self.items c.of-key.result c.args.name c.args.value c.len-number.result c.self.invariant c.of-key.ensures (c.len-number.ensures ∙ rows.ok.0) none c.in_ok-push.ensures.items
    c.in-Ok.ensures.updates

pub returns-in-Ok-clause-entries : goal.returns-in-Ok-clause-entries
returns-in-Ok-clause-entries g c =
    let rows = c.self.inside.rows.items in
    let none = ap (lookup (is_at (name_cmp c.args.name))) c.self.view_is ∙ c.requires.new in
    entry_made c.self.inside.index rows c.self.invariant c.push.new.self.items c.of-key.result c.args.name c.args.value c.of-key.ensures none c.in_ok-push.ensures.items
    ∙ ap (λ es. insert_entry name_cmp es c.args.name c.args.value) c.self.view_is

pub returns-in-Ok-clause-updates : goal.returns-in-Ok-clause-updates
returns-in-Ok-clause-updates g c = λ q. ap (lookup (is_at (name_cmp q))) (returns-in-Ok-clause-entries g c) ∙ lookup_insert name_cmp_total c.args.self.now c.args.name c.args.value q

pub returns-in-Ok-clause-ordered : goal.returns-in-Ok-clause-ordered
returns-in-Ok-clause-ordered g c =
    let before = subst (IsOrdered name_cmp) c.self.view_is (ordered_rows c.self.inside.index c.self.inside.rows.items c.self.invariant) in
    subst (IsOrdered name_cmp) (sym (returns-in-Ok-clause-entries g c)) (ordered_insert name_cmp_total c.args.self.now c.args.name c.args.value before)
