use Rattle.std.proofs.Common.{◌≡◌, ◌+◌, cond, Some, List, length, ap, subst, ◌∙◌}
use Rattle.std.specs.Prelude.{◌||◌}
use Rattle.std.specs.Map.{lookup}
use Rattle.std.specs.BTreeMap.{is_at, insert_entry}
use Rattle.element_name.specs.Name.{Name, name_eq, has_name}
use Rattle.element_name.specs.Named.{name_cmp}
use Rattle.audit_cert.proofs.IdLemmas.{one_noted, one_counted}
use Rattle.audit_cert.proofs.ids.Ids.put.Goals as goal

pub returns-clause-noted : goal.returns-clause-noted
returns-clause-noted c = λ m.
    let es = c.self.inside.names in
    one_noted es c.insert.new.self c.args.n m tt
    (subst (λ (k : Name). lookup (is_at (name_cmp m)) c.insert.new.self ≡ cond (is_at (name_cmp k) m) (Some tt) (lookup (is_at (name_cmp m)) es)) c.of.ensures (c.in_ok-insert.ensures.updates m))
    ∙ ap (λ (names : List Name). name_eq c.args.n m || has_name names m) c.self.view_is

pub returns-clause-count : goal.returns-clause-count
returns-clause-count c =
    let es = c.self.inside.names in
    one_counted es c.insert.new.self c.args.n tt c.len.ensures.ordered (ap (λ (names : List Name). has_name names c.args.n) c.self.view_is ∙ c.requires)
    (c.in_ok-insert.ensures.entries ∙ ap (λ (k : Name). insert_entry name_cmp es k tt) c.of.ensures)
    ∙ ap (λ (names : List Name). length names + 1) c.self.view_is
