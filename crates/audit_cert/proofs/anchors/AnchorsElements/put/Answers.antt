use Rattle.std.proofs.Common.{ap, sym, ◌∙◌}
use Rattle.std.specs.BTreeMap.{insert_entry}
use Rattle.element_name.specs.Name.{Name}
use Rattle.element_name.specs.Named.{name_cmp}
use Rattle.tomb_seq.specs.Insert.{insert_fault}
use Rattle.audit_cert.proofs.AnchoredTrees.{name_put}
use Rattle.audit_cert.proofs.NextMessages.{none_is}
use Rattle.audit_cert.proofs.anchors.AnchorsElements.put.Goals as goal

pub invariant_of-self-2 : goal.invariant_of-self-2
invariant_of-self-2 c =
    let es = c.self.inside.anchors in
    let free = none_is (insert_fault c.args.self.now c.args.n c.args.after) (sym c.may_come.ensures ∙ c.if-not-may_come.false) in
    let put = c.in_ok-insert.ensures.entries ∙ ap (λ (k : Name). insert_entry name_cmp es k c.of-2.result) c.of.ensures ∙ ap (λ (k : Name). insert_entry name_cmp es c.args.n k) c.of-2.ensures in
    (name_put es _ c.args.self.now c.args.n c.args.after c.self.invariant c.self.view_is free put c.in_ok-insert.ensures.ordered).0

pub returns-clause-placed : goal.returns-clause-placed
returns-clause-placed c = λ _.
    let es = c.self.inside.anchors in
    let free = none_is (insert_fault c.args.self.now c.args.n c.args.after) (sym c.may_come.ensures ∙ c.if-not-may_come.false) in
    let put = c.in_ok-insert.ensures.entries ∙ ap (λ (k : Name). insert_entry name_cmp es k c.of-2.result) c.of.ensures ∙ ap (λ (k : Name). insert_entry name_cmp es c.args.n k) c.of-2.ensures in
    (name_put es _ c.args.self.now c.args.n c.args.after c.self.invariant c.self.view_is free put c.in_ok-insert.ensures.ordered).1
