use Rattle.std.proofs.Common.{List, ap, ◌∙◌}
use Rattle.element_name.specs.Name.{Name, has_name}
use Rattle.audit_cert.proofs.AnchoredTrees.{key_element}
use Rattle.audit_cert.proofs.anchors.Anchors.has.Goals as goal

pub returns : goal.returns
returns c =
    c.is_key.ensures ∙ key_element c.self.inside.anchors c.args.n c.self.invariant ∙ ap (λ (names : List Name). has_name names c.args.n) c.self.view_is
