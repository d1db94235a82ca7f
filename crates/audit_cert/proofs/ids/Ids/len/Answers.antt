use Rattle.std.proofs.Common.{length, sym, ap, ◌∙◌}
use Rattle.std.proofs.lemmas.List.{length-map}
use Rattle.audit_cert.proofs.ids.Ids.len.Goals as goal

pub returns : goal.returns
returns c = c.len.ensures.count ∙ sym (length-map c.self.inside.names (λ e. e.0)) ∙ ap length c.self.view_is
