use Rattle.std.proofs.Common.{ap, ◌∙◌}
use Rattle.std.specs.Prelude.{is_some}
use Rattle.std.specs.Map.{lookup}
use Rattle.std.specs.BTreeMap.{is_at}
use Rattle.element_name.specs.Name.{Name}
use Rattle.element_name.specs.Named.{name_cmp}
use Rattle.audit_cert.proofs.IdLemmas.{found_key}
use Rattle.audit_cert.proofs.ids.is_key.Goals as goal

pub returns : goal.returns
returns g c =
    c.is_some.ensures
    ∙ ap is_some c.get.ensures.value
    ∙ ap (λ (k : Name). is_some (lookup (is_at (name_cmp k)) c.args.index.now)) c.of.ensures
    ∙ found_key c.args.index.now c.args.n
