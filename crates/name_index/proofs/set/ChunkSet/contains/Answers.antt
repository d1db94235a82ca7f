use Rattle.std.proofs.Common.{◌∙◌, ap}
use Rattle.std.specs.Prelude.{is_some}
use Rattle.std.specs.List.{list_any}
use Rattle.std.specs.BTreeMap.{is_at}
use Rattle.name_index.proofs.Keys.{any_key}
use Rattle.name_index.proofs.set.ChunkSet.contains.Goals as goal

pub returns-clause-found : goal.returns-clause-found
returns-clause-found g c =
    let test = is_at (g.K.Ord.cmp c.args.key) in
    c.is_some.ensures ∙ ap is_some c.get.ensures.value ∙ any_key test c.self.inside.map ∙ ap (list_any test) c.self.view_is
