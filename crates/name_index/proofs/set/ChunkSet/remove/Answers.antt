use Rattle.std.proofs.Common.{false, cond, ◌∙◌, sym, ap}
use Rattle.std.specs.Prelude.{is_some}
use Rattle.std.specs.List.{list_any}
use Rattle.std.specs.BTreeMap.{is_at}
use Rattle.name_index.proofs.Keys.{any_key, any_updated}
use Rattle.name_index.proofs.set.ChunkSet.remove.Goals as goal

pub returns-clause-found : goal.returns-clause-found
returns-clause-found g c =
    let test = is_at (g.K.Ord.cmp c.args.key) in
    c.is_some.ensures ∙ ap is_some c.remove.ensures.value ∙ any_key test c.self.inside.map ∙ ap (list_any test) c.self.view_is

pub returns-clause-updates : goal.returns-clause-updates
returns-clause-updates g c =
    λ q.
    let here = is_at (g.K.Ord.cmp c.args.key) q in
    let test = is_at (g.K.Ord.cmp q) in
    sym (any_key test c.remove.new.self) ∙ any_updated here _ _ _ (c.remove.ensures.updates q) ∙ ap (cond here false) (any_key test c.self.inside.map ∙ ap (list_any test) c.self.view_is)
