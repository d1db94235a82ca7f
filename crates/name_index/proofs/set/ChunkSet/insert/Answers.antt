use Rattle.std.proofs.Common.{true, cond, ◌∙◌, sym, ap}
use Rattle.std.specs.Prelude.{is_some}
use Rattle.std.specs.List.{list_any}
use Rattle.std.specs.BTreeMap.{is_at}
use Rattle.name_index.proofs.Keys.{any_key, any_updated}
use Rattle.name_index.proofs.set.ChunkSet.insert.Goals as goal

pub returns-clause-new : goal.returns-clause-new
returns-clause-new g c =
    let test = is_at (g.K.Ord.cmp c.args.key) in
    ap (list_any test) (sym c.self.view_is) ∙ sym (any_key test c.self.inside.map) ∙ ap is_some (sym c.in_ok-old.ensures.old) ∙ c.is_none.ensures

pub returns-clause-updates : goal.returns-clause-updates
returns-clause-updates g c =
    λ q.
    let here = is_at (g.K.Ord.cmp c.args.key) q in
    let test = is_at (g.K.Ord.cmp q) in
    sym (any_key test c.insert.new.self) ∙ any_updated here _ _ _ (c.in_ok-old.ensures.updates q) ∙ ap (cond here true) (any_key test c.self.inside.map ∙ ap (list_any test) c.self.view_is)
