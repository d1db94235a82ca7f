use Rattle.std.proofs.Common.{Bool, ◌∙◌, ap}
use Rattle.std.specs.Option.{option_map}
use Rattle.std.specs.List.{find}
use Rattle.std.specs.Ordering.{is_lt}
use Rattle.name_index.proofs.Keys.{find_key}
use Rattle.name_index.proofs.set.ChunkSet.next_above.Goals as goal

pub returns-in-Some-clause-key : goal.returns-in-Some-clause-key
returns-in-Some-clause-key g c =
    let test : g.row.K.Denot → Bool = λ k. is_lt (g.K.Ord.cmp c.args.key k) in
    ap (option_map (λ e. e.0)) c.in-Some.ensures.entry ∙ find_key test c.self.inside.map ∙ ap (find test) c.self.view_is

pub returns-in-None-clause-key : goal.returns-in-None-clause-key
returns-in-None-clause-key g c =
    let test : g.row.K.Denot → Bool = λ k. is_lt (g.K.Ord.cmp c.args.key k) in
    ap (option_map (λ e. e.0)) c.in-None.ensures.entry ∙ find_key test c.self.inside.map ∙ ap (find test) c.self.view_is
