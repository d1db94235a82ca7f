use Rattle.std.proofs.Common.{◌-◌, ◌++◌, ◌∷◌, [], ◌∙◌, ap, set}
use Rattle.name_index.specs.Chunks.{flat}
use Rattle.name_index.proofs.Flats.{flat_push}
use Rattle.name_index.proofs.map.append.Goals as goal

pub returns-then-len-lt-CHUNK-clause-ok : goal.returns-then-len-lt-CHUNK-clause-ok
returns-then-len-lt-CHUNK-clause-ok g c =
    let cs = c.args.chunks.now.items in
    let n = c.len-len.result in
    let last = c.index_mut-last.result.now in
    let entry : g.row.K.Denot × g.row.V.Denot = (c.args.key, c.args.value) in
    ap (λ x. flat (set cs (n - 1) x)) (c.in_ok-push.ensures.ok ∙ ap (λ x. x ++ entry ∷ []) c.index_mut-last.ensures.value)
    ∙ flat_push cs n last entry (c.len-len.ensures ∙ c.args.chunks.now.ok.0) c.if-len-gt0.true
