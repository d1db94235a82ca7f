use Rattle.std.proofs.Common.{◌+◌, ◌++◌, ◌∷◌, [], ◌∙◌, ap, set}
use Rattle.std.specs.List.{copy_within}
use Rattle.name_index.proofs.Moves.{moved_up}
use Rattle.name_index.proofs.chunk.put_at.Goals as goal

pub returns-clause-ok : goal.returns-clause-ok
returns-clause-ok g c =
    let es = c.args.entries.now.items in
    let at = c.args.at in
    let entry = c.args.entry in
    ap (λ fs. set fs at entry)
    (c.copy_within.ensures.items ∙ ap (λ fs. copy_within fs at c.len-len.result (at + 1)) c.in_ok-push.ensures.items
    ∙ ap (λ n. copy_within (es ++ entry ∷ []) at n (at + 1)) (c.len-len.ensures ∙ c.args.entries.now.ok.0))
    ∙ moved_up es at entry c.requires
