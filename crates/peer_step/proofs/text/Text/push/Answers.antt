use Rattle.std.proofs.Common.{◌∙◌, ◌++◌, ◌∷◌, [], ap}
use Rattle.std.specs.Prelude.{string_bytes}
use Rattle.peer_step.proofs.Cuts.{AreSizes-push, cut_push}
use Rattle.peer_step.proofs.text.Text.push.Goals as goal

pub invariant_of-self-2 : goal.invariant_of-self-2
invariant_of-self-2 c =
    let letter = c.text_of-letter.ensures ∙ c.bytes.ensures.value in
    rw (c.in_ok-put_last.ensures.sizes, c.in_ok-put_last.ensures.joined, letter)
    (AreSizes-push c.self.inside.sizes.items (string_bytes c.self.inside.joined) c.args.piece c.self.invariant c.bytes.ensures.piece)

pub returns-clause-ok : goal.returns-clause-ok
returns-clause-ok c =
    let letter = c.text_of-letter.ensures ∙ c.bytes.ensures.value in
    let cut_again = cut_push c.self.inside.sizes.items (string_bytes c.self.inside.joined) c.args.piece c.self.invariant.whole in
    rw (c.in_ok-put_last.ensures.sizes, c.in_ok-put_last.ensures.joined, letter)
    (cut_again ∙ ap (λ pieces. pieces ++ c.args.piece ∷ []) c.self.view_is)
