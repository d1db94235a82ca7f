use Rattle.std.proofs.Common.{List, ℕ, ap, sym, ◌∙◌}
use Rattle.std.specs.List.{concat}
use Rattle.peer_step.proofs.Cuts.{concat_cut}
use Rattle.follow_text.proofs.shown.Shown.bytes.Goals as goal

pub returns : goal.returns
returns c =
    c.deref.ensures.value ∙ sym (concat_cut c.self.inside.sizes.items c.self.inside.bytes.items c.self.invariant)
    ∙ ap (λ (p : List (List ℕ)). concat p) c.self.view_is
