use Rattle.std.proofs.Common.{◌∙◌, sym}
use Rattle.peer_step.proofs.Cuts.{concat_cut}
use Rattle.peer_step.proofs.text.Text.as_str.Goals as goal

pub returns : goal.returns
returns c = rw (← c.self.view_is) (c.as_str.ensures.value ∙ sym (concat_cut c.self.inside.sizes.items _ c.self.invariant.whole))
