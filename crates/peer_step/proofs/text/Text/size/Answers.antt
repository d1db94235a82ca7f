use Rattle.std.proofs.Common.{List, ℕ, length, sym, ap, ◌∙◌}
use Rattle.std.specs.Prelude.{string_bytes, slice_get, option_map}
use Rattle.peer_step.proofs.Cuts.{size_at}
use Rattle.peer_step.proofs.text.Text.size.Goals as goal

pub returns : goal.returns
returns c =
    let place = c.args.place in
    c.size_at.ensures ∙ ap (λ (l : List ℕ). slice_get l place) c.deref.ensures.value
    ∙ sym (size_at c.self.inside.sizes.items (string_bytes c.self.inside.joined) place c.self.invariant.whole)
    ∙ ap (λ (t : List (List ℕ)). option_map (λ (p : List ℕ). length p) (slice_get t place)) c.self.view_is
