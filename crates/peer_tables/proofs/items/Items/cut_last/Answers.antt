use Rattle.std.proofs.Common.{◌≡◌, ℕ, ◌-◌, List, length, take, sym, ap, subst, ◌∙◌}
use Rattle.edit_message.specs.declared.message.Key.{Key}
use Rattle.edit_message.specs.declared.message.Message.{Message}
use Rattle.peer_tables.specs.Items.{AreKeysOf}
use Rattle.peer_tables.proofs.ItemLemmas.{keyed_cut}
use Rattle.peer_tables.proofs.items.Items.cut_last.Goals as goal

pub invariant_of-self : goal.invariant_of-self
invariant_of-self c =
    let J : List Message = c.self.inside.messages.items in
    let known : List Key = c.self.inside.keys.keys in
    let cut : c.truncate.new.self.keys ≡ take (length known - 1) known =
    c.truncate.ensures.keys ∙ ap (λ (n : ℕ). take n known) (c.saturating_sub.ensures ∙ ap (λ (n : ℕ). n - 1) c.len.ensures.len) in
    subst (AreKeysOf c.truncate.new.self.keys) (sym c.changed-self-inside.ensures)
    (subst (λ (ks : List Key). AreKeysOf ks (take (length J - 1) J)) (sym cut) (keyed_cut known J c.self.invariant))
