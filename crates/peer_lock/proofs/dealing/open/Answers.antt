use Rattle.peer_lock.proofs.Keeps.{opens}
use Rattle.std.proofs.Common.{List, ◌∷◌, ◌++◌, [], ap, ◌∙◌}
use Rattle.peer_lock.specs.Run.{Recorded}
use Rattle.peer_lock.proofs.dealing.open.Goals as goal

pub new-requires-2 : goal.new-requires-2
new-requires-2 c =
    opens c.args.site c.push.new.self.items (c.in_ok-push.ensures.items ∙ ap (λ (l : List Recorded). l ++ c.in_ok-new.field-0 ∷ []) c.new-slots.ensures.items ∙ ap (λ (r : Recorded). r ∷ []) c.in_ok-new.ensures)
