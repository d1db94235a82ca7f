use Rattle.std.proofs.Common.{List, [], ◌∷◌, ◌++◌, ℕ, ap, ◌∙◌, arith}
use Rattle.peer_disk.proofs.Behind.{push_closed}
use Rattle.peer_disk.proofs.records.Records.push.Goals as goal

pub invariant_of-self-2 : goal.invariant_of-self-2
invariant_of-self-2 c =
    (push_closed c.self.inside.bytes.items c.extend_from_slice.new.self.items c.args.body.now _ c.len-gate.result c.self.invariant c.behind.ensures.short (omega (arith, c.len-gate.ensures)) c.behind.ensures.value c.in_ok-extend_from_slice.ensures.items).0

pub returns-clause-pushed : goal.returns-clause-pushed
returns-clause-pushed c =
    (push_closed c.self.inside.bytes.items c.extend_from_slice.new.self.items c.args.body.now _ c.len-gate.result c.self.invariant c.behind.ensures.short (omega (arith, c.len-gate.ensures)) c.behind.ensures.value c.in_ok-extend_from_slice.ensures.items).1
    ∙ ap (λ (l : List (List ℕ)). l ++ c.args.body.now ∷ []) c.self.view_is
