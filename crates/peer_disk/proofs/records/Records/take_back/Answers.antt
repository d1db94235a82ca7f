use Rattle.std.proofs.Common.{◌≡◌, ℕ, ◌+◌, ◌-◌, List, [], ◌∷◌, ◌++◌, length, set, ap, ◌∙◌, arith}
use Rattle.peer_disk.specs.Records.{bodies_of, behind_gate_of}
use Rattle.peer_disk.proofs.Behind.{holds_last, taken_back, kept_short, are_closed, closed_again}
use Rattle.peer_disk.proofs.records.Records.take_back.Goals as goal

pub overflow_sub-gate-2 : goal.overflow_sub-gate-2
overflow_sub-gate-2 c =
    let bytes : List ℕ = c.self.inside.bytes.items in
    let size = holds_last bytes c.requires.0 c.args.body.now c.self.invariant (c.self.view_is ∙ c.requires.1) in
    omega (arith, c.len.ensures, size, ap length c.behind.ensures.value)

pub invariant_of-self : goal.invariant_of-self
invariant_of-self c =
    let bytes : List ℕ = c.self.inside.bytes.items in
    let kept : List (List ℕ) = c.requires.0 in
    let body : List ℕ = c.args.body.now in
    let last : bodies_of bytes ≡ kept ++ body ∷ [] = c.self.view_is ∙ c.requires.1 in
    let gate : ℕ = c.len.result - 1 - length c.behind.result.now in
    let size : gate + 1 + length (behind_gate_of body) ≡ length bytes = omega (arith, c.len.ensures, holds_last bytes kept body c.self.invariant last, ap length c.behind.ensures.value) in
    let now_is = ap (λ (l : List ℕ). set l gate 0) c.truncate.ensures.items ∙ taken_back bytes kept body c.self.invariant last gate size in
    are_closed (set c.truncate.new.self.items gate 0) kept (kept_short bytes kept body c.self.invariant last) now_is

pub returns : goal.returns
returns c kept is =
    let bytes : List ℕ = c.self.inside.bytes.items in
    let body : List ℕ = c.args.body.now in
    let last : bodies_of bytes ≡ kept ++ body ∷ [] = c.self.view_is ∙ is in
    let gate : ℕ = c.len.result - 1 - length c.behind.result.now in
    let size : gate + 1 + length (behind_gate_of body) ≡ length bytes = omega (arith, c.len.ensures, holds_last bytes kept body c.self.invariant last, ap length c.behind.ensures.value) in
    let now_is = ap (λ (l : List ℕ). set l gate 0) c.truncate.ensures.items ∙ taken_back bytes kept body c.self.invariant last gate size in
    closed_again (set c.truncate.new.self.items gate 0) kept (kept_short bytes kept body c.self.invariant last) now_is
