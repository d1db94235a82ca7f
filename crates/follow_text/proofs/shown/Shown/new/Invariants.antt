use Rattle.std.proofs.Common.{◌≡◌, List, ℕ, length, map, take}
use Rattle.follow_text.proofs.shown.Shown.new.Given as goal

abbrev pub invariant-loop-number : goal.invariant-loop-number
invariant-loop-number l = l.sizes.items ≡ map (λ (p : List ℕ). length p) (take l.number l.text)
