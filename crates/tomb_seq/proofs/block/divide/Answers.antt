use Rattle.std.proofs.Common.{◌≡◌, ◌∙◌, ◌++◌, ◌-◌, ◌≤◌, inl, inr, sym, ap, List, length, take, drop, insert, false, arith, length-take}
use Rattle.std.proofs.lemmas.List.{take-append-drop}
use Rattle.std.proofs.lemmas.List.Edits.{insert-append_left, insert-append_right}
use Rattle.tomb_seq.specs.declared.slot.Slot.{Slot}
use Rattle.tomb_seq.specs.Runs.{Run}
use Rattle.tomb_seq.proofs.block.divide.Goals as goal

pub returns-then-kept-eq0-clause-both : goal.returns-then-kept-eq0-clause-both
returns-then-kept-eq0-clause-both c =
    let s : Slot = record { name = c.args.name; shows = false } in
    let all = c.args.first.now.slots in
    let k = c.args.kept in
    let front : c.keep.new.self.slots ≡ take k all = ap (λ (b : Run). b.slots) c.keep.ensures in
    let n = length-take k all in
    let in_front : c.args.place ≤ k = elim c.if-kept-eq0.either [
      | inl t ↦ omega (arith, t)
      | inr e ↦ let z = c.requires.none e.1 in omega (arith, z)
    ] in
    let le : c.args.place ≤ length (take k all) = omega (arith, n, in_front, c.requires.full, c.requires.kept) in
    ap (λ (b : Run). b.slots ++ c.args.second.now.slots) c.insert.ensures
    ∙ ap (λ (ss : List Slot). insert ss c.args.place s ++ c.args.second.now.slots) front
    ∙ ap (λ (ss : List Slot). insert (take k all) c.args.place s ++ ss) c.requires.other
    ∙ sym (insert-append_left (take k all) (drop k all) c.args.place s le)
    ∙ ap (λ (ss : List Slot). insert ss c.args.place s) (take-append-drop k all)

pub returns-else-kept-eq0-clause-both : goal.returns-else-kept-eq0-clause-both
returns-else-kept-eq0-clause-both c =
    let s : Slot = record { name = c.args.name; shows = false } in
    let all = c.args.first.now.slots in
    let k = c.args.kept in
    let n : length (take k all) ≡ k = let m = length-take k all in omega (arith, m, c.requires.full, c.requires.kept) in
    let ge : k ≤ c.args.place = let t = c.if-kept-eq0.false.0 in omega (arith, t) in
    ap (λ (b : Run). b.slots ++ c.insert-else-kept-eq0.new.self.slots) c.keep.ensures
    ∙ ap (λ (b : Run). take k all ++ b.slots) c.insert-else-kept-eq0.ensures
    ∙ ap (λ (ss : List Slot). take k all ++ insert ss (c.args.place - k) s) c.requires.other
    ∙ sym (insert-append_right (take k all) (drop k all) k c.args.place s n ge)
    ∙ ap (λ (ss : List Slot). insert ss c.args.place s) (take-append-drop k all)
