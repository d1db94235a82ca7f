use Rattle.std.proofs.Common.{◌≡◌, ℕ, List, [], ◌∷◌, drop, refl, ap, ◌∙◌, arith}
use Rattle.std.proofs.lemmas.List.{nil_from_length}
use Rattle.audit_cert.specs.Audit.{differing_line}
use Rattle.audit_cert.proofs.auditing.differing_line.Goals as goal

-- where nothing more is told the first line differs
nothing_told : (due : List ℕ) → differing_line due [] ≡ 1
nothing_told [] = refl
nothing_told (d ∷ due) = refl

pub returns-in_default : goal.returns-in_default
returns-in_default c =
    let now = c.loop-byte in
    let none : now.rest.now ≡ [] = nil_from_length now.rest.now (omega (arith, c.in_default.len_below)) in
    let first = ap (differing_line (drop now.byte-index c.args.due.now)) none ∙ nothing_told (drop now.byte-index c.args.due.now) in
    omega (arith, now.invariant.left, first)
