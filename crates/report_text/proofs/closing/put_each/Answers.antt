use Rattle.std.proofs.Common.{◌≡◌, ℕ, suc, ◌+◌, List, ◌∷◌, ◌++◌, drop, drop-cons, Some, sym, ap, ◌∙◌, append_assoc, arith}
use Rattle.std.specs.Prelude.{flat_map, slice_get}
use Rattle.std.proofs.lemmas.Option.{slice_get_within, get_or_from_slice_get}
use Rattle.std.proofs.lemmas.List.Concat.{flat_map-cons}
use Rattle.report_text.specs.Closing.{waits_line}
use Rattle.report_text.proofs.closing.put_each.Goals as goal

-- the lines from one place on begin with the one at that place
lines_from : {X : Type 0} (f : X → List ℕ) (xs : List X) (i : ℕ) (x : X) → Some x ≡ slice_get xs i → flat_map f (drop i xs) ≡ f x ++ flat_map f (drop (i + 1) xs)
lines_from f xs i x e =
    let next : suc i ≡ i + 1 = omega arith in
    let cut : drop i xs ≡ x ∷ drop (i + 1) xs
    = drop-cons xs i x (slice_get_within xs i x (sym e)) ∙ ap (λ (y : _). y ∷ drop (suc i) xs) (get_or_from_slice_get xs i x x (sym e))
    ∙ ap (λ (n : ℕ). x ∷ drop n xs) next in
    ap (flat_map f) cut ∙ flat_map-cons f x (drop (i + 1) xs)

pub loop-i-preserved : goal.loop-i-preserved
loop-i-preserved c =
    let p = c.args.peer.now in
    let i = c.loop-i.i in
    ap (λ (l : List ℕ). l ++ flat_map (waits_line p) (drop (i + 1) p.held)) c.in_ok-put_waits.ensures
    ∙ append_assoc c.loop-i.lines.items (waits_line p c.in-Some.message.now) (flat_map (waits_line p) (drop (i + 1) p.held))
    ∙ ap (λ (l : List ℕ). c.loop-i.lines.items ++ l) (sym (lines_from (waits_line p) p.held i c.in-Some.message.now c.in-Some.ensures))
    ∙ c.loop-i.invariant
