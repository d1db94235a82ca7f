use Rattle.std.proofs.Common.{◌≡◌, ℕ, ◌+◌, ◌<◌, List, ◌++◌, ◌∙◌, ap, sym, subst, arith, length, take, drop, set, get_or}
use Rattle.std.specs.List.{insert}
use Rattle.std.proofs.lemmas.List.{get_or_default, take-append-drop}
use Rattle.std.proofs.lemmas.List.Edits.{get_or-insert_below}
use Rattle.name_index.specs.Chunks.{flat}
use Rattle.name_index.proofs.Flats.{flat_split}
use Rattle.name_index.proofs.map.cut.Goals as goal

-- the chunk, where another stands behind it
still : {A : Type 0} (xs after : List (List A)) (c : ℕ) (y upper : List A) → c < length xs → after ≡ insert xs (c + 1) upper → y ≡ get_or after c y → y ≡ get_or xs c y
still xs after c y upper l is_after is_y = is_y ∙ ap (λ ys. get_or ys c y) is_after ∙ get_or-insert_below xs (c + 1) upper y c (omega arith) (omega (arith, l))

parted : {A : Type 0} (xs after : List (List A)) (c at : ℕ) (x y lower upper : List A) → c < length xs → x ≡ get_or xs c x → upper ≡ drop at x → after ≡ insert xs (c + 1) upper → y ≡ get_or after c y → lower ≡ take at y
    → flat (set after c lower) ≡ flat xs
parted xs after c at x y lower upper l is_x is_upper is_after is_y is_lower =
    let same : y ≡ get_or xs c y = still xs after c y upper l is_after is_y in
    let one : x ≡ y = is_x ∙ get_or_default xs c x y l ∙ sym same in
    let two : lower ++ upper ≡ get_or xs c y = ap (λ z. z ++ upper) is_lower ∙ ap (λ z. take at y ++ z) (is_upper ∙ ap (drop at) one) ∙ take-append-drop at y ∙ same in
    ap (λ ys. flat (set ys c lower)) is_after ∙ flat_split xs c y lower upper l two

pub upper-requires : goal.upper-requires
upper-requires g c = subst (λ (z : List (g.row.K.Denot × g.row.V.Denot)). c.args.at < length z) (sym c.index.ensures) (c.requires.within c.index.result.now)

pub keep_lower-requires : goal.keep_lower-requires
keep_lower-requires g c =
    let y = c.index_mut-chunk.result.now in
    let same = still c.args.chunks.now.items c.insert.new.self.items c.args.c y c.in_ok-upper.upper c.requires.c c.in_ok-insert.ensures.items c.index_mut-chunk.ensures.value in
    record {
      some = c.requires.some;
      within = omega (arith, ap length same, c.requires.within y);
    }

pub returns-clause-entries : goal.returns-clause-entries
returns-clause-entries g c =
    parted c.args.chunks.now.items c.insert.new.self.items c.args.c c.args.at c.index.result.now c.index_mut-chunk.result.now c.keep_lower.new.self c.in_ok-upper.upper c.requires.c c.index.ensures c.in_ok-upper.ensures c.in_ok-insert.ensures.items
    c.index_mut-chunk.ensures.value c.keep_lower.ensures
