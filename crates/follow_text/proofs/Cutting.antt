-- Pieces that are cut from bytes with others in place of some.
use Rattle.std.proofs.Common.{◌≡◌, ℕ, zero, suc, ◌+◌, ◌-◌, ◌<◌, ◌≤◌, List, [], ◌∷◌, ◌++◌, length, take, drop, get_or, map, refl, ap, sym, ◌∙◌, arith, length-append}
use Rattle.std.specs.Prelude.{sum, insert, remove, slice_set, slice_get, option_map, unwrap_or}
use Rattle.std.specs.declared.option.Option.{Option}
use Rattle.std.specs.List.{concat}
use Rattle.std.proofs.Math.Seq.{take-length, take-add}
use Rattle.std.proofs.lemmas.List.{drop-drop, length-drop, length-take-le, take-append-le, drop-append-le, take-take, drop-take, take_at, drop_at, take_more, map-append, set_split, set_past}
use Rattle.std.proofs.lemmas.Option.{slice_get-get_or}
use Rattle.std.proofs.lemmas.List.Sums.{sum_by-cons, sum_by-append, sum_by-take-le, sum_by-take-drop}
use Rattle.peer_step.specs.Text.{cut}
use Rattle.follow_text.specs.Rows.{replaced}
use Rattle.follow_text.specs.Shown.{with_pieces}

-- bytes in two parts are cut in two parts
cut_append : (xs ys a b : List ℕ) → sum xs ≡ length a → cut (xs ++ ys) (a ++ b) ≡ cut xs a ++ cut ys b
cut_append [] ys [] b whole = refl
cut_append [] ys (x ∷ a) b whole = absurd cc
cut_append (s ∷ xs) ys a b whole =
    let n = length-drop s a in
    let all = sum_by-cons (λ (x : ℕ). x) s xs in
    let few : s ≤ length a = omega (arith, all, whole) in
    rw (take-append-le s a b few, drop-append-le s a b few)
    (ap (λ (rest : List (List ℕ)). take s a ∷ rest) (cut_append xs ys (drop s a) b (omega (arith, n, all, whole))))

-- the first pieces are those of the first sizes
cut_take : (sizes bytes : List ℕ) (n : ℕ) → sum sizes ≡ length bytes → cut (take n sizes) (take (sum (take n sizes)) bytes) ≡ take n (cut sizes bytes)
cut_take sizes bytes zero whole = refl
cut_take [] bytes (suc n) whole = refl
cut_take (s ∷ sizes) bytes (suc n) whole =
    let len = length-drop s bytes in
    let all = sum_by-cons (λ (x : ℕ). x) s sizes in
    let front = sum_by-cons (λ (x : ℕ). x) s (take n sizes) in
    let few = sum_by-take-le (λ (x : ℕ). x) sizes n in
    let k : ℕ = sum (take n sizes) in
    let first : take s (take (s + k) bytes) ≡ take s bytes = take-take s (s + k) bytes (omega arith) in
    let rest : drop s (take (s + k) bytes) ≡ take k (drop s bytes) = drop-take s k bytes in
    ap (λ (m : ℕ). take s (take m bytes) ∷ cut (take n sizes) (drop s (take m bytes))) front
    ∙ ap (λ (p : List ℕ). p ∷ cut (take n sizes) (drop s (take (s + k) bytes))) first
    ∙ ap (λ (b : List ℕ). take s bytes ∷ cut (take n sizes) b) rest
    ∙ ap (λ (pieces : List (List ℕ)). take s bytes ∷ pieces) (cut_take sizes (drop s bytes) n (omega (arith, len, all, whole)))

-- and the last ones those of the last sizes
cut_drop : (sizes bytes : List ℕ) (n : ℕ) → cut (drop n sizes) (drop (sum (take n sizes)) bytes) ≡ drop n (cut sizes bytes)
cut_drop sizes bytes zero = refl
cut_drop [] bytes (suc n) = refl
cut_drop (s ∷ sizes) bytes (suc n) =
    ap (λ (m : ℕ). cut (drop n sizes) (drop m bytes)) (sum_by-cons (λ (x : ℕ). x) s (take n sizes))
    ∙ ap (λ (b : List ℕ). cut (drop n sizes) b) (sym (drop-drop (sum (take n sizes)) s bytes))
    ∙ cut_drop sizes (drop s bytes) n

-- where so many sizes more end
sum_more : (sizes : List ℕ) (at out : ℕ) → sum (take (at + out) sizes) ≡ sum (take at sizes) + sum (take out (drop at sizes))
sum_more sizes at out =
    ap sum (take-add at out sizes) ∙ sum_by-append (λ (x : ℕ). x) (take at sizes) (take out (drop at sizes))

-- sizes and bytes with others put in, as pieces
pub record PutsIn (sizes bytes put_sizes put new_sizes new_bytes : List ℕ) (at out : ℕ) : Type 0 where
  pub pieces : cut new_sizes new_bytes ≡ with_pieces (cut sizes bytes) at out (cut put_sizes put)
  pub whole : sum new_sizes ≡ length new_bytes

module _ (sizes bytes put_sizes put new_sizes new_bytes : List ℕ) (at out start gone : ℕ) (whole : sum sizes ≡ length bytes) (put_whole : sum put_sizes ≡ length put)
    (start_is : start ≡ sum (take at sizes)) (gone_is : gone ≡ sum (take (at + out) sizes) - start)
    (sizes_are : new_sizes ≡ replaced sizes at out put_sizes) (bytes_are : new_bytes ≡ replaced bytes start gone put) where
  stop_is : start + gone ≡ sum (take (at + out) sizes)
  stop_is = let more = sum_more sizes at out in omega (arith, more, start_is, gone_is)

  front_size : length (take start bytes) ≡ start
  front_size = length-take-le start bytes (let few = sum_by-take-le (λ (x : ℕ). x) sizes at in omega (arith, few, whole, start_is))

  front_cut : cut (take at sizes) (take start bytes) ≡ take at (cut sizes bytes)
  front_cut = ap (λ (k : ℕ). cut (take at sizes) (take k bytes)) start_is ∙ cut_take sizes bytes at whole

  -- the pieces are those with the new ones in them
  cut_with : cut new_sizes new_bytes ≡ with_pieces (cut sizes bytes) at out (cut put_sizes put)
  cut_with =
      ap (λ (s : List ℕ). cut s new_bytes) sizes_are
      ∙ ap (λ (b : List ℕ). cut (replaced sizes at out put_sizes) b) bytes_are
      ∙ ap (λ (k : ℕ). cut (replaced sizes at out put_sizes) (take start bytes ++ (put ++ drop k bytes))) stop_is
      ∙ cut_append (take at sizes) (put_sizes ++ drop (at + out) sizes) (take start bytes) (put ++ drop (sum (take (at + out) sizes)) bytes) (sym start_is ∙ sym front_size)
      ∙ ap (λ (pieces : List (List ℕ)). pieces ++ cut (put_sizes ++ drop (at + out) sizes) (put ++ drop (sum (take (at + out) sizes)) bytes)) front_cut
      ∙ ap (λ (pieces : List (List ℕ)). take at (cut sizes bytes) ++ pieces)
      (cut_append put_sizes (drop (at + out) sizes) put (drop (sum (take (at + out) sizes)) bytes) put_whole
      ∙ ap (λ (pieces : List (List ℕ)). cut put_sizes put ++ pieces) (cut_drop sizes bytes (at + out)))

  -- and the sizes are those of the bytes
  whole_with : sum new_sizes ≡ length new_bytes
  whole_with =
      let a = sum_by-append (λ (x : ℕ). x) (take at sizes) (put_sizes ++ drop (at + out) sizes) in
      let b = sum_by-append (λ (x : ℕ). x) put_sizes (drop (at + out) sizes) in
      let c = length-append (take start bytes) (put ++ drop (start + gone) bytes) in
      let d = length-append put (drop (start + gone) bytes) in
      let e = length-drop (start + gone) bytes in
      let f = sum_by-take-drop (λ (x : ℕ). x) sizes (at + out) in
      let g = stop_is in
      let h = front_size in
      let s : sum new_sizes ≡ sum (replaced sizes at out put_sizes) = ap (λ (xs : List ℕ). sum xs) sizes_are in
      let t : length new_bytes ≡ length (replaced bytes start gone put) = ap (λ (xs : List ℕ). length xs) bytes_are in
      omega (arith, a, b, c, d, e, f, g, h, s, t, whole, put_whole, start_is)

  pub puts_in : PutsIn sizes bytes put_sizes put new_sizes new_bytes at out
  puts_in = record { pieces = cut_with; whole = whole_with }

-- ---- one piece

-- a piece of its own size is cut whole
one_piece : (put : List ℕ) → cut (length put ∷ []) put ≡ put ∷ []
one_piece put = ap (λ (p : List ℕ). p ∷ []) (take-length put)

pub insert_is : (pieces : List (List ℕ)) (at : ℕ) (put letter : List ℕ) → put ≡ letter → with_pieces pieces at 0 (cut (length put ∷ []) put) ≡ insert pieces at letter
insert_is pieces at put letter same =
    let here : at + 0 ≡ at = omega arith in
    ap (λ (p : List (List ℕ)). with_pieces pieces at 0 p) (one_piece put ∙ ap (λ (p : List ℕ). p ∷ []) same)
    ∙ ap (λ (k : ℕ). take at pieces ++ (letter ∷ drop k pieces)) here

pub remove_is : (pieces : List (List ℕ)) (at : ℕ) → with_pieces pieces at 1 (cut [] []) ≡ remove pieces at
remove_is pieces at = let next : at + 1 ≡ suc at = omega arith in ap (λ (k : ℕ). take at pieces ++ drop k pieces) next

pub set_is : (pieces : List (List ℕ)) (at : ℕ) (put letter : List ℕ) → at < length pieces → put ≡ letter
    → with_pieces pieces at 1 (cut (length put ∷ []) put) ≡ slice_set pieces at letter
set_is pieces at put letter there same =
    let next : at + 1 ≡ suc at = omega arith in
    ap (λ (p : List (List ℕ)). with_pieces pieces at 1 p) (one_piece put ∙ ap (λ (p : List ℕ). p ∷ []) same)
    ∙ ap (λ (k : ℕ). take at pieces ++ (letter ∷ drop k pieces)) next
    ∙ sym (set_split pieces at letter there)

-- nothing comes in place of nothing
pub stays_is : (pieces : List (List ℕ)) (at : ℕ) (letter : List ℕ) → length pieces ≤ at → with_pieces pieces 0 0 (cut [] []) ≡ slice_set pieces at letter
stays_is pieces at letter past = sym (set_past pieces at letter past)

-- ---- all pieces

-- the sizes of pieces are those of their bytes
pub whole_sizes : (pieces : List (List ℕ)) → sum (map (λ (p : List ℕ). length p) pieces) ≡ length (concat pieces)
whole_sizes [] = refl
whole_sizes (p ∷ pieces) =
    let a = sum_by-cons (λ (x : ℕ). x) (length p) (map (λ (q : List ℕ). length q) pieces) in
    let b = length-append p (concat pieces) in
    let c = whole_sizes pieces in
    omega (arith, a, b, c)

-- by these they are cut again
pub cut_sizes : (pieces : List (List ℕ)) → cut (map (λ (p : List ℕ). length p) pieces) (concat pieces) ≡ pieces
cut_sizes [] = refl
cut_sizes (p ∷ pieces) =
    ap (λ (first : List ℕ). first ∷ cut (map (λ (q : List ℕ). length q) pieces) (drop (length p) (p ++ concat pieces))) (take_at p (concat pieces) (length p) refl)
    ∙ ap (λ (rest : List ℕ). p ∷ cut (map (λ (q : List ℕ). length q) pieces) rest) (drop_at p (concat pieces) (length p) refl)
    ∙ ap (λ (rest : List (List ℕ)). p ∷ rest) (cut_sizes pieces)

-- one more size
pub sizes_more : (pieces : List (List ℕ)) (n size : ℕ) (found : Option ℕ) (old new : List ℕ) → n < length pieces
    → found ≡ option_map (λ (p : List ℕ). length p) (slice_get pieces n) → size ≡ unwrap_or found 0
    → old ≡ map (λ (p : List ℕ). length p) (take n pieces) → new ≡ old ++ size ∷ [] → new ≡ map (λ (p : List ℕ). length p) (take (n + 1) pieces)
sizes_more pieces n size found old new there found_is size_is old_is new_is =
    let at : size ≡ length (get_or pieces n []) = size_is ∙ ap (λ (o : Option ℕ). unwrap_or o 0) (found_is ∙ ap (option_map (λ (p : List ℕ). length p)) (slice_get-get_or pieces n [] there)) in
    new_is ∙ ap (λ (xs : List ℕ). xs ++ size ∷ []) old_is ∙ ap (λ (s : ℕ). map (λ (p : List ℕ). length p) (take n pieces) ++ s ∷ []) at
    ∙ sym (map-append (λ (p : List ℕ). length p) (take n pieces) (get_or pieces n [] ∷ []))
    ∙ ap (λ (ps : List (List ℕ)). map (λ (p : List ℕ). length p) ps) (sym (take_more pieces n [] there))
