-- Places of links, one of which is emptied or filled.
use Rattle.std.proofs.Common.{◌≡◌, ℕ, zero, suc, ◌+◌, ◌<◌, ◌≤◌, Option, Some, None, List, [], ◌∷◌, ◌++◌, length, take, drop, slice_set, slice_get, All, refl, sym, ap, ◌∙◌, subst, arith}
use Rattle.std.proofs.lemmas.List.{drop_more, take_more_set, drop-set-lt, take-set-le}
use Rattle.std.proofs.lemmas.List.Elements.{All-drop, All-append}
use Rattle.std.proofs.lemmas.Option.{slice_get_within, get_or_from_slice_get}
use Rattle.edit_io.specs.Wire.{Wire}
use Rattle.edit_io.specs.Lobby.{standing, IsTaken, IsUnusedPlace}

pub standing-append : (xs ys : List (Option Wire)) → standing (xs ++ ys) ≡ standing xs ++ standing ys
standing-append [] ys = refl
standing-append (None ∷ xs) ys = standing-append xs ys
standing-append (Some w ∷ xs) ys = ap (λ l. w ∷ l) (standing-append xs ys)

-- a link that comes back into a place stands behind those before it
pub standing_put : (places now : List (Option Wire)) (at : ℕ) (w : Wire) → at < length places → now ≡ slice_set places at (Some w)
    → standing (take (at + 1) now) ≡ standing (take at places) ++ w ∷ []
standing_put places now at w within is =
    ap (λ l. standing (take (at + 1) l)) is ∙ ap standing (take_more_set places at (Some w) within) ∙ standing-append (take at places) (Some w ∷ [])

-- what stands from a place on, where a link stands in it
pub drop_at_link : (places : List (Option Wire)) (at : ℕ) (place : Option Wire) → slice_get places at ≡ Some place → drop at places ≡ place ∷ drop (at + 1) places
drop_at_link places at place is =
    drop_more places at place (slice_get_within places at place is) ∙ ap (λ p. p ∷ drop (at + 1) places) (get_or_from_slice_get places at place place is)

-- the places behind one that was emptied
pub drop_emptied : (places now : List (Option Wire)) (at : ℕ) → now ≡ slice_set places at None → drop (at + 1) now ≡ drop (at + 1) places
drop_emptied places now at is = ap (drop (at + 1)) is ∙ drop-set-lt (at + 1) places at None (omega arith)

-- the places before one that was emptied
pub take_emptied : (places now : List (Option Wire)) (at n : ℕ) → n ≤ at → now ≡ slice_set places at None → take n now ≡ take n places
take_emptied places now at n few is = ap (take n) is ∙ take-set-le n places at None few

-- the first of new places is one
pub new_first : (place : Option Wire) (places : List (Option Wire)) → All IsUnusedPlace (place ∷ places) → IsUnusedPlace place
new_first place places all = all 0 place (omega arith)

-- the places behind a new one are new
pub new_rest : (places now : List (Option Wire)) (at : ℕ) (place : Option Wire) → slice_get places at ≡ Some place → now ≡ slice_set places at None
    → All IsUnusedPlace (drop at places) → All IsUnusedPlace (drop (at + 1) now)
new_rest places now at place there is all =
    let rest : All IsUnusedPlace (drop 1 (place ∷ drop (at + 1) places)) = All-drop IsUnusedPlace 1 (place ∷ drop (at + 1) places) (subst (All IsUnusedPlace) (drop_at_link places at place there) all) in
    subst (All IsUnusedPlace) (sym (drop_emptied places now at is)) rest

-- the places behind one that was filled
pub drop_filled : (places now : List (Option Wire)) (at n : ℕ) (w : Wire) → at < n → now ≡ slice_set places at (Some w) → drop n now ≡ drop n places
drop_filled places now at n w behind is = ap (drop n) is ∙ drop-set-lt n places at (Some w) behind

taken_one : (w : Wire) → All IsTaken (Some w ∷ [])
taken_one w zero place within = tt
taken_one w (suc k) place within = absurd (omega arith)

-- the places up to one that was filled
pub taken_filled : (places now : List (Option Wire)) (at : ℕ) (w : Wire) → at < length places → now ≡ slice_set places at (Some w)
    → All IsTaken (take at places) → All IsTaken (take (at + 1) now)
taken_filled places now at w within is all =
    let grown : take (at + 1) now ≡ take at places ++ Some w ∷ [] = ap (take (at + 1)) is ∙ take_more_set places at (Some w) within in
    let one : All IsTaken (Some w ∷ []) = taken_one w in
    subst (All IsTaken) (sym grown) (All-append IsTaken (take at places) (Some w ∷ []) all one)

-- of places that are taken the first is, and the others are
first_taken : (place : Option Wire) (places : List (Option Wire)) → All IsTaken (place ∷ places) → IsTaken place
first_taken place places all = all 0 place (omega arith)

others_taken : (place : Option Wire) (places : List (Option Wire)) → All IsTaken (place ∷ places) → All IsTaken places
others_taken place places all = All-drop IsTaken 1 (place ∷ places) all

-- as many links stand in places that are taken as there are places
pub length-standing : (places : List (Option Wire)) → All IsTaken places → length (standing places) ≡ length places
length-standing [] all = refl
length-standing (None ∷ places) all = absurd (first_taken None places all)
length-standing (Some w ∷ places) all = ap suc (length-standing places (others_taken (Some w) places all))

-- the link in one of places that are taken
pub standing_at : (places : List (Option Wire)) (at : ℕ) (w : Wire) → All IsTaken places → slice_get places at ≡ Some (Some w) → slice_get (standing places) at ≡ Some w
standing_at [] at w all is = cc
standing_at (None ∷ places) at w all is = absurd (first_taken None places all)
standing_at (Some v ∷ places) zero w all is = cc
standing_at (Some v ∷ places) (suc at) w all is = standing_at places at w (others_taken (Some v) places all) is
