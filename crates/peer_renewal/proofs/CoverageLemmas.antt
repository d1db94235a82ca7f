-- What is noted of each byte, `specs/Coverage.antt`.
use Rattle.std.proofs.Common.{◌≡◌, ℕ, zero, suc, ◌+◌, ◌<◌, ◌≤◌, Bool, List, [], ◌∷◌, ◌++◌, length, drop, replicate, map, None, Some, refl, ap, ap₂, sym, ◌∙◌, add-one, append_assoc, append-nil, arith}
use Rattle.std.specs.Prelude.{slice_get, option_map}
use Rattle.std.proofs.lemmas.List.{drop_all, map-append}
use Rattle.element_name.specs.Name.{Name}
use Rattle.peer_renewal.specs.Coverage.{each_byte}

-- the element at a place is the first of those that are left
more_from : (names : List Name) (pieces : List (List ℕ)) (at : ℕ) (e : Name) (size : ℕ)
    → slice_get names at ≡ Some e → option_map (λ (p : List ℕ). length p) (slice_get pieces at) ≡ Some size
    → each_byte (drop at names) (drop at pieces) ≡ replicate size e ++ each_byte (drop (suc at) names) (drop (suc at) pieces)
more_from [] pieces at e size named long = absurd (cc)
more_from (n ∷ names) [] at e size named long = absurd (cc)
more_from (n ∷ names) (p ∷ pieces) zero e size named long =
    let same : n ≡ e = cc in
    let sized : length p ≡ size = cc in
    ap₂ (λ (m : Name) (k : ℕ). replicate k m ++ each_byte names pieces) same sized
more_from (n ∷ names) (p ∷ pieces) (suc at) e size named long = more_from names pieces at e size named long

map_replicate : (test : Name → Bool) (e : Name) (size : ℕ) → map test (replicate size e) ≡ replicate size (test e)
map_replicate test e zero = refl
map_replicate test e (suc size) = ap (λ (l : List Bool). test e ∷ l) (map_replicate test e size)

-- the notes of bytes go on by those of the element at a place
pub noted_more : (test : Name → Bool) (names : List Name) (pieces : List (List ℕ)) (at : ℕ) (e : Name) (size : ℕ) (bits whole : List Bool)
    → Some e ≡ slice_get names at → Some size ≡ option_map (λ (p : List ℕ). length p) (slice_get pieces at)
    → bits ++ map test (each_byte (drop at names) (drop at pieces)) ≡ whole
    → (bits ++ replicate size (test e)) ++ map test (each_byte (drop (at + 1) names) (drop (at + 1) pieces)) ≡ whole
noted_more test names pieces at e size bits whole named long so_far =
    let left : List Name = each_byte (drop (suc at) names) (drop (suc at) pieces) in
    append_assoc bits (replicate size (test e)) (map test (each_byte (drop (at + 1) names) (drop (at + 1) pieces)))
    ∙ ap (λ (k : ℕ). bits ++ (replicate size (test e) ++ map test (each_byte (drop k names) (drop k pieces)))) (add-one at)
    ∙ ap (λ (l : List Bool). bits ++ (l ++ map test left)) (sym (map_replicate test e size))
    ∙ ap (λ (l : List Bool). bits ++ l) (sym (map-append test (replicate size e) left))
    ∙ ap (λ (l : List Name). bits ++ map test l) (sym (more_from names pieces at e size (sym named) (sym long)))
    ∙ so_far

-- behind the last place nothing is left
pub noted_all : (test : Name → Bool) (names : List Name) (pieces : List (List ℕ)) (at : ℕ) (bits whole : List Bool) → length names ≤ at
    → bits ++ map test (each_byte (drop at names) (drop at pieces)) ≡ whole → bits ≡ whole
noted_all test names pieces at bits whole end so_far =
    sym (append-nil bits) ∙ ap (λ (l : List Name). bits ++ map test (each_byte l (drop at pieces))) (sym (drop_all at names end)) ∙ so_far

-- at a place within a list there is something
pub get_there : (names : List Name) (i : ℕ) → i < length names → slice_get names i ≡ None → ⊥
get_there [] i low none = omega (arith, low)
get_there (n ∷ names) zero low none = cc
get_there (n ∷ names) (suc i) low none = get_there names i (omega (arith, low)) none

pub size_there : (pieces : List (List ℕ)) (i : ℕ) → i < length pieces → option_map (λ (p : List ℕ). length p) (slice_get pieces i) ≡ None → ⊥
size_there [] i low none = omega (arith, low)
size_there (p ∷ pieces) zero low none = cc
size_there (p ∷ pieces) (suc i) low none = size_there pieces i (omega (arith, low)) none
