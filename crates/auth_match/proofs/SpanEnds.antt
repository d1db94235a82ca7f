-- An end of a span, told by whether it stands before an element, or the element before it.
use Rattle.std.proofs.Common.{◌≡◌, ◌+◌, ◌<◌, ◌≤◌, ℕ, ⊎_elim, Bool, true, false, not, List, [], ◌∷◌, length, refl, sym, subst, ap, ◌∙◌, arith}
use Rattle.std.specs.Prelude.{◌&&◌, nat_lt}
use Rattle.std.proofs.lemmas.Bool.{cases_Bool, cases_lt}
use Rattle.std.proofs.lemmas.Bool.Decides.{nat_tests}
use Rattle.element_name.specs.Name.{Name, name_eq, has_name}
use Rattle.element_name.specs.Places.{place_in, stands_before}
use Rattle.element_name.proofs.NameOrder.{same_name}
use Rattle.auth_match.proofs.OneMore.{place_none, place_below}

-- ---- places of two names

place_at_head : (m : Name) (names : List Name) (n : Name) → name_eq n m ≡ true → place_in (m ∷ names) n ≡ 0
place_at_head m names n h = rw h refl

place_in_tail : (m : Name) (names : List Name) (n : Name) → name_eq n m ≡ false → place_in (m ∷ names) n ≡ 1 + place_in names n
place_in_tail m names n h = rw h refl

-- another name than an element's has another place
places_apart : (names : List Name) (a e : Name) → name_eq a e ≡ false → has_name names e ≡ true → place_in names a ≡ place_in names e → ⊥
places_apart [] a e other there same = absurd (cc)
places_apart (m ∷ names) a e other there same =
    ⊎_elim
    (λ (t : name_eq e m ≡ true).
    let zero_e : place_in (m ∷ names) e ≡ 0 = place_at_head m names e t in
    let apart : name_eq a m ≡ false = ap (λ n. name_eq a n) (sym (same_name e m t)) ∙ other in
    let behind : place_in (m ∷ names) a ≡ 1 + place_in names a = place_in_tail m names a apart in
    omega (arith, zero_e, behind, same))
    (λ (f : name_eq e m ≡ false).
    let behind_e : place_in (m ∷ names) e ≡ 1 + place_in names e = place_in_tail m names e f in
    ⊎_elim
    (λ (t : name_eq a m ≡ true).
    let zero_a : place_in (m ∷ names) a ≡ 0 = place_at_head m names a t in omega (arith, behind_e, zero_a, same))
    (λ (g : name_eq a m ≡ false).
    let behind_a : place_in (m ∷ names) a ≡ 1 + place_in names a = place_in_tail m names a g in
    places_apart names a e other (rw f at there) (omega (arith, behind_e, behind_a, same)))
    (cases_Bool (name_eq a m)))
    (cases_Bool (name_eq e m))

-- ---- numbers in the place of them

either_smaller : (p q l : ℕ) → p < l → q < l → (p ≡ q → ⊥) → (nat_lt p q && nat_lt q l) ≡ not (nat_lt q p && nat_lt p l)
either_smaller p q l below within apart =
    ⊎_elim
    (λ (k : p < q). grind (arith, nat_tests))
    (λ (k : q ≤ p). let more : q < p = omega (arith, k, apart) in grind (arith, nat_tests))
    (cases_lt p q)

none_before : (p q l : ℕ) → p ≡ l → q < l → (nat_lt p q && nat_lt q l) ≡ false
none_before p q l out within = let no : nat_lt p q ≡ false = grind (arith, nat_tests) in rw no refl

none_behind : (p q l : ℕ) → q ≡ l → (nat_lt p q && nat_lt q l) ≡ false
none_behind p q l out =
    let no : nat_lt q l ≡ false = grind (arith, nat_tests) in
    ⊎_elim (λ (t : nat_lt p q ≡ true). rw (t, no) refl) (λ (f : nat_lt p q ≡ false). rw f refl) (cases_Bool (nat_lt p q))

-- ---- the ends

module _ (names : List Name) (a e : Name) (there : has_name names e ≡ true) where
  -- another name than the element's stands before it, if it is an element's and isn't behind it
  pub begins_before : name_eq a e ≡ false → stands_before names a e ≡ (has_name names a && not (stands_before names e a))
  begins_before other =
      ⊎_elim
      (λ (t : has_name names a ≡ true).
      either_smaller (place_in names a) (place_in names e) (length names) (place_below names a t) (place_below names e there)
      (places_apart names a e other there)
      ∙ ap (λ b. b && not (stands_before names e a)) (sym t))
      (λ (f : has_name names a ≡ false).
      none_before (place_in names a) (place_in names e) (length names) (place_none names a f) (place_below names e there)
      ∙ ap (λ b. b && not (stands_before names e a)) (sym f))
      (cases_Bool (has_name names a))

  -- and it stands behind the element, if it is an element's and isn't before it
  pub ends_behind : name_eq a e ≡ false → stands_before names e a ≡ (has_name names a && not (stands_before names a e))
  ends_behind other =
      ⊎_elim
      (λ (t : has_name names a ≡ true).
      either_smaller (place_in names e) (place_in names a) (length names) (place_below names e there) (place_below names a t)
      (λ same. places_apart names a e other there (sym same))
      ∙ ap (λ b. b && not (stands_before names a e)) (sym t))
      (λ (f : has_name names a ≡ false).
      none_behind (place_in names e) (place_in names a) (length names) (place_none names a f)
      ∙ ap (λ b. b && not (stands_before names a e)) (sym f))
      (cases_Bool (has_name names a))

  -- the element is none that stands before itself
  itself : (has_name names e && not (stands_before names e e)) ≡ true
  itself = both (place_in names e) (length names) (has_name names e) there
    where
      both : (p l : ℕ) (has : Bool) → has ≡ true → (has && not (nat_lt p p && nat_lt p l)) ≡ true
      both p l has h = let no : nat_lt p p ≡ false = grind (arith, nat_tests) in rw (h, no) refl

  pub begins_there : name_eq a e ≡ true → true ≡ (has_name names a && not (stands_before names e a))
  begins_there same = subst (λ (n : Name). true ≡ (has_name names n && not (stands_before names e n))) (sym (same_name a e same)) (sym itself)

  pub ends_there : name_eq a e ≡ true → true ≡ (has_name names a && not (stands_before names a e))
  ends_there same = subst (λ (n : Name). true ≡ (has_name names n && not (stands_before names n e))) (sym (same_name a e same)) (sym itself)
