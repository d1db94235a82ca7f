-- The places of names, each of which is there once.
use Rattle.std.proofs.Common.{◌≡◌, ℕ, ◌+◌, ◌<◌, ◌≤◌, Bool, true, false, cond, eqb, None, Some, List, [], ◌∷◌, ◌++◌, length, take, drop, get_or, refl, sym, ap, subst, ◌∙◌, append_assoc, arith, length-append, ⊎_elim}
use Rattle.std.specs.declared.option.Option.{Option}
use Rattle.std.specs.Prelude.{◌||◌, not, nat_lt, unwrap_or, position, if◌then◌else◌}
use Rattle.std.specs.List.{position_or_len}
use Rattle.std.specs.BTreeMap.{is_at}
use Rattle.std.proofs.lemmas.Bool.{and_parts, or_parts, cases_Bool}
use Rattle.std.proofs.lemmas.Bool.Decides.{nat_tests}
use Rattle.std.proofs.lemmas.List.{take_more, take-append-drop, length-take-le}
use Rattle.std.proofs.lemmas.List.Folds.{list_any-append, position_or_len_push}
use Rattle.element_name.specs.Name.{Name, name_eq, has_name, are_distinct}
use Rattle.element_name.specs.Named.{name_cmp}
use Rattle.element_name.specs.Places.{place_in}
use Rattle.element_name.proofs.NameOrder.{is_eq-name_cmp, name_eq-comm, same_name}
use Rattle.tomb_seq.proofs.SlotLemmas.{found_below, no_place}

-- an element has a place, and no other name has one
pub place_there : (names : List Name) (n : Name) → has_name names n ≡ true → position (name_eq n) names ≡ Some (place_in names n)
place_there names n there =
    let below = found_below (name_eq n) names there in
    let test : nat_lt (place_in names n) (length names) ≡ true = grind (arith, nat_tests) in
    rw test refl

pub place_none : (names : List Name) (n : Name) → has_name names n ≡ false → position (name_eq n) names ≡ None
place_none names n out =
    let end = no_place names n out in
    let test : nat_lt (place_in names n) (length names) ≡ false = grind (arith, nat_tests) in
    rw test refl

-- the place that is found, or the length
pub place_found : (names : List Name) (n : Name) → unwrap_or (position (name_eq n) names) (length names) ≡ place_in names n
place_found names n =
    ⊎_elim
    (λ (t : has_name names n ≡ true). ap (λ (o : Option ℕ). unwrap_or o (length names)) (place_there names n t))
    (λ (f : has_name names n ≡ false). ap (λ (o : Option ℕ). unwrap_or o (length names)) (place_none names n f) ∙ sym (no_place names n f))
    (cases_Bool (has_name names n))

-- it is in front of the end where the name is an element's
pub place_below : (names : List Name) (n : Name) → nat_lt (place_in names n) (length names) ≡ has_name names n
place_below names n =
    ⊎_elim
    (λ (t : has_name names n ≡ true). let below = found_below (name_eq n) names t in test_true (place_in names n) (length names) below ∙ sym t)
    (λ (f : has_name names n ≡ false). test_false (place_in names n) (length names) (no_place names n f) ∙ sym f)
    (cases_Bool (has_name names n))
  where
    test_true : (a b : ℕ) → a < b → nat_lt a b ≡ true
    test_true a b lt = grind (arith, nat_tests)

    test_false : (a b : ℕ) → a ≡ b → nat_lt a b ≡ false
    test_false a b is = grind (arith, nat_tests)

-- ---- one name more

-- of names that are there once the next isn't among those in front of it
pub fresh_at : (xs : List Name) (y : Name) (ys : List Name) → are_distinct (xs ++ y ∷ ys) ≡ true → has_name xs y ≡ false
fresh_at [] y ys once = refl
fresh_at (x ∷ xs) y ys once =
    let parts = and_parts (not (has_name (xs ++ y ∷ ys) x)) (are_distinct (xs ++ y ∷ ys)) once in
    let out : has_name (xs ++ y ∷ ys) x ≡ false = not_true (has_name (xs ++ y ∷ ys) x) parts.0 in
    let more = or_parts (has_name xs x) (name_eq x y || has_name ys x) (sym (list_any-append (name_eq x) xs (y ∷ ys)) ∙ out) in
    let apart : name_eq y x ≡ false = name_eq-comm y x ∙ (or_parts (name_eq x y) (has_name ys x) more.1).0 in
    rw apart (fresh_at xs y ys parts.1)
  where
    not_true : (b : Bool) → not b ≡ true → b ≡ false
    not_true true h = absurd (cc)
    not_true false h = refl

push_here : (place size : ℕ) (b : Bool) → place ≡ size → b ≡ true → cond (eqb place size) (size + cond b 0 1) place ≡ size
push_here place size true is e = grind (arith, nat_tests)
push_here place size false is e = absurd (cc)

push_there : (place size : ℕ) (b : Bool) → place < size → cond (eqb place size) (size + cond b 0 1) place ≡ place
push_there place size b lt =
    let other : eqb place size ≡ false = grind (arith, nat_tests) in
    rw other refl

below_more : (place size more : ℕ) → place ≤ size → more ≡ size + 1 → nat_lt place more ≡ true
below_more place size more le is = grind (arith, nat_tests)

pub place_more : (xs : List Name) (y n : Name) → has_name xs y ≡ false
    → position (name_eq n) (xs ++ y ∷ []) ≡ (if name_eq n y then Some (length xs) else position (name_eq n) xs)
place_more xs y n fresh = by (name_eq n y) refl (has_name xs n) refl
  where
    size : length (xs ++ y ∷ []) ≡ length xs + 1
    size = length-append xs (y ∷ [])

    push : position_or_len (name_eq n) (xs ++ y ∷ []) ≡ cond (eqb (position_or_len (name_eq n) xs) (length xs)) (length xs + cond (name_eq n y) 0 1) (position_or_len (name_eq n) xs)
    push = position_or_len_push (name_eq n) xs y

    by : (b : Bool) → name_eq n y ≡ b → (there : Bool) → has_name xs n ≡ there
        → position (name_eq n) (xs ++ y ∷ []) ≡ (if b then Some (length xs) else position (name_eq n) xs)
    by true e there is =
        let none : has_name xs n ≡ false = subst (λ k. has_name xs k ≡ false) (sym (same_name n y e)) fresh in
        let end = no_place xs n none in
        let at : position_or_len (name_eq n) (xs ++ y ∷ []) ≡ length xs =
        push ∙ push_here (position_or_len (name_eq n) xs) (length xs) (name_eq n y) end e in
        let test : nat_lt (length xs) (length (xs ++ y ∷ [])) ≡ true = below_more (length xs) (length xs) (length (xs ++ y ∷ [])) (omega arith) size in
        rw (at, test) refl
    by false e true is =
        let below = found_below (name_eq n) xs is in
        let at : position_or_len (name_eq n) (xs ++ y ∷ []) ≡ position_or_len (name_eq n) xs =
        push ∙ push_there (position_or_len (name_eq n) xs) (length xs) (name_eq n y) below in
        let test : nat_lt (position_or_len (name_eq n) xs) (length (xs ++ y ∷ [])) ≡ true =
        below_more (position_or_len (name_eq n) xs) (length xs) (length (xs ++ y ∷ [])) (omega (arith, below)) size in
        rw (at, test) (sym (place_there xs n is))
    by false e false is =
        place_none (xs ++ y ∷ []) n (list_any-append (name_eq n) xs (y ∷ []) ∙ rw (is, e) refl) ∙ sym (place_none xs n is)

-- ---- all of them

-- the next name leads to its place
pub next_ranked : (names : List Name) (i : ℕ) (y : Name) (old new : Name → Option ℕ) → are_distinct names ≡ true → i < length names → y ≡ get_or names i y
    → ((n : Name) → old n ≡ position (name_eq n) (take i names)) → ((n : Name) → new n ≡ cond (is_at (name_cmp y) n) (Some i) (old n))
    → (n : Name) → new n ≡ position (name_eq n) (take (i + 1) names)
next_ranked names i y old new once lt is ranked put n =
    let more : take (i + 1) names ≡ take i names ++ y ∷ [] = take_more names i y lt ∙ ap (λ z. take i names ++ z ∷ []) (sym is) in
    let split : names ≡ take i names ++ y ∷ drop (i + 1) names =
    sym (take-append-drop (i + 1) names) ∙ ap (λ (ns : List Name). ns ++ drop (i + 1) names) more ∙ append_assoc (take i names) (y ∷ []) (drop (i + 1) names) in
    let fresh = fresh_at (take i names) y (drop (i + 1) names) (subst (λ (ns : List Name). are_distinct ns ≡ true) split once) in
    let size : length (take i names) ≡ i = length-take-le i names (omega (arith, lt)) in
    put n
    ∙ ap (λ b. cond b (Some i) (old n)) (is_eq-name_cmp y n ∙ name_eq-comm y n)
    ∙ ap (λ (o : Option ℕ). cond (name_eq n y) (Some i) o) (ranked n)
    ∙ ap (λ k. cond (name_eq n y) (Some k) (position (name_eq n) (take i names))) (sym size)
    ∙ sym (place_more (take i names) y n fresh)
    ∙ ap (position (name_eq n)) (sym more)
