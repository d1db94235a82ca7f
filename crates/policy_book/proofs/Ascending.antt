-- Lists in ascending order of their numbers, after a change.
use Rattle.std.proofs.Common.{◌≡◌, ℕ, ◌+◌, ◌<◌, ◌≤◌, Bool, true, false, not, List, [], ◌∷◌, ◌++◌, length, map, get_or, suc, zero, refl, ap, arith, eqb}
use Rattle.std.specs.Prelude.{nat_le, nat_lt, insert, take_while, filter}
use Rattle.std.specs.List.{list_all}
use Rattle.std.proofs.lemmas.Bool.Decides.{nat_tests}
use Rattle.std.proofs.lemmas.List.Sums.{take_while-cons}
use Rattle.std.proofs.lemmas.Bool.{and_parts, or_parts, and_from}
use Rattle.element_name.specs.Numbered.{is_rising, put_by, without}
use Rattle.policy_book.specs.Lists.{has_number}

-- ---- tests of each item

module _ {X : Type 0} where
  pub all_weaker : (p q : X → Bool) → ((x : X) → p x ≡ true → q x ≡ true) → (xs : List X) → list_all p xs ≡ true → list_all q xs ≡ true
  all_weaker p q weaker [] h = refl
  all_weaker p q weaker (x ∷ xs) h =
      let b = and_parts (p x) (list_all p xs) h in and_from (q x) (list_all q xs) (weaker x b.0) (all_weaker p q weaker xs b.1)

  pub all_append : (p : X → Bool) (xs ys : List X) → list_all p xs ≡ true → list_all p ys ≡ true → list_all p (xs ++ ys) ≡ true
  all_append p [] ys h k = k
  all_append p (x ∷ xs) ys h k =
      let b = and_parts (p x) (list_all p xs) h in and_from (p x) (list_all p (xs ++ ys)) b.0 (all_append p xs ys b.1 k)

  pub all_front : (p : X → Bool) (xs ys : List X) → list_all p (xs ++ ys) ≡ true → list_all p xs ≡ true
  all_front p [] ys h = refl
  all_front p (x ∷ xs) ys h =
      let b = and_parts (p x) (list_all p (xs ++ ys)) h in and_from (p x) (list_all p xs) b.0 (all_front p xs ys b.1)

  pub all_back : (p : X → Bool) (xs ys : List X) → list_all p (xs ++ ys) ≡ true → list_all p ys ≡ true
  all_back p [] ys h = h
  all_back p (x ∷ xs) ys h = let b = and_parts (p x) (list_all p (xs ++ ys)) h in all_back p xs ys b.1

  all_filter_step : (p q : X → Bool) (x : X) (xs : List X) (b : Bool) → q x ≡ b → list_all p (x ∷ xs) ≡ true → list_all p (filter q xs) ≡ true
      → list_all p (filter q (x ∷ xs)) ≡ true
  all_filter_step p q x xs true e h k = let c = and_parts (p x) (list_all p xs) h in rw e (and_from (p x) (list_all p (filter q xs)) c.0 k)
  all_filter_step p q x xs false e h k = rw e k

  pub all_filter : (p q : X → Bool) (xs : List X) → list_all p xs ≡ true → list_all p (filter q xs) ≡ true
  all_filter p q [] h = refl
  all_filter p q (x ∷ xs) h =
      let b = and_parts (p x) (list_all p xs) h in all_filter_step p q x xs (q x) refl h (all_filter p q xs b.1)

  length_filter_step : (q : X → Bool) (x : X) (xs : List X) (b : Bool) → q x ≡ b → length (filter q xs) ≤ length xs
      → length (filter q (x ∷ xs)) ≤ length (x ∷ xs)
  length_filter_step q x xs true e h = rw e (omega (arith, h))
  length_filter_step q x xs false e h = rw e (omega (arith, h))

  pub length_filter : (q : X → Bool) (xs : List X) → length (filter q xs) ≤ length xs
  length_filter q [] = omega arith
  length_filter q (x ∷ xs) = length_filter_step q x xs (q x) refl (length_filter q xs)

-- ---- ascending numbers

pub rising_above : (x : ℕ) (xs : List ℕ) → is_rising nat_lt (x ∷ xs) ≡ true → list_all (nat_lt x) xs ≡ true
rising_above x [] h = refl
rising_above x (y ∷ ys) h =
    let b = and_parts (nat_lt x y) (is_rising nat_lt (y ∷ ys)) h in
    and_from (nat_lt x y) (list_all (nat_lt x) ys) b.0
    (all_weaker (nat_lt y) (nat_lt x) (λ z k. grind (arith, nat_tests, b.0, k)) ys (rising_above y ys b.1))

pub rising_rest : (x : ℕ) (xs : List ℕ) → is_rising nat_lt (x ∷ xs) ≡ true → is_rising nat_lt xs ≡ true
rising_rest x [] h = refl
rising_rest x (y ∷ ys) h = (and_parts (nat_lt x y) (is_rising nat_lt (y ∷ ys)) h).1

pub rising_cons : (x : ℕ) (xs : List ℕ) → list_all (nat_lt x) xs ≡ true → is_rising nat_lt xs ≡ true → is_rising nat_lt (x ∷ xs) ≡ true
rising_cons x [] h k = refl
rising_cons x (y ∷ ys) h k =
    let b = and_parts (nat_lt x y) (list_all (nat_lt x) ys) h in and_from (nat_lt x y) (is_rising nat_lt (y ∷ ys)) b.0 k

rising_filter_step : (q : ℕ → Bool) (x : ℕ) (xs : List ℕ) (b : Bool) → q x ≡ b → is_rising nat_lt (x ∷ xs) ≡ true
    → is_rising nat_lt (filter q xs) ≡ true → is_rising nat_lt (filter q (x ∷ xs)) ≡ true
rising_filter_step q x xs true e h k = rw e (rising_cons x (filter q xs) (all_filter (nat_lt x) q xs (rising_above x xs h)) k)
rising_filter_step q x xs false e h k = rw e k

pub rising_filter : (q : ℕ → Bool) (xs : List ℕ) → is_rising nat_lt xs ≡ true → is_rising nat_lt (filter q xs) ≡ true
rising_filter q [] h = refl
rising_filter q (x ∷ xs) h = rising_filter_step q x xs (q x) refl h (rising_filter q xs (rising_rest x xs h))

-- ---- what stands later

module _ {X : Type 0} (number : X → ℕ) where
  -- it has a greater number, as all do
  pub below_later : (n : ℕ) (xs : List X) (i : ℕ) (d : X) → list_all (nat_lt n) (map number xs) ≡ true → i < length xs
      → n < number (get_or xs i d)
  below_later n [] i d h lt = absurd (omega (arith, lt))
  below_later n (x ∷ xs) zero d h lt =
      let b = and_parts (nat_lt n (number x)) (list_all (nat_lt n) (map number xs)) h in grind (arith, nat_tests, b.0)
  below_later n (x ∷ xs) (suc i) d h lt =
      let b = and_parts (nat_lt n (number x)) (list_all (nat_lt n) (map number xs)) h in below_later n xs i d b.1 (omega (arith, lt))

-- ---- an item put in

module _ {X : Type 0} (number : X → ℕ) where
  abbrev up_to : ℕ → X → Bool
  up_to n y = nat_le (number y) n

  insert_step : (x : X) (n : ℕ) (y : X) (ys : List X) (b : Bool) → nat_le (number y) n ≡ b → n ≡ number x
      → insert ys (length (take_while (up_to n) ys)) x ≡ put_by number x ys
      → insert (y ∷ ys) (length (take_while (up_to n) (y ∷ ys))) x ≡ put_by number x (y ∷ ys)
  insert_step x n y ys true h e ih =
      let g : nat_lt (number x) (number y) ≡ false = grind (arith, nat_tests) in
      rw (take_while-cons (up_to n) y ys, h, g) (ap (λ (zs : List X). y ∷ zs) ih)
  insert_step x n y ys false h e ih =
      let g : nat_lt (number x) (number y) ≡ true = grind (arith, nat_tests) in
      rw (take_while-cons (up_to n) y ys, h, g) refl

  -- the place behind those with no greater number is the one that `put_by` means
  pub insert-put_by : (x : X) (n : ℕ) (xs : List X) → n ≡ number x
      → insert xs (length (take_while (up_to n) xs)) x ≡ put_by number x xs
  insert-put_by x n [] e = refl
  insert-put_by x n (y ∷ ys) e = insert_step x n y ys (nat_le (number y) n) refl e (insert-put_by x n ys e)

  length_put_step : (x y : X) (ys : List X) (b : Bool) → nat_lt (number x) (number y) ≡ b → length (put_by number x ys) ≡ length ys + 1
      → length (put_by number x (y ∷ ys)) ≡ length (y ∷ ys) + 1
  length_put_step x y ys true e h = rw e (omega arith)
  length_put_step x y ys false e h = rw e (omega (arith, h))

  pub length-put_by : (x : X) (xs : List X) → length (put_by number x xs) ≡ length xs + 1
  length-put_by x [] = refl
  length-put_by x (y ∷ ys) = length_put_step x y ys (nat_lt (number x) (number y)) refl (length-put_by x ys)

  all_put_step : (p : X → Bool) (x y : X) (ys : List X) (b : Bool) → nat_lt (number x) (number y) ≡ b → p x ≡ true → list_all p (y ∷ ys) ≡ true
      → list_all p (put_by number x ys) ≡ true → list_all p (put_by number x (y ∷ ys)) ≡ true
  all_put_step p x y ys true e px h k = rw e (and_from (p x) (list_all p (y ∷ ys)) px h)
  all_put_step p x y ys false e px h k =
      let b = and_parts (p y) (list_all p ys) h in rw e (and_from (p y) (list_all p (put_by number x ys)) b.0 k)

  pub all_put_by : (p : X → Bool) (x : X) (xs : List X) → p x ≡ true → list_all p xs ≡ true → list_all p (put_by number x xs) ≡ true
  all_put_by p x [] px h = and_from (p x) true px refl
  all_put_by p x (y ∷ ys) px h =
      all_put_step p x y ys (nat_lt (number x) (number y)) refl px h (all_put_by p x ys px (and_parts (p y) (list_all p ys) h).1)

  map_put_step : (x y : X) (ys : List X) (b : Bool) → nat_lt (number x) (number y) ≡ b
      → map number (put_by number x ys) ≡ put_by (λ n. n) (number x) (map number ys)
      → map number (put_by number x (y ∷ ys)) ≡ put_by (λ n. n) (number x) (map number (y ∷ ys))
  map_put_step x y ys true e h = rw e refl
  map_put_step x y ys false e h = rw e (ap (λ (zs : List ℕ). number y ∷ zs) h)

  pub map-put_by : (x : X) (xs : List X) → map number (put_by number x xs) ≡ put_by (λ n. n) (number x) (map number xs)
  map-put_by x [] = refl
  map-put_by x (y ∷ ys) = map_put_step x y ys (nat_lt (number x) (number y)) refl (map-put_by x ys)

  map_without_step : (n : ℕ) (y : X) (ys : List X) (b : Bool) → not (eqb (number y) n) ≡ b
      → map number (without number n ys) ≡ without (λ m. m) n (map number ys)
      → map number (without number n (y ∷ ys)) ≡ without (λ m. m) n (map number (y ∷ ys))
  map_without_step n y ys true e h = rw e (ap (λ (zs : List ℕ). number y ∷ zs) h)
  map_without_step n y ys false e h = rw e h

  pub map-without : (n : ℕ) (xs : List X) → map number (without number n xs) ≡ without (λ m. m) n (map number xs)
  map-without n [] = refl
  map-without n (y ∷ ys) = map_without_step n y ys (not (eqb (number y) n)) refl (map-without n ys)

rising_put_step : (n y : ℕ) (ys : List ℕ) (b : Bool) → nat_lt n y ≡ b → eqb y n ≡ false → is_rising nat_lt (y ∷ ys) ≡ true
    → is_rising nat_lt (put_by (λ m. m) n ys) ≡ true → is_rising nat_lt (put_by (λ m. m) n (y ∷ ys)) ≡ true
rising_put_step n y ys true e ne h k = rw e (and_from (nat_lt n y) (is_rising nat_lt (y ∷ ys)) e h)
rising_put_step n y ys false e ne h k =
    let lt : nat_lt y n ≡ true = grind (arith, nat_tests, e, ne) in
    rw e (rising_cons y (put_by (λ m. m) n ys) (all_put_by (λ m. m) (nat_lt y) n ys lt (rising_above y ys h)) k)

-- a number that wasn't there
pub rising_put_by : (n : ℕ) (xs : List ℕ) → has_number xs n ≡ false → is_rising nat_lt xs ≡ true → is_rising nat_lt (put_by (λ m. m) n xs) ≡ true
rising_put_by n [] new h = refl
rising_put_by n (y ∷ ys) new h =
    let b = or_parts (eqb y n) (has_number ys n) new in
    rising_put_step n y ys (nat_lt n y) refl b.0 h (rising_put_by n ys b.1 (rising_rest y ys h))
