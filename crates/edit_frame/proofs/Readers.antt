-- Readers that read what is spelled, and how they are put together.
use Rattle.std.proofs.Common.{◌≡◌, ℕ, zero, suc, ◌+◌, ◌<◌, ◌≤◌, Bool, true, false, cond, ◌&&◌, ◌⊎◌, inl, inr, List, [], ◌∷◌, ◌++◌, length, get_or, take, drop, Option, Some, None, refl, sym, ap, subst, ◌∙◌, append_assoc, arith, length-take}
use Rattle.std.specs.Prelude.{nat_lt, nat_le, ◌==◌}
use Rattle.std.specs.Int.{Width, w16, w32, w64, byte_len, from_be_bytes, to_be_bytes}
use Rattle.std.specs.List.{flat_map, list_all}
use Rattle.std.proofs.lemmas.Bool.{cases_lt, ltb-true, lt-ltb, leb-true, le-leb, eqb-true, and_parts, and_from}
use Rattle.std.proofs.lemmas.List.{take_at, drop_at, take-append-drop, length-append, get_or-drop, get_or-take, get_or_past}
use Rattle.std.proofs.lemmas.List.Concat.{flat_map-cons}
use Rattle.std.proofs.lemmas.Nat.{be_bytes_2, be_bytes_4, be_bytes_8, from_be_bytes-to_be_bytes_2, from_be_bytes-to_be_bytes_4, from_be_bytes-to_be_bytes_8}
use Rattle.element_name.specs.Cases.{when, ◌>>=◌}
use Rattle.element_name.proofs.CaseLemmas.{bind-Some, when-Some}
use Rattle.edit_frame.specs.Spells.{IsBytes}
use Rattle.edit_frame.specs.Fields.{Reader, constant, as_value, both, then_by, when_passes, choose, items_at, byte_at, big_endian_at}

pub IsBytes-drop : (n : ℕ) (bytes : List ℕ) → IsBytes bytes → IsBytes (drop n bytes)
IsBytes-drop n bytes h i = rw get_or-drop (h (n + i))

pub IsBytes-take : (n : ℕ) (bytes : List ℕ) → IsBytes bytes → IsBytes (take n bytes)
IsBytes-take n bytes h i =
    elim (cases_lt i n) [
      | inl lt ↦ rw (get_or-take n bytes i 0 lt) (h i)
      | inr le ↦ rw (get_or_past (take n bytes) i 0 (omega (arith, length-take n bytes))) (omega arith)
    ]

pub IsBytes-rest : (b : ℕ) (bytes : List ℕ) → IsBytes (b ∷ bytes) → IsBytes bytes
IsBytes-rest b bytes h i = h (suc i)

-- ---- steps

abbrev done : {A : Type 0} → A → Option A
done x = Some x

pub some_is : {A : Type 0} (x y : A) → done x ≡ done y → x ≡ y
some_is x y e = cc

pub chosen : {A : Type 0} (b : Bool) (x y z : A) → cond b x y ≡ z → ((b ≡ true) × (x ≡ z)) ⊎ ((b ≡ false) × (y ≡ z))
chosen true x y z e = inl (refl, e)
chosen false x y z e = inr (refl, e)

-- what a reader took, a prefix of the bytes
pub record Took (bytes text rest : List ℕ) : Type 0 where
  pub parts : bytes ≡ text ++ rest
  pub rest_fits : IsBytes rest

pub Took-then : (a x b y c : List ℕ) → Took a x b → Took b y c → Took a (x ++ y) c
Took-then a x b y c p q = record { parts = p.parts ∙ ap (λ (t : List ℕ). x ++ t) q.parts ∙ sym (append_assoc x y c); rest_fits = q.rest_fits }

-- what is read is spelled so and fits, and what fits is read again
pub record Reads (A : Type 0) (at : Reader A) (spell : A → List ℕ) (fits : A → Bool) : Type 0 where
  pub takes : (bytes : List ℕ) (x : A × List ℕ) → IsBytes bytes → at bytes ≡ Some x → Took bytes (spell x.0) x.1 × (fits x.0 ≡ true)
  pub again : (x : A) (rest : List ℕ) → fits x ≡ true → at (spell x ++ rest) ≡ Some (x, rest)

-- the same of a reader that is given a number
pub record ReadsBy (A : Type 0) (at : ℕ → Reader A) (tag : A → ℕ) (spell : A → List ℕ) (fits : A → Bool) : Type 0 where
  pub takes : (k : ℕ) (bytes : List ℕ) (x : A × List ℕ) → IsBytes bytes → at k bytes ≡ Some x → (tag x.0 ≡ k) × Took bytes (spell x.0) x.1 × (fits x.0 ≡ true)
  pub again : (x : A) (rest : List ℕ) → fits x ≡ true → at (tag x) (spell x ++ rest) ≡ Some (x, rest)

-- ---- readers made of readers

pub reads_both : {A B : Type 0} (p : Reader A) (q : Reader B) (sp : A → List ℕ) (sq : B → List ℕ) (fp : A → Bool) (fq : B → Bool)
    → Reads A p sp fp → Reads B q sq fq → Reads (A × B) (both p q) (λ x. sp x.0 ++ sq x.1) (λ x. fp x.0 && fq x.1)
reads_both {A} {B} p q sp sq fp fq P Q = record {
  takes = λ bytes x fits e.
      let a = bind-Some (p bytes) (λ u. q u.1 >>= λ y. Some ((u.0, y.0), y.1)) x e in
      let b = bind-Some (q a.0.1) (λ y. Some ((a.0.0, y.0), y.1)) x a.2 in
      let t = P.takes bytes a.0 fits a.1 in
      let s = Q.takes a.0.1 b.0 t.0.rest_fits b.1 in
      subst (λ (y : (A × B) × List ℕ). Took bytes (sp y.0.0 ++ sq y.0.1) y.1 × ((fp y.0.0 && fq y.0.1) ≡ true)) (some_is ((a.0.0, b.0.0), b.0.1) x b.2)
      (Took-then bytes (sp a.0.0) a.0.1 (sq b.0.0) b.0.1 t.0 s.0, and_from (fp a.0.0) (fq b.0.0) t.1 s.1);
  again = λ x rest h.
      let hs = and_parts (fp x.0) (fq x.1) h in
      ap (both p q) (append_assoc (sp x.0) (sq x.1) rest) ∙ rw (P.again x.0 (sq x.1 ++ rest) hs.0, Q.again x.1 rest hs.1) refl;
}

pub reads_passing : {A : Type 0} (test : A → Bool) (p : Reader A) (sp : A → List ℕ) (fp : A → Bool) → Reads A p sp fp → Reads A (when_passes test p) sp (λ x. test x && fp x)
reads_passing {A} test p sp fp P = record {
  takes = λ bytes x fits e.
      let a = bind-Some (p bytes) (λ u. when (test u.0) u) x e in
      let g = when-Some (test a.0.0) a.0 x a.2 in
      let t = P.takes bytes a.0 fits a.1 in
      subst (λ (y : A × List ℕ). Took bytes (sp y.0) y.1 × ((test y.0 && fp y.0) ≡ true)) g.1 (t.0, and_from (test a.0.0) (fp a.0.0) g.0 t.1);
  again = λ x rest h.
      let hs = and_parts (test x) (fp x) h in
      rw (P.again x rest hs.1, hs.0) refl;
}

-- a test that asks for more than that the value fits
pub reads_test : {A : Type 0} (test : A → Bool) (p : Reader A) (sp : A → List ℕ) (fp : A → Bool) → Reads A p sp fp
    → ((x : A) → test x ≡ true → fp x ≡ true) → Reads A (when_passes test p) sp test
reads_test {A} test p sp fp P more = record {
  takes = λ bytes x fits e.
      let a = bind-Some (p bytes) (λ u. when (test u.0) u) x e in
      let g = when-Some (test a.0.0) a.0 x a.2 in
      let t = P.takes bytes a.0 fits a.1 in
      subst (λ (y : A × List ℕ). Took bytes (sp y.0) y.1 × (test y.0 ≡ true)) g.1 (t.0, g.0);
  again = λ x rest h. rw (P.again x rest (more x h), h) refl;
}

-- another value in its place, both ways
pub reads_via : {A B : Type 0} (f : A → B) (back : B → A) (p : Reader A) (sp : A → List ℕ) (fp : A → Bool) (sq : B → List ℕ) (fq : B → Bool) → Reads A p sp fp
    → ((x : A) → fp x ≡ true → (sq (f x) ≡ sp x) × (fq (f x) ≡ true))
    → ((y : B) → fq y ≡ true → (f (back y) ≡ y) × (sp (back y) ≡ sq y) × (fp (back y) ≡ true))
    → Reads B (as_value f p) sq fq
reads_via {A} {B} f back p sp fp sq fq P there here = record {
  takes = λ bytes y fits e.
      let a = bind-Some (p bytes) (λ u. Some (f u.0, u.1)) y e in
      let t = P.takes bytes a.0 fits a.1 in
      let g = there a.0.0 t.1 in
      subst (λ (z : B × List ℕ). Took bytes (sq z.0) z.1 × (fq z.0 ≡ true)) (some_is (f a.0.0, a.0.1) y a.2)
      (subst (λ (text : List ℕ). Took bytes text a.0.1) (sym g.0) t.0, g.1);
  again = λ y rest h.
      let g = here y h in
      let bs : sq y ++ rest ≡ sp (back y) ++ rest = ap (λ (t : List ℕ). t ++ rest) (sym g.1) in
      ap (as_value f p) bs ∙ rw (P.again (back y) rest g.2, g.0) refl;
}

-- the reader, spelling and fit under other names
pub reads_same : {A : Type 0} (p q : Reader A) (sp sq : A → List ℕ) (fp fq : A → Bool) → Reads A p sp fp
    → ((bytes : List ℕ) → q bytes ≡ p bytes) → ((x : A) → sq x ≡ sp x) → ((x : A) → fq x ≡ fp x) → Reads A q sq fq
reads_same {A} p q sp sq fp fq P eat espell efits = record {
  takes = λ bytes x fits e.
      let t = P.takes bytes x fits (sym (eat bytes) ∙ e) in
      (subst (λ (text : List ℕ). Took bytes text x.1) (sym (espell x.0)) t.0, efits x.0 ∙ t.1);
  again = λ x rest h.
      eat (sq x ++ rest) ∙ ap (λ (t : List ℕ). p (t ++ rest)) (espell x) ∙ P.again x rest (sym (efits x) ∙ h);
}

leading_takes : {A : Type 0} (at : ℕ → Reader A) (tag : A → ℕ) (spell : A → List ℕ) (fits : A → Bool) → ReadsBy A at tag spell fits
    → (bytes : List ℕ) (x : A × List ℕ) → IsBytes bytes → then_by byte_at at bytes ≡ Some x → Took bytes (tag x.0 ∷ spell x.0) x.1 × (fits x.0 ≡ true)
unfolding byte_at
leading_takes at tag spell fits P [] x h e = absurd cc
leading_takes at tag spell fits P (b ∷ bytes) x h e =
    let t = P.takes b bytes x (IsBytes-rest b bytes h) e in
    (record { parts = ap (λ (k : ℕ). k ∷ bytes) (sym t.0) ∙ ap (λ (r : List ℕ). tag x.0 ∷ r) t.1.parts; rest_fits = t.1.rest_fits }, t.2)

pub reads_leading : {A : Type 0} (at : ℕ → Reader A) (tag : A → ℕ) (spell : A → List ℕ) (fits : A → Bool) → ReadsBy A at tag spell fits → Reads A (then_by byte_at at) (λ x. tag x ∷ spell x) fits
unfolding byte_at
reads_leading {A} at tag spell fits P = record {
  takes = leading_takes at tag spell fits P;
  again = λ x rest h. P.again x rest h;
}

-- ---- rows

pub record TakesRow (A : Type 0) (tag : A → ℕ) (spell : A → List ℕ) (fits : A → Bool) (n : ℕ) (at : Reader A) : Type 0 where
  pub takes : (bytes : List ℕ) (x : A × List ℕ) → IsBytes bytes → at bytes ≡ Some x → (tag x.0 ≡ n) × Took bytes (spell x.0) x.1 × (fits x.0 ≡ true)

pub record TakesRows (A : Type 0) (tag : A → ℕ) (spell : A → List ℕ) (fits : A → Bool) (rows : List (ℕ × Reader A)) : Type 0 where
  pub takes : (k : ℕ) (bytes : List ℕ) (x : A × List ℕ) → IsBytes bytes → choose k rows bytes ≡ Some x → (tag x.0 ≡ k) × Took bytes (spell x.0) x.1 × (fits x.0 ≡ true)

abbrev none_of : {A : Type 0} → A → Option A
none_of x = None

is_none_some : {A : Type 0} (x : A) → none_of x ≡ done x → ⊥
is_none_some x e = cc

pub no_rows : {A : Type 0} (tag : A → ℕ) (spell : A → List ℕ) (fits : A → Bool) → TakesRows A tag spell fits []
no_rows tag spell fits = record { takes = λ k bytes x h e. absurd (is_none_some x e) }

pub more_rows : {A : Type 0} (tag : A → ℕ) (spell : A → List ℕ) (fits : A → Bool) (n : ℕ) (at : Reader A) (rows : List (ℕ × Reader A)) → TakesRow A tag spell fits n at → TakesRows A tag spell fits rows → TakesRows A tag spell fits ((n, at) ∷ rows)
more_rows tag spell fits n at rows R Rs = record {
  takes = λ k bytes x h e. elim (chosen (k == n) (at bytes) (choose k rows bytes) (Some x) e) [
    | inl c ↦ (let t = R.takes bytes x h c.1 in (t.0 ∙ sym (eqb-true k n c.0), t.1, t.2))
    | inr c ↦ Rs.takes k bytes x h c.1
  ];
}

pub row_of : {A B : Type 0} (f : A → B) (n : ℕ) (p : Reader A) (sp : A → List ℕ) (fp : A → Bool) (tag : B → ℕ) (spell : B → List ℕ) (fits : B → Bool) → Reads A p sp fp
    → ((x : A) → tag (f x) ≡ n) → ((x : A) → spell (f x) ≡ sp x) → ((x : A) → fits (f x) ≡ fp x) → TakesRow B tag spell fits n (as_value f p)
row_of {A} {B} f n p sp fp tag spell fits P etag espell efits = record {
  takes = λ bytes y h e.
      let a = bind-Some (p bytes) (λ u. Some (f u.0, u.1)) y e in
      let t = P.takes bytes a.0 h a.1 in
      subst (λ (z : B × List ℕ). (tag z.0 ≡ n) × Took bytes (spell z.0) z.1 × (fits z.0 ≡ true)) (some_is (f a.0.0, a.0.1) y a.2)
      (etag a.0.0, subst (λ (text : List ℕ). Took bytes text a.0.1) (sym (espell a.0.0)) t.0, efits a.0.0 ∙ t.1);
}

pub row_constant : {A : Type 0} (v : A) (n : ℕ) (tag : A → ℕ) (spell : A → List ℕ) (fits : A → Bool) → tag v ≡ n → spell v ≡ [] → fits v ≡ true → TakesRow A tag spell fits n (constant v)
row_constant {A} v n tag spell fits etag espell efits = record {
  takes = λ bytes y h e.
      subst (λ (z : A × List ℕ). (tag z.0 ≡ n) × Took bytes (spell z.0) z.1 × (fits z.0 ≡ true)) (some_is (v, bytes) y e)
      (etag, record { parts = ap (λ (t : List ℕ). t ++ bytes) (sym espell); rest_fits = h }, efits);
}

-- what a row reads again
pub row_again : {A B : Type 0} (f : A → B) (p : Reader A) (sp : A → List ℕ) (fp : A → Bool) (x : A) (rest : List ℕ) → Reads A p sp fp → fp x ≡ true → as_value f p (sp x ++ rest) ≡ Some (f x, rest)
row_again f p sp fp x rest P h = rw (P.again x rest h) refl

-- ---- items

pub items_take : {A : Type 0} (item : Reader A) (sp : A → List ℕ) (fp : A → Bool) → Reads A item sp fp → (n : ℕ) (bytes : List ℕ) (x : List A × List ℕ) → IsBytes bytes → items_at item n bytes ≡ Some x
    → (length x.0 ≡ n) × Took bytes (flat_map sp x.0) x.1 × (list_all fp x.0 ≡ true)
unfolding items_at
items_take {A} item sp fp P zero bytes x h e =
    subst (λ (y : List A × List ℕ). (length y.0 ≡ 0) × Took bytes (flat_map sp y.0) y.1 × (list_all fp y.0 ≡ true)) (some_is ([], bytes) x e) (refl, record { parts = refl; rest_fits = h }, refl)
items_take {A} item sp fp P (suc n) bytes x h e =
    let a = bind-Some (item bytes) (λ u. items_at item n u.1 >>= λ xs. Some (u.0 ∷ xs.0, xs.1)) x e in
    let b = bind-Some (items_at item n a.0.1) (λ xs. Some (a.0.0 ∷ xs.0, xs.1)) x a.2 in
    let t = P.takes bytes a.0 h a.1 in
    let s = items_take item sp fp P n a.0.1 b.0 t.0.rest_fits b.1 in
    let whole = Took-then bytes (sp a.0.0) a.0.1 (flat_map sp b.0.0) b.0.1 t.0 s.1 in
    let made : List A × List ℕ = (a.0.0 ∷ b.0.0, b.0.1) in
    subst (λ (y : List A × List ℕ). (length y.0 ≡ suc n) × Took bytes (flat_map sp y.0) y.1 × (list_all fp y.0 ≡ true)) (some_is made x b.2)
    (ap suc s.0, rw flat_map-cons whole, and_from (fp a.0.0) (list_all fp b.0.0) t.1 s.2)

pub items_again : {A : Type 0} (item : Reader A) (sp : A → List ℕ) (fp : A → Bool) → Reads A item sp fp → (xs : List A) (rest : List ℕ) → list_all fp xs ≡ true → items_at item (length xs) (flat_map sp xs ++ rest) ≡ Some (xs, rest)
unfolding items_at
items_again item sp fp P [] rest h = refl
items_again item sp fp P (x ∷ xs) rest h =
    let hs = and_parts (fp x) (list_all fp xs) h in
    let regrouped : flat_map sp (x ∷ xs) ++ rest ≡ sp x ++ (flat_map sp xs ++ rest) = ap (λ (t : List ℕ). t ++ rest) (flat_map-cons sp x xs) ∙ append_assoc (sp x) (flat_map sp xs) rest in
    ap (items_at item (suc (length xs))) regrouped ∙ rw (P.again x (flat_map sp xs ++ rest) hs.0, items_again item sp fp P xs rest hs.1) refl

-- a list of so many that passes a test, which asks that each item fits
pub reads_list : {A : Type 0} (test : List A → Bool) (item : Reader A) (sp : A → List ℕ) (fp : A → Bool) → Reads A item sp fp
    → ((xs : List A) → test xs ≡ true → list_all fp xs ≡ true)
    → ReadsBy (List A) (λ n. when_passes test (items_at item n)) length (flat_map sp) test
reads_list {A} test item sp fp P each = record {
  takes = λ k bytes x h e.
      let a = bind-Some (items_at item k bytes) (λ u. when (test u.0) u) x e in
      let g = when-Some (test a.0.0) a.0 x a.2 in
      let t = items_take item sp fp P k bytes a.0 h a.1 in
      subst (λ (y : List A × List ℕ). (length y.0 ≡ k) × Took bytes (flat_map sp y.0) y.1 × (test y.0 ≡ true)) g.1 (t.0, t.1, g.0);
  again = λ xs rest h. rw (items_again item sp fp P xs rest (each xs h), h) refl;
}

-- ---- numbers

pub record IsWide (w : Width) (limit : ℕ) : Type 0 where
  pub len : (n : ℕ) → length (to_be_bytes w n) ≡ byte_len w
  pub back : (bytes : List ℕ) → length bytes ≡ byte_len w → IsBytes bytes → to_be_bytes w (from_be_bytes w bytes) ≡ bytes
  pub again : (n : ℕ) → n < limit → from_be_bytes w (to_be_bytes w n) ≡ n
  pub below : (bytes : List ℕ) → IsBytes bytes → from_be_bytes w bytes < limit

pub wide16 : IsWide w16 65536
wide16 = record {
  len = λ n. refl;
  back = λ bytes len fits. be_bytes_2 bytes _ len fits refl;
  again = λ n lt. from_be_bytes-to_be_bytes_2 n lt;
  below = λ bytes fits. omega (arith, fits 0, fits 1);
}

pub wide32 : IsWide w32 4294967296
wide32 = record {
  len = λ n. refl;
  back = λ bytes len fits. be_bytes_4 bytes _ len fits refl;
  again = λ n lt. from_be_bytes-to_be_bytes_4 n lt;
  below = λ bytes fits. omega (arith, fits 0, fits 1, fits 2, fits 3);
}

pub wide64 : IsWide w64 18446744073709551616
wide64 = record {
  len = λ n. refl;
  back = λ bytes len fits. be_bytes_8 bytes _ len fits refl;
  again = λ n lt. from_be_bytes-to_be_bytes_8 n lt;
  below = λ bytes fits. omega (arith, fits 0, fits 1, fits 2, fits 3, fits 4, fits 5, fits 6, fits 7);
}

pub reads_number : (w : Width) (limit : ℕ) → IsWide w limit → Reads ℕ (big_endian_at w) (to_be_bytes w) (λ n. nat_lt n limit)
reads_number w limit wide = record {
  takes = λ bytes x fits e.
      let g = when-Some (nat_le (byte_len w) (length bytes)) (from_be_bytes w (take (byte_len w) bytes), drop (byte_len w) bytes) x e in
      let long : byte_len w ≤ length bytes = leb-true _ _ g.0 in
      let n = from_be_bytes w (take (byte_len w) bytes) in
      let prefix : to_be_bytes w n ≡ take (byte_len w) bytes = wide.back (take (byte_len w) bytes) (omega (arith, length-take (byte_len w) bytes)) (IsBytes-take (byte_len w) bytes fits) in
      let below : n < limit = wide.below (take (byte_len w) bytes) (IsBytes-take (byte_len w) bytes fits) in
      subst (λ (y : ℕ × List ℕ). Took bytes (to_be_bytes w y.0) y.1 × (nat_lt y.0 limit ≡ true)) g.1
      (record { parts = rw prefix (sym (take-append-drop (byte_len w) bytes)); rest_fits = IsBytes-drop (byte_len w) bytes fits }, lt-ltb _ _ below);
  again = λ n rest h.
      let len = wide.len n in
      let lt : n < limit = ltb-true _ _ h in
      let long : nat_le (byte_len w) (length (to_be_bytes w n ++ rest)) ≡ true = le-leb _ _ (omega (arith, length-append (to_be_bytes w n) rest)) in
      rw (long, take_at (to_be_bytes w n) rest (byte_len w) len, drop_at (to_be_bytes w n) rest (byte_len w) len, wide.again n lt) refl;
}
