-- Entries in ascending order of key, and chunks of them one after another.
use Rattle.std.specs.Prelude.{◌≡◌, ℕ, ◌+◌, ◌<◌, ◌≤◌, false, List, [], ◌∷◌, Option, Some, None, length, take, drop, get_or}
use Rattle.std.specs.List.{flat_map, AllByRecursion}
use Rattle.std.specs.List.Sorted.{IsStrictlySortedBy}
use Rattle.std.specs.Map.{keys_of, lookup}
use Rattle.std.specs.BTreeMap.{is_at, insert_entry}
use Rattle.std.specs.Ordering.{is_gt}
use Rattle.std.specs.declared.cmp.Ordering.{Ordering}
use Rattle.std.specs.declared.cmp.Ordering.TheVariants.{Less, Equal, Greater}

-- the items of all chunks
abbrev pub flat : {A : Type 0} → List (List A) → List A
flat chunks = flat_map (λ chunk. chunk) chunks

module _ {K X : Type 0} where
  -- the key of the first entry
  abbrev pub first_key : List (K × X) → Option K
  first_key [] = None
  first_key (e ∷ es) = Some e.0

  -- each key is below the next
  abbrev pub IsOrdered : (K → K → Ordering) → List (K × X) → Type 0
  IsOrdered cmp es = IsStrictlySortedBy cmp (keys_of es)

  -- the key that is sought is above each key
  abbrev pub IsPast : (K → Ordering) → List (K × X) → Type 0
  IsPast sought es = AllByRecursion (λ k. sought k ≡ Greater) (keys_of es)

  -- it is above none
  abbrev pub IsUpTo : (K → Ordering) → List (K × X) → Type 0
  IsUpTo sought es = AllByRecursion (λ k. is_gt (sought k) ≡ false) (keys_of es)

  -- it is below each
  abbrev pub IsBefore : (K → Ordering) → List (K × X) → Type 0
  IsBefore sought es = AllByRecursion (λ k. sought k ≡ Less) (keys_of es)

  -- the place of the first entry whose key isn't below the one that is sought
  pub record IsPlace (sought : K → Ordering) (es : List (K × X)) (i : ℕ) : Type 0 where
    pub within : i ≤ length es
    pub past : IsPast sought (take i es)
    pub up_to : IsUpTo sought (drop i es)

  -- the key stands at the place
  pub record IsHit (sought : K → Ordering) (es : List (K × X)) (i : ℕ) : Type 0 where
    pub within : i < length es
    pub equal : (d : K × X) → sought (get_or es i d).0 ≡ Equal

  -- the number of the chunk in which the key is, or belongs
  pub record IsSpot (sought : K → Ordering) (chunks : List (List (K × X))) (c : ℕ) : Type 0 where
    pub within : c < length chunks
    pub past : IsPast sought (flat (take c chunks))
    pub before : IsBefore sought (flat (drop (c + 1) chunks))

  -- the entry is put in, or another value at its key; what is answered is the value that stood there
  pub record IsInserted (cmp : K → K → Ordering) (es : List (K × X)) (k : K) (v : X) (after : List (K × X)) (old : Option X) : Type 0 where
    pub entries : after ≡ insert_entry cmp es k v
    pub answer : old ≡ lookup (is_at (cmp k)) es

  -- the chunks of entries, and how many entries they have
  pub record AreChunks (cmp : K → K → Ordering) (chunks : List (List (K × X))) (len : ℕ) : Type 0 where
    pub ordered : IsOrdered cmp (flat chunks)
    pub count : len ≡ length (flat chunks)
