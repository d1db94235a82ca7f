-- The tree of elements that are kept by name with their anchors, and what one more makes of its text order.
use Rattle.std.proofs.Common.{◌≡◌, ℕ, ◌<◌, Bool, true, false, None, Some, List, [], ◌∷◌, ◌++◌, refl, sym, ap, subst, ◌∙◌, inl, inr, append_assoc, arith, IsPermutation}
use Rattle.std.specs.declared.cmp.Ordering.TheVariants.{Less}
use Rattle.std.specs.Ordering.{is_lt}
use Rattle.std.specs.Prelude.{◌||◌, nat_lt, if◌then◌else◌}
use Rattle.std.specs.List.{list_all, AllByRecursion}
use Rattle.std.specs.List.Sorted.{IsStrictlySortedBy}
use Rattle.std.specs.Map.{keys_of}
use Rattle.std.specs.BTreeMap.{insert_entry}
use Rattle.std.proofs.lemmas.Bool.{and_parts, and_from, both_ways}
use Rattle.std.proofs.lemmas.Bool.Decides.{nat_tests}
use Rattle.std.proofs.lemmas.List.{map-append}
use Rattle.std.proofs.lemmas.List.Folds.{list_any-append}
use Rattle.std.proofs.lemmas.List.Sorted.{IsPermutation-refl, IsPermutation-sym, IsPermutation-trans, IsPermutation-cons, IsPermutation-middle, IsPermutation-map, IsPermutation-append_comm, list_any-IsPermutation}
use Rattle.std.proofs.lemmas.Map.Keys.{sorted_head, sorted_tail}
use Rattle.element_name.specs.Growing.{EachFrom}
use Rattle.element_name.specs.Name.{Name, start, name_eq, name_lt, has_name}
use Rattle.element_name.specs.Named.{name_cmp, item_named, put_named}
use Rattle.element_name.specs.Places.{is_anchor}
use Rattle.element_name.specs.Tree.{Placed, FollowsTree, IsTree, order, names_of, with_fresh}
use Rattle.element_name.proofs.EachAfterLemmas.{EachAfter-push}
use Rattle.element_name.proofs.NameOrder.{is_lt-name_cmp, name_eq-comm, name_lt-apart, name_lt-irrefl, name_lt-trans}
use Rattle.element_name.proofs.NamedLemmas.{insert_named}
use Rattle.tomb_seq.specs.Insert.{insert_fault}
use Rattle.tomb_seq.proofs.Has.{Has, has_name-none}
use Rattle.tomb_seq.proofs.NameOrder.{name_lt_by_stamp}
use Rattle.tomb_seq.proofs.SlotEdits.{IsFree, IsFree-no_fault}
use Rattle.tomb_seq.proofs.Theorems.{each_law, same_law, skip_law}
use Rattle.audit_cert.specs.Anchors.{placed_from, is_anchored, IsAnchored}

-- ---- names in ascending order

-- of names that ascend, those in front of one are less
pub prefix_below : (xs : List Name) (y : Name) (ys : List Name) → IsStrictlySortedBy name_cmp (xs ++ y ∷ ys) → (m : Name) → Has xs m → name_lt m y ≡ true
prefix_below [] y ys h m p = absurd p
prefix_below (x ∷ xs) y ys h m (inl e) =
    let lt : name_lt x y ≡ true = sym (is_lt-name_cmp x y) ∙ ap is_lt (at_middle xs (sorted_head name_cmp x (xs ++ y ∷ ys) h)) in
    subst (λ k. name_lt k y ≡ true) e lt
  where
    at_middle : (zs : List Name) → AllByRecursion (λ z. name_cmp x z ≡ Less) (zs ++ y ∷ ys) → name_cmp x y ≡ Less
    at_middle [] all = all.0
    at_middle (z ∷ zs) all = at_middle zs all.1
prefix_below (x ∷ xs) y ys h m (inr p) = prefix_below xs y ys (sorted_tail name_cmp x (xs ++ y ∷ ys) h) m p

pub sorted_back : (xs ys : List Name) → IsStrictlySortedBy name_cmp (xs ++ ys) → IsStrictlySortedBy name_cmp ys
sorted_back [] ys h = h
sorted_back (x ∷ xs) ys h = sorted_back xs ys (sorted_tail name_cmp x (xs ++ ys) h)

-- a lesser name isn't among those above
absent_below : (x m : Name) (ys : List Name) → name_lt m x ≡ true → AllByRecursion (λ y. name_cmp x y ≡ Less) ys → has_name ys m ≡ false
absent_below x m [] lt all = refl
absent_below x m (y ∷ ys) lt all =
    let up : name_lt x y ≡ true = sym (is_lt-name_cmp x y) ∙ ap is_lt all.0 in
    let apart : name_eq m y ≡ false = name_lt-apart m y (name_lt-trans m x y lt up) in
    rw apart (absent_below x m ys lt all.1)

-- ---- the tree

pub names_placed : (es : List (Name × Name)) → names_of (placed_from es) ≡ keys_of es
names_placed [] = refl
names_placed (e ∷ es) = ap (λ (ns : List Name). e.0 ∷ ns) (names_placed es)

pub placed_append : (es fs : List (Name × Name)) → placed_from (es ++ fs) ≡ placed_from es ++ placed_from fs
placed_append [] fs = refl
placed_append (e ∷ es) fs = ap (λ (ps : List Placed). record { name = e.0; anchor = e.1 } ∷ ps) (placed_append es fs)

pub keys_append : (es fs : List (Name × Name)) → keys_of (es ++ fs) ≡ keys_of es ++ keys_of fs
keys_append es fs = map-append (λ (e : Name × Name). e.0) es fs

-- the next element by name follows those in front of it
next_follows : (prefix : List (Name × Name)) (e : Name × Name) (rest : List (Name × Name)) → IsStrictlySortedBy name_cmp (keys_of (prefix ++ e ∷ rest))
    → is_anchored (keys_of (prefix ++ e ∷ rest)) e ≡ true → FollowsTree (placed_from prefix) (record { name = e.0; anchor = e.1 })
next_follows prefix e rest sorted anchored =
    let keys = keys_append prefix (e ∷ rest) in
    let ascend : IsStrictlySortedBy name_cmp (keys_of prefix ++ e.0 ∷ keys_of rest) = subst (IsStrictlySortedBy name_cmp) keys sorted in
    let parts = and_parts (is_anchor (keys_of (prefix ++ e ∷ rest)) e.1) (nat_lt e.1.stamp e.0.stamp) anchored in
    let rising : e.1.stamp < e.0.stamp = let test = parts.1 in grind (arith, nat_tests) in
    let lower : name_lt e.1 e.0 ≡ true = name_lt_by_stamp e.1 e.0 rising in
    let above : has_name (keys_of rest) e.1 ≡ false =
    absent_below e.0 e.1 (keys_of rest) lower (sorted_head name_cmp e.0 (keys_of rest) (sorted_back (keys_of prefix) (e.0 ∷ keys_of rest) ascend)) in
    let whole : has_name (keys_of (prefix ++ e ∷ rest)) e.1 ≡ has_name (keys_of prefix) e.1 =
    ap (λ (ns : List Name). has_name ns e.1) keys ∙ list_any-append (name_eq e.1) (keys_of prefix) (e.0 ∷ keys_of rest)
    ∙ ap (λ b. has_name (keys_of prefix) e.1 || (b || has_name (keys_of rest) e.1)) (name_lt-apart e.1 e.0 lower)
    ∙ ap (λ b. has_name (keys_of prefix) e.1 || b) above ∙ or_false (has_name (keys_of prefix) e.1) in
    record {
      new = ap (λ (ns : List Name). has_name ns e.0) (names_placed prefix)
          ∙ has_name-none (keys_of prefix) e.0 (λ p. both_ways (name_lt e.0 e.0) (name_lt-irrefl e.0) (prefix_below (keys_of prefix) e.0 (keys_of rest) ascend e.0 p));
      anchored = ap (λ (ns : List Name). name_eq e.1 start || has_name ns e.1) (names_placed prefix) ∙ ap (λ b. name_eq e.1 start || b) (sym whole) ∙ parts.0;
      rising = rising;
    }
  where
    or_false : (a : Bool) → (a || false) ≡ a
    or_false true = refl
    or_false false = refl

tree_from : (whole prefix rest : List (Name × Name)) → whole ≡ prefix ++ rest → IsStrictlySortedBy name_cmp (keys_of whole) → list_all (is_anchored (keys_of whole)) rest ≡ true
    → EachFrom FollowsTree (placed_from prefix) (placed_from rest)
tree_from whole prefix [] is sorted all = tt
tree_from whole prefix (e ∷ rest) is sorted all =
    let parts = and_parts (is_anchored (keys_of whole) e) (list_all (is_anchored (keys_of whole)) rest) all in (
      next_follows prefix e rest (subst (λ (es : List (Name × Name)). IsStrictlySortedBy name_cmp (keys_of es)) is sorted)
          (subst (λ (es : List (Name × Name)). is_anchored (keys_of es) e ≡ true) is parts.0),
      subst (λ (ps : List Placed). EachFrom FollowsTree ps (placed_from rest)) (placed_append prefix (e ∷ []))
          (tree_from whole (prefix ++ e ∷ []) rest (is ∙ sym (append_assoc prefix (e ∷ []) rest)) sorted parts.1),
    )

pub tree_law : (es : List (Name × Name)) → IsAnchored es → IsTree (placed_from es)
tree_law es h = tree_from es [] es refl h.ordered h.anchored

-- `start` is none of them
pub no_start : (names : List Name) (es : List (Name × Name)) → list_all (is_anchored names) es ≡ true → has_name (keys_of es) start ≡ false
no_start names [] h = refl
no_start names (e ∷ es) h =
    let parts = and_parts (is_anchored names e) (list_all (is_anchored names) es) h in
    let test = (and_parts (is_anchor names e.1) (nat_lt e.1.stamp e.0.stamp) parts.0).1 in
    let apart : name_eq start e.0 ≡ false = above e.1.stamp e.0 test in
    rw apart (no_start names es parts.1)
  where
    above : (low : ℕ) (n : Name) → nat_lt low n.stamp ≡ true → name_eq start n ≡ false
    above low n test = grind (arith, nat_tests)

-- ---- which names there are

pub has_placed : (placed : List Placed) (n : Name) → IsTree placed → has_name (order placed) n ≡ has_name (names_of placed) n
has_placed placed n tree = sym (list_any-IsPermutation (name_eq n) (names_of placed) (order placed) (each_law placed tree))

-- the keys are the elements
pub key_element : (es : List (Name × Name)) (n : Name) → IsAnchored es → has_name (keys_of es) n ≡ has_name (order (placed_from es)) n
key_element es n h = ap (λ (ns : List Name). has_name ns n) (sym (names_placed es)) ∙ sym (has_placed (placed_from es) n (tree_law es h))

-- ---- one more element

put_same : (x : Name × Name) (es : List (Name × Name)) → IsPermutation (x ∷ es) (put_named (λ e. e.0) x es)
put_same x [] = IsPermutation-refl (x ∷ [])
put_same x (e ∷ es) = by (name_lt x.0 e.0) (put_same x es)
  where
    by : (b : Bool) → IsPermutation (x ∷ es) (put_named (λ f. f.0) x es) → IsPermutation (x ∷ e ∷ es) (if b then x ∷ e ∷ es else e ∷ put_named (λ f. f.0) x es)
    by true rest = IsPermutation-refl (x ∷ e ∷ es)
    by false rest =
        IsPermutation-trans (x ∷ e ∷ es) (e ∷ x ∷ es) (e ∷ put_named (λ f. f.0) x es)
        (IsPermutation-sym (e ∷ x ∷ es) (x ∷ e ∷ es) (IsPermutation-middle (e ∷ []) x es))
        (IsPermutation-cons e (x ∷ es) (put_named (λ f. f.0) x es) rest)

all_put : (test : Name × Name → Bool) (x : Name × Name) (es : List (Name × Name)) → test x ≡ true → list_all test es ≡ true → list_all test (put_named (λ e. e.0) x es) ≡ true
all_put test x [] h all = and_from (test x) true h refl
all_put test x (e ∷ es) h all =
    let parts = and_parts (test e) (list_all test es) all in
    by (name_lt x.0 e.0) (and_from (test e) (list_all test (put_named (λ f. f.0) x es)) parts.0 (all_put test x es h parts.1))
  where
    by : (b : Bool) → list_all test (e ∷ put_named (λ f. f.0) x es) ≡ true → list_all test (if b then x ∷ e ∷ es else e ∷ put_named (λ f. f.0) x es) ≡ true
    by true rest = and_from (test x) (list_all test (e ∷ es)) h all
    by false rest = rest

-- what is anchored among some names is so among more
anchored_more : (names more : List Name) → ((m : Name) → has_name names m ≡ true → has_name more m ≡ true) → (es : List (Name × Name))
    → list_all (is_anchored names) es ≡ true → list_all (is_anchored more) es ≡ true
anchored_more names more h [] all = refl
anchored_more names more h (e ∷ es) all =
    let parts = and_parts (is_anchored names e) (list_all (is_anchored names) es) all in
    let test = and_parts (is_anchor names e.1) (nat_lt e.1.stamp e.0.stamp) parts.0 in
    and_from (is_anchored more e) (list_all (is_anchored more) es)
    (and_from (is_anchor more e.1) (nat_lt e.1.stamp e.0.stamp) (wider (name_eq e.1 start) (has_name names e.1) (has_name more e.1) (h e.1) test.0) test.1)
    (anchored_more names more h es parts.1)
  where
    wider : (a b c : Bool) → (b ≡ true → c ≡ true) → (a || b) ≡ true → (a || c) ≡ true
    wider true b c up is = refl
    wider false b c up is = up is

module _ (es : List (Name × Name)) (n after : Name) (h : IsAnchored es) (free : insert_fault (order (placed_from es)) n after ≡ None) where
  fresh : IsFree (order (placed_from es)) n after
  fresh = IsFree-no_fault (order (placed_from es)) n after free

  known : (m : Name) → has_name (order (placed_from es)) m ≡ has_name (keys_of es) m
  known m = sym (key_element es m h)

  rising : after.stamp < n.stamp
  rising = let test = fresh.rising in grind (arith, nat_tests)

  is_put : insert_entry name_cmp es n after ≡ put_named (λ e. e.0) (n, after) es
  is_put = insert_named n after es (no_item es (sym (known n) ∙ fresh.new))
    where
      no_item : (fs : List (Name × Name)) → has_name (keys_of fs) n ≡ false → item_named (λ e. e.0) n fs ≡ None
      no_item [] none = refl
      no_item (f ∷ fs) none = by (name_eq n f.0) (name_eq f.0 n) (name_eq-comm n f.0) none (no_item fs)
        where
          by : (a b : Bool) → a ≡ b → (a || has_name (keys_of fs) n) ≡ false → (has_name (keys_of fs) n ≡ false → item_named (λ e. e.0) n fs ≡ None)
              → (if b then Some f else item_named (λ e. e.0) n fs) ≡ None
          by true b same none rest = absurd (cc)
          by false true same none rest = absurd (cc)
          by false false same none rest = rest none

  same : IsPermutation ((n, after) ∷ es) (insert_entry name_cmp es n after)
  same = subst (IsPermutation ((n, after) ∷ es)) (sym is_put) (put_same (n, after) es)

  -- the anchors are those of elements again
  pub anchored_put : IsStrictlySortedBy name_cmp (keys_of (insert_entry name_cmp es n after)) → IsAnchored (insert_entry name_cmp es n after)
  anchored_put ordered =
      let new = insert_entry name_cmp es n after in
      let keys : (m : Name) → has_name (n ∷ keys_of es) m ≡ has_name (keys_of new) m =
      λ m. list_any-IsPermutation (name_eq m) (n ∷ keys_of es) (keys_of new) (IsPermutation-map (λ (e : Name × Name). e.0) ((n, after) ∷ es) new same) in
      let more : (m : Name) → has_name (keys_of es) m ≡ true → has_name (keys_of new) m ≡ true = λ m there. sym (keys m) ∙ or_true (name_eq m n) (has_name (keys_of es) m) there in
      let own : is_anchored (keys_of new) (n, after) ≡ true =
      and_from (is_anchor (keys_of new) after) (nat_lt after.stamp n.stamp)
      (wider (name_eq after start) (has_name (keys_of es) after) (has_name (keys_of new) after) (more after) (ap (λ b. name_eq after start || b) (sym (known after)) ∙ fresh.anchored))
      (higher after.stamp n.stamp rising) in
      record {
        ordered = ordered;
        anchored = ap (list_all (is_anchored (keys_of new))) is_put
            ∙ all_put (is_anchored (keys_of new)) (n, after) es own (anchored_more (keys_of es) (keys_of new) more es h.anchored);
      }
    where
      or_true : (a b : Bool) → b ≡ true → (a || b) ≡ true
      or_true true b is = refl
      or_true false b is = is

      wider : (a b c : Bool) → (b ≡ true → c ≡ true) → (a || b) ≡ true → (a || c) ≡ true
      wider true b c up is = refl
      wider false b c up is = up is

      higher : (a b : ℕ) → a < b → nat_lt a b ≡ true
      higher a b l = grind (arith, nat_tests)

  -- and the text order is that with the fresh element
  pub order_put : IsAnchored (insert_entry name_cmp es n after) → order (placed_from (insert_entry name_cmp es n after)) ≡ with_fresh (order (placed_from es)) n after
  order_put new =
      let placed = placed_from es in
      let p : Placed = record { name = n; anchor = after } in
      let follows : FollowsTree placed p =
      record {
        new = sym (has_placed placed n (tree_law es h)) ∙ fresh.new;
        anchored = ap (λ b. name_eq after start || b) (sym (has_placed placed after (tree_law es h))) ∙ fresh.anchored;
        rising = rising;
      } in
      let tree : IsTree (placed ++ p ∷ []) = EachAfter-push FollowsTree placed p (tree_law es h) follows in
      let moved : IsPermutation (p ∷ placed) (placed_from (insert_entry name_cmp es n after)) =
      IsPermutation-map (λ (e : Name × Name). record { name = e.0; anchor = e.1 }) ((n, after) ∷ es) (insert_entry name_cmp es n after) same in
      sym (same_law (placed ++ p ∷ []) (placed_from (insert_entry name_cmp es n after)) tree (tree_law (insert_entry name_cmp es n after) new)
      (IsPermutation-trans (placed ++ p ∷ []) (p ∷ placed) (placed_from (insert_entry name_cmp es n after)) (IsPermutation-append_comm placed (p ∷ [])) moved))
      ∙ skip_law placed p tree

-- a name that may come is put in behind its anchor: the anchors are those of elements again, and the name stands in the order
pub name_put : (es fs : List (Name × Name)) (names : List Name) (n after : Name) → IsAnchored es → order (placed_from es) ≡ names → insert_fault names n after ≡ None
    → fs ≡ insert_entry name_cmp es n after → IsStrictlySortedBy name_cmp (keys_of fs) → IsAnchored fs × (order (placed_from fs) ≡ with_fresh names n after)
name_put es fs names n after anchored names_are free fs_is ordered =
    let comes : insert_fault (order (placed_from es)) n after ≡ None = ap (λ (ns : List Name). insert_fault ns n after) names_are ∙ free in
    let kept : IsAnchored (insert_entry name_cmp es n after)
    = anchored_put es n after anchored comes (subst (λ (gs : List (Name × Name)). IsStrictlySortedBy name_cmp (keys_of gs)) fs_is ordered) in (
      subst IsAnchored (sym fs_is) kept,
      ap (λ (gs : List (Name × Name)). order (placed_from gs)) fs_is ∙ order_put es n after anchored comes kept ∙ ap (λ (ns : List Name). with_fresh ns n after) names_are,
    )
