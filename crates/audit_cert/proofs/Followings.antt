-- What leads from each element to the next, while the elements are put in by name.
use Rattle.std.proofs.Common.{◌≡◌, ℕ, suc, ◌+◌, ◌<◌, ◌≤◌, Bool, true, false, cond, not, None, Some, List, [], ◌∷◌, ◌++◌, insert, length, refl, sym, ap, subst, ◌∙◌, inl, append_assoc, arith, length-append}
use Rattle.std.specs.declared.option.Option.{Option}
use Rattle.std.specs.declared.cmp.Ordering.TheVariants.{Less}
use Rattle.std.specs.Ordering.{is_lt}
use Rattle.std.specs.Prelude.{◌||◌, slice_get, find, if◌then◌else◌}
use Rattle.std.specs.List.{list_all, position_or_len, AllByRecursion}
use Rattle.std.specs.List.Sorted.{IsStrictlySortedBy}
use Rattle.std.specs.Map.{keys_of}
use Rattle.std.specs.BTreeMap.{is_at}
use Rattle.std.proofs.lemmas.Bool.{and_parts, and_from, or_parts, both_ways}
use Rattle.std.proofs.lemmas.Bool.Decides.{nat_tests}
use Rattle.std.proofs.lemmas.List.{append-nil}
use Rattle.std.proofs.lemmas.List.Folds.{list_any-append, list_all-append}
use Rattle.std.proofs.lemmas.List.Sorted.{IsPermutation-sym}
use Rattle.std.proofs.lemmas.Map.Keys.{sorted_head, sorted_tail}
use Rattle.element_name.specs.Name.{Name, start, name_eq, name_lt, has_name, are_distinct}
use Rattle.element_name.specs.Named.{name_cmp}
use Rattle.element_name.specs.Tree.{Placed, FollowsTree, IsTree, order, names_of, after_anchor}
use Rattle.element_name.proofs.EachAfterLemmas.{EachAfter-front, EachAfter-last}
use Rattle.element_name.proofs.NameOrder.{is_eq-name_cmp, is_lt-name_cmp, name_eq-comm, name_eq-refl, name_lt-irrefl, name_lt-trans, same_name}
use Rattle.tomb_seq.proofs.Has.{Has, Has-permutation}
use Rattle.tomb_seq.proofs.MarkLemmas.{greatest_law}
use Rattle.tomb_seq.proofs.Theorems.{each_law, once_law, skip_law}
use Rattle.audit_cert.specs.Anchors.{placed_from, is_anchored, IsAnchored, LeadsThrough, put_behind}
use Rattle.peer_tables.proofs.KeptLemmas.Tables.{all_has}
use Rattle.audit_cert.proofs.AnchoredTrees.{prefix_below, keys_append, names_placed, placed_append, tree_law, no_start, has_placed}

-- ---- one name more

-- the names behind x, with n behind its anchor, which is x or one of them
pub behind : Name → Name → Name → List Name → List Name
behind anchor n x [] = n ∷ []
behind anchor n x (m ∷ names) = if name_eq anchor x then n ∷ m ∷ names else m ∷ behind anchor n m names

behind_here : (anchor n x : Name) (names : List Name) → name_eq anchor x ≡ true → behind anchor n x names ≡ n ∷ names
unfolding behind
behind_here anchor n x [] h = refl
behind_here anchor n x (m ∷ names) h = rw h refl

behind_on : (anchor n x m : Name) (names : List Name) → name_eq anchor x ≡ false → behind anchor n x (m ∷ names) ≡ m ∷ behind anchor n m names
unfolding behind
behind_on anchor n x m names h = rw h refl

behind_there : (anchor n x : Name) (names : List Name) → name_eq anchor x ≡ false → has_name names anchor ≡ true
    → behind anchor n x names ≡ insert names (position_or_len (name_eq anchor) names + 1) n
unfolding behind
behind_there anchor n x [] h there = absurd (cc)
behind_there anchor n x (m ∷ names) h there = rw h (by (name_eq anchor m) refl there (λ e known. behind_there anchor n m names e known))
  where
    by : (b : Bool) → name_eq anchor m ≡ b → (b || has_name names anchor) ≡ true
        → (name_eq anchor m ≡ false → has_name names anchor ≡ true → behind anchor n m names ≡ insert names (position_or_len (name_eq anchor) names + 1) n)
        → m ∷ behind anchor n m names ≡ insert (m ∷ names) (position_or_len (name_eq anchor) (m ∷ names) + 1) n
    by true e known rest =
        let place : position_or_len (name_eq anchor) (m ∷ names) + 1 ≡ 1 = rw e (omega arith) in
        rw place (ap (λ (ns : List Name). m ∷ ns) (behind_here anchor n m names e))
    by false e known rest =
        let place : position_or_len (name_eq anchor) (m ∷ names) + 1 ≡ suc (position_or_len (name_eq anchor) names + 1) = rw e (omega arith) in
        rw place (ap (λ (ns : List Name). m ∷ ns) (rest e known))

behind_start : (anchor n : Name) (names : List Name) → (name_eq anchor start || has_name names anchor) ≡ true → behind anchor n start names ≡ insert names (after_anchor names anchor) n
behind_start anchor n names there = by (name_eq anchor start) refl there
  where
    by : (b : Bool) → name_eq anchor start ≡ b → (b || has_name names anchor) ≡ true
        → behind anchor n start names ≡ insert names (if b then 0 else position_or_len (name_eq anchor) names + 1) n
    by true e known = behind_here anchor n start names e
    by false e known = behind_there anchor n start names e known

module _ (next new : Name → Option Name) (anchor n : Name) (put : (m : Name) → new m ≡ put_behind next anchor n m) where
  stays : (x : Name) → name_eq anchor x ≡ false → name_eq n x ≡ false → new x ≡ next x
  stays x other apart = put x ∙ rw (other, apart) refl

  -- behind the anchor all leads on as before
  leads_on : (x : Name) (names : List Name) → has_name (x ∷ names) anchor ≡ false → has_name (x ∷ names) n ≡ false → LeadsThrough next x names → LeadsThrough new x names
  leads_on x [] other apart leads = stays x (or_parts (name_eq anchor x) false other).0 (or_parts (name_eq n x) false apart).0 ∙ leads
  leads_on x (m ∷ names) other apart leads =
      let a = or_parts (name_eq anchor x) (has_name (m ∷ names) anchor) other in
      let b = or_parts (name_eq n x) (has_name (m ∷ names) n) apart in
      (stays x a.0 b.0 ∙ leads.0, leads_on m names a.1 b.1 leads.1)

  -- at the anchor
  leads_here : (x : Name) (names : List Name) → name_eq anchor x ≡ true → are_distinct (x ∷ names) ≡ true → has_name (x ∷ names) n ≡ false
      → LeadsThrough next x names → LeadsThrough new x (behind anchor n x names)
  leads_here x names e once apart leads =
      let same : anchor ≡ x = same_name anchor x e in
      let fresh = or_parts (name_eq n x) (has_name names n) apart in
      let to : new x ≡ Some n = put x ∙ rw e refl in
      let off : name_eq anchor n ≡ false = ap (λ a. name_eq a n) same ∙ name_eq-comm x n ∙ fresh.0 in
      let on : new n ≡ next x = put n ∙ rw (off, name_eq-refl n) (ap next same) in
      let absent : has_name names anchor ≡ false =
      ap (has_name names) same ∙ not_true (has_name names x) (and_parts (not (has_name names x)) (are_distinct names) once).0 in
      subst (LeadsThrough new x) (sym (behind_here anchor n x names e)) (to, rest names on absent fresh.1 leads)
    where
      not_true : (b : Bool) → not b ≡ true → b ≡ false
      not_true true h = absurd (cc)
      not_true false h = refl

      rest : (ms : List Name) → new n ≡ next x → has_name ms anchor ≡ false → has_name ms n ≡ false → LeadsThrough next x ms → LeadsThrough new n ms
      rest [] on other fresh leads = on ∙ leads
      rest (m ∷ ms) on other fresh leads = (on ∙ leads.0, leads_on m ms other fresh leads.1)

  pub leads_behind : (x : Name) (names : List Name) → are_distinct (x ∷ names) ≡ true → has_name (x ∷ names) anchor ≡ true → has_name (x ∷ names) n ≡ false
      → LeadsThrough next x names → LeadsThrough new x (behind anchor n x names)
  leads_behind x [] once there apart leads = leads_here x [] (alone (name_eq anchor x) there) once apart leads
    where
      alone : (b : Bool) → (b || false) ≡ true → b ≡ true
      alone true h = refl
      alone false h = absurd (cc)
  leads_behind x (m ∷ names) once there apart leads =
      let fresh = or_parts (name_eq n x) (has_name (m ∷ names) n) apart in
      let distinct = and_parts (not (has_name (m ∷ names) x)) (are_distinct (m ∷ names)) once in
      by (name_eq anchor x) refl there (λ known. leads_behind m names distinct.1 known fresh.1 leads.1)
    where
      by : (b : Bool) → name_eq anchor x ≡ b → (b || has_name (m ∷ names) anchor) ≡ true
          → (has_name (m ∷ names) anchor ≡ true → LeadsThrough new m (behind anchor n m names)) → LeadsThrough new x (behind anchor n x (m ∷ names))
      by true e known rest = leads_here x (m ∷ names) e once apart leads
      by false e known rest =
          subst (LeadsThrough new x) (sym (behind_on anchor n x m names e)) (stays x e (or_parts (name_eq n x) (has_name (m ∷ names) n) apart).0 ∙ leads.0, rest known)

-- where the anchor led to nothing, the new name leads to nothing
pub put_last : (next new : Name → Option Name) (anchor n : Name) → next anchor ≡ None → next n ≡ None → ((m : Name) → new m ≡ cond (is_at (name_cmp anchor) m) (Some n) (next m))
    → (m : Name) → new m ≡ put_behind next anchor n m
put_last next new anchor n end fresh put m =
    put m ∙ ap (λ b. cond b (Some n) (next m)) (is_eq-name_cmp anchor m) ∙ ap (λ (o : Option Name). if name_eq anchor m then Some n else o) (by (name_eq n m) refl)
  where
    by : (b : Bool) → name_eq n m ≡ b → next m ≡ (if b then next anchor else next m)
    by true e = ap next (sym (same_name n m e)) ∙ fresh ∙ sym end
    by false e = refl

-- ---- one element after another

-- of all elements by name those in front of the ones that are left lead from each to the next, and no other name leads on
pub record IsLinked (all left : List (Name × Name)) (next : Name → Option Name) : Type 0 where
  pub read : List (Name × Name)
  pub whole : all ≡ read ++ left
  pub leads : LeadsThrough next start (order (placed_from read))
  pub others : (n : Name) → has_name (start ∷ keys_of read) n ≡ false → next n ≡ None

module _ (all : List (Name × Name)) (e : Name × Name) (left : List (Name × Name)) (next : Name → Option Name) (h : IsAnchored all) (linked : IsLinked all (e ∷ left) next) where
  tree : IsTree (placed_from linked.read ++ record { name = e.0; anchor = e.1 } ∷ [])
  tree =
      let p : Placed = record { name = e.0; anchor = e.1 } in
      EachAfter-front FollowsTree (placed_from linked.read ++ p ∷ []) (placed_from left)
      (subst IsTree
      (ap placed_from linked.whole ∙ placed_append linked.read (e ∷ left) ∙ sym (append_assoc (placed_from linked.read) (p ∷ []) (placed_from left)))
      (tree_law all h))

  prefix_tree : IsTree (placed_from linked.read)
  prefix_tree = EachAfter-front FollowsTree (placed_from linked.read) (record { name = e.0; anchor = e.1 } ∷ []) tree

  follows : FollowsTree (placed_from linked.read) (record { name = e.0; anchor = e.1 })
  follows = EachAfter-last FollowsTree (placed_from linked.read) (record { name = e.0; anchor = e.1 }) tree

  new_key : has_name (keys_of linked.read) e.0 ≡ false
  new_key = ap (λ (ns : List Name). has_name ns e.0) (sym (names_placed linked.read)) ∙ follows.new

  -- its name isn't there, nor is it `start`
  pub is_fresh : has_name (start ∷ keys_of linked.read) e.0 ≡ false
  is_fresh = rw (above e.1.stamp e.0 follows.rising) new_key
    where
      above : (low : ℕ) (n : Name) → low < n.stamp → name_eq n start ≡ false
      above low n lt = grind (arith, nat_tests)

  -- its name is the greatest so far
  greatest : list_all (λ m. name_lt m e.0) (order (placed_from linked.read)) ≡ true
  greatest =
      all_has (λ m. name_lt m e.0) (order (placed_from linked.read)) (λ m p.
      prefix_below (keys_of linked.read) e.0 (keys_of left)
      (subst (IsStrictlySortedBy name_cmp) (ap keys_of linked.whole ∙ keys_append linked.read (e ∷ left)) h.ordered) m
      (subst (λ (ns : List Name). Has ns m) (names_placed linked.read)
      (Has-permutation (order (placed_from linked.read)) (names_of (placed_from linked.read)) m
      (IsPermutation-sym (names_of (placed_from linked.read)) (order (placed_from linked.read)) (each_law (placed_from linked.read) prefix_tree)) p)))

  anchor_there : has_name (start ∷ order (placed_from linked.read)) e.1 ≡ true
  anchor_there = ap (λ b. name_eq e.1 start || b) (has_placed (placed_from linked.read) e.1 prefix_tree) ∙ follows.anchored

  -- so it comes directly behind its anchor
  placed_next : order (placed_from (linked.read ++ e ∷ [])) ≡ insert (order (placed_from linked.read)) (after_anchor (order (placed_from linked.read)) e.1) e.0
  placed_next =
      ap order (placed_append linked.read (e ∷ []))
      ∙ skip_law (placed_from linked.read) (record { name = e.0; anchor = e.1 }) tree
      ∙ ap (λ k. insert (order (placed_from linked.read)) k e.0) (greatest_law (order (placed_from linked.read)) e.0 e.1 greatest)

  in_order : (ns : List Name) → has_name ns e.0 ≡ has_name (keys_of linked.read) e.0 → has_name (start ∷ ns) e.0 ≡ false
  in_order ns same = ap (λ b. name_eq e.0 start || b) same ∙ is_fresh

  known : (m : Name) → has_name (order (placed_from linked.read)) m ≡ has_name (keys_of linked.read) m
  known m = has_placed (placed_from linked.read) m prefix_tree ∙ ap (λ (ns : List Name). has_name ns m) (names_placed linked.read)

  once : are_distinct (start ∷ order (placed_from linked.read)) ≡ true
  once =
      let all_read : list_all (is_anchored (keys_of all)) (linked.read ++ e ∷ left) ≡ true = subst (λ (es : List (Name × Name)). list_all (is_anchored (keys_of all)) es ≡ true) linked.whole h.anchored in
      let parts = and_parts (list_all (is_anchored (keys_of all)) linked.read) (list_all (is_anchored (keys_of all)) (e ∷ left))
      (sym (list_all-append (is_anchored (keys_of all)) linked.read (e ∷ left)) ∙ all_read) in
      let none : has_name (order (placed_from linked.read)) start ≡ false = known start ∙ no_start (keys_of all) linked.read parts.0 in
      and_from (not (has_name (order (placed_from linked.read)) start)) (are_distinct (order (placed_from linked.read))) (ap not none) (once_law (placed_from linked.read) prefix_tree)

  pub next_linked : (new : Name → Option Name) → ((m : Name) → new m ≡ put_behind next e.1 e.0 m) → IsLinked all left new
  next_linked new put = record {
    read = linked.read ++ e ∷ [];
    whole = linked.whole ∙ sym (append_assoc linked.read (e ∷ []) left);
    leads = subst (LeadsThrough new start) (behind_start e.1 e.0 (order (placed_from linked.read)) anchor_there ∙ sym placed_next)
        (leads_behind next new e.1 e.0 put start (order (placed_from linked.read)) once anchor_there (in_order (order (placed_from linked.read)) (known e.0)) linked.leads);
    others = λ m out.
        let parts = or_parts (name_eq m start) (has_name (keys_of (linked.read ++ e ∷ [])) m) out in
        let more : (has_name (keys_of linked.read) m || (name_eq m e.0 || false)) ≡ false =
        sym (list_any-append (name_eq m) (keys_of linked.read) (e.0 ∷ [])) ∙ ap (λ (ns : List Name). has_name ns m) (sym (keys_append linked.read (e ∷ []))) ∙ parts.1 in
        let apart = or_parts (has_name (keys_of linked.read) m) (name_eq m e.0 || false) more in
        let out_before : has_name (start ∷ keys_of linked.read) m ≡ false = rw (parts.0, apart.0) refl in
        stays next new e.1 e.0 put m (other m out_before (name_eq e.1 m) refl) (name_eq-comm e.0 m ∙ (or_parts (name_eq m e.0) false apart.1).0)
        ∙ linked.others m out_before;
  }
    where
      other : (m : Name) → has_name (start ∷ keys_of linked.read) m ≡ false → (b : Bool) → name_eq e.1 m ≡ b → name_eq e.1 m ≡ false
      other m out true is =
          let there : has_name (start ∷ keys_of linked.read) e.1 ≡ true = ap (λ b. name_eq e.1 start || b) (sym (known e.1)) ∙ anchor_there in
          let same : e.1 ≡ m = same_name e.1 m is in
          let again : has_name (start ∷ keys_of linked.read) m ≡ true = subst (λ k. has_name (start ∷ keys_of linked.read) k ≡ true) same there in
          absurd (both_ways (has_name (start ∷ keys_of linked.read) m) out again)
      other m out false is = is

-- ---- the entries one after another, by name

-- of entries that ascend by name, the first above one is the next
pub next_entry : (read left : List (Name × Name)) (e : Name × Name) → IsStrictlySortedBy name_cmp (keys_of (read ++ e ∷ left))
    → find (λ x. is_lt (name_cmp e.0 x.0)) (read ++ e ∷ left) ≡ slice_get left 0
next_entry [] left e sorted =
    let off : is_lt (name_cmp e.0 e.0) ≡ false = is_lt-name_cmp e.0 e.0 ∙ name_lt-irrefl e.0 in
    rw off (first left (sorted_head name_cmp e.0 (keys_of left) sorted))
  where
    first : (left : List (Name × Name)) → AllByRecursion (λ n. name_cmp e.0 n ≡ Less) (keys_of left) → find (λ x. is_lt (name_cmp e.0 x.0)) left ≡ slice_get left 0
    first [] all = refl
    first (y ∷ left) all = rw all.0 refl
next_entry (x ∷ read) left e sorted =
    let ascend : IsStrictlySortedBy name_cmp (x.0 ∷ (keys_of read ++ e.0 ∷ keys_of left)) =
    subst (λ (ns : List Name). IsStrictlySortedBy name_cmp (x.0 ∷ ns)) (keys_append read (e ∷ left)) sorted in
    let low : name_lt x.0 e.0 ≡ true = prefix_below (x.0 ∷ keys_of read) e.0 (keys_of left) ascend x.0 (inl refl) in
    let off : is_lt (name_cmp e.0 x.0) ≡ false = is_lt-name_cmp e.0 x.0 ∙ not_back (name_lt e.0 x.0) refl low in
    rw off (next_entry read left e (sorted_tail name_cmp x.0 (keys_of (read ++ e ∷ left)) sorted))
  where
    not_back : (b : Bool) → name_lt e.0 x.0 ≡ b → name_lt x.0 e.0 ≡ true → name_lt e.0 x.0 ≡ false
    not_back true back low = absurd (both_ways (name_lt x.0 x.0) (name_lt-irrefl x.0) (name_lt-trans x.0 e.0 x.0 low back))
    not_back false back low = back

-- of all elements by name so many are left, of which this one is the first; those in front of it lead from each to the next
pub record IsComing (all : List (Name × Name)) (count : ℕ) (coming : Option (Name × Name)) (next : Name → Option Name) : Type 0 where
  pub left : List (Name × Name)
  pub linked : IsLinked all left next
  pub count_is : length left ≡ count
  pub first : coming ≡ slice_get left 0

-- at the beginning all are left
pub first_coming : (all : List (Name × Name)) (coming : Option (Name × Name)) (next : Name → Option Name) → coming ≡ slice_get all 0 → ((n : Name) → next n ≡ None)
    → IsComing all (length all) coming next
first_coming all coming next first none = record {
  left = all;
  linked = record { read = []; whole = refl; leads = none start; others = λ n out. none n };
  count_is = refl;
  first = first;
}

-- where one is left there is a first
pub no_end : (all : List (Name × Name)) (count : ℕ) (coming : Option (Name × Name)) (next : Name → Option Name) → coming ≡ None → IsComing all count coming next → 0 < count → ⊥
no_end all count coming next none state some = by state.left state.count_is (sym none ∙ state.first)
  where
    by : (left : List (Name × Name)) → length left ≡ count → None ≡ slice_get left 0 → ⊥
    by [] is first = omega (arith, is, some)
    by (x ∷ left) is first = cc

-- where none is left each leads to the next
pub all_linked : (all : List (Name × Name)) (count : ℕ) (coming : Option (Name × Name)) (next : Name → Option Name) → IsComing all count coming next → count ≤ 0
    → LeadsThrough next start (order (placed_from all))
all_linked all count coming next state none = by state.left state.count_is state.linked
  where
    by : (left : List (Name × Name)) → length left ≡ count → IsLinked all left next → LeadsThrough next start (order (placed_from all))
    by [] is linked = subst (λ (es : List (Name × Name)). LeadsThrough next start (order (placed_from es))) (sym (append-nil linked.read) ∙ sym linked.whole) linked.leads
    by (x ∷ left) is linked = absurd (omega (arith, is, none))

module _ (all : List (Name × Name)) (count : ℕ) (coming : Option (Name × Name)) (e : Name × Name) (next : Name → Option Name) (is : coming ≡ Some e) (h : IsAnchored all)
    (state : IsComing all count coming next) where
  here : (rest : List (Name × Name)) × (state.left ≡ e ∷ rest)
  here = by state.left (sym is ∙ state.first)
    where
      by : (left : List (Name × Name)) → Some e ≡ slice_get left 0 → (rest : List (Name × Name)) × (left ≡ e ∷ rest)
      by [] first = absurd (cc)
      by (x ∷ rest) first = let same : x ≡ e = cc in (rest, ap (λ y. y ∷ rest) same)

  linked_here : IsLinked all (e ∷ here.0) next
  linked_here = subst (λ (left : List (Name × Name)). IsLinked all left next) here.1 state.linked

  -- the first leads to nothing yet
  pub fresh_coming : next e.0 ≡ None
  fresh_coming = linked_here.others e.0 (is_fresh all e here.0 next h linked_here)

  -- with the first behind its anchor the next is the first
  pub next_coming : (new : Name → Option Name) → ((m : Name) → new m ≡ put_behind next e.1 e.0 m) → (later : Option (Name × Name))
      → later ≡ find (λ x. is_lt (name_cmp e.0 x.0)) all → (fewer : ℕ) → fewer + 1 ≡ count → IsComing all fewer later new
  next_coming new put later found fewer less = record {
    left = here.0;
    linked = next_linked all e here.0 next h linked_here new put;
    count_is = omega (arith, ap (λ (es : List (Name × Name)). length es) here.1, state.count_is, less);
    first = found
        ∙ ap (find (λ x. is_lt (name_cmp e.0 x.0))) linked_here.whole
        ∙ next_entry linked_here.read here.0 e (subst (λ (es : List (Name × Name)). IsStrictlySortedBy name_cmp (keys_of es)) linked_here.whole h.ordered);
  }

-- ---- and then one is followed to the next

-- behind those that are done, each leads to the next of all
pub record IsFollowed (all done : List Name) (next : Name → Option Name) (last : Name) : Type 0 where
  pub rest : List Name
  pub whole : all ≡ done ++ rest
  pub leads : LeadsThrough next last rest

pub one_followed : (all done : List Name) (next : Name → Option Name) (last m : Name) → IsFollowed all done next last → next last ≡ Some m → IsFollowed all (done ++ m ∷ []) next m
one_followed all done next last m followed is = by followed.rest followed.whole followed.leads
  where
    by : (rest : List Name) → all ≡ done ++ rest → LeadsThrough next last rest → IsFollowed all (done ++ m ∷ []) next m
    by [] whole leads = let no : Some m ≡ None = sym is ∙ leads in absurd (cc)
    by (r ∷ rest) whole leads =
        let two : Some m ≡ Some r = sym is ∙ leads.0 in
        let same : r ≡ m = cc in
        record {
          rest = rest;
          whole = whole ∙ sym (append_assoc done (r ∷ []) rest) ∙ ap (λ k. (done ++ k ∷ []) ++ rest) same;
          leads = subst (λ k. LeadsThrough next k rest) same leads.1;
        }

pub fewer_left : (all done : List Name) (next : Name → Option Name) (last m : Name) → IsFollowed all done next last → next last ≡ Some m → length done < length all
fewer_left all done next last m followed is = by followed.rest followed.whole followed.leads
  where
    by : (rest : List Name) → all ≡ done ++ rest → LeadsThrough next last rest → length done < length all
    by [] whole leads = let no : Some m ≡ None = sym is ∙ leads in absurd (cc)
    by (r ∷ rest) whole leads = omega (arith, ap length whole, length-append done (r ∷ rest))

pub all_followed : (all done : List Name) (next : Name → Option Name) (last : Name) → IsFollowed all done next last → next last ≡ None → done ≡ all
all_followed all done next last followed is = by followed.rest followed.whole followed.leads
  where
    by : (rest : List Name) → all ≡ done ++ rest → LeadsThrough next last rest → done ≡ all
    by [] whole leads = sym (whole ∙ append-nil done)
    by (r ∷ rest) whole leads = let no : Some r ≡ None = sym leads.0 ∙ is in absurd (cc)
