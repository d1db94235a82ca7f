-- What is found in a table whose names ascend.
use Rattle.std.proofs.Common.{◌≡◌, ◌⊎◌, inl, inr, ⊎_elim, Bool, true, false, cond, List, [], ◌∷◌, None, Some, refl, sym, ap, subst, ◌∙◌, arith}
use Rattle.std.specs.Prelude.{ℕ, find, nat_le, nat_lt}
use Rattle.std.proofs.lemmas.Bool.Decides.{nat_tests}
use Rattle.std.specs.declared.option.Option.{Option}
use Rattle.std.specs.Option.{option_map}
use Rattle.std.specs.List.{AllByRecursion}
use Rattle.std.proofs.lemmas.Bool.{and_parts}
use Rattle.element_name.specs.Name.{Name, start, name_eq, name_lt}
use Rattle.element_name.proofs.NameOrder.{same_name, name_eq-refl, name_eq-comm, name_lt-apart, name_lt-trans, name_gt}
use Rattle.element_name.proofs.CaseLemmas.{when-None, first_of-None}
use Rattle.element_name.specs.Cases.{when}
use Rattle.element_name.specs.declared.limits.TheConstants.{MAX_VERSION}
use Rattle.coop_request.specs.Edit.{anchor_or_target, targets_start}
use Rattle.coop_request.specs.declared.request.RequestFault.TheVariants.{BadVersion, StartTarget, StampOrder}
use Rattle.coop_request.specs.Request.{Request, IsAccepted}
use Rattle.request_state.specs.declared.kept.Kept.{Kept}
use Rattle.request_state.specs.Table.{kept_of, kept_request, is_in_order}
use Rattle.retro_undo.proofs.Parts.{all_by}

abbrev pub IsAbove : Name → Kept → Type 0
IsAbove n k = name_lt n k.request.id ≡ true

-- the others are above the first
pub first_below : (k : Kept) (table : List Kept) → is_in_order (k ∷ table) ≡ true → AllByRecursion (IsAbove k.request.id) table
first_below k [] order = tt
first_below k (x ∷ table) order =
    let parts = and_parts (name_lt k.request.id x.request.id) (is_in_order (x ∷ table)) order in
    (parts.0, all_by (IsAbove x.request.id) (IsAbove k.request.id) (λ y above. name_lt-trans k.request.id x.request.id y.request.id parts.0 above) table (first_below x table parts.1))

pub rest_in_order : (k : Kept) (table : List Kept) → is_in_order (k ∷ table) ≡ true → is_in_order table ≡ true
rest_in_order k [] order = refl
rest_in_order k (x ∷ table) order = (and_parts (name_lt k.request.id x.request.id) (is_in_order (x ∷ table)) order).1

-- k stands in the table: those in front are below and fail the test, which k passes, and those behind are above
abbrev pub IsAt : (Kept → Bool) → Kept → List Kept → Type 0
IsAt test k [] = ⊥
IsAt test k (x ∷ table) =
    ((x ≡ k) × (test k ≡ true) × AllByRecursion (IsAbove k.request.id) table)
    ⊎ ((test x ≡ false) × (name_lt x.request.id k.request.id ≡ true) × IsAt test k table)

-- what stands in a table whose first is below all others is above that one
at_above : (test : Kept → Bool) (k : Kept) (n : Name) (table : List Kept) → IsAt test k table → AllByRecursion (IsAbove n) table → name_lt n k.request.id ≡ true
at_above test k n [] at above = absurd at
at_above test k n (x ∷ table) at above =
    ⊎_elim
    (λ (h : (x ≡ k) × (test k ≡ true) × AllByRecursion (IsAbove k.request.id) table). subst (IsAbove n) h.0 above.0)
    (λ (l : (test x ≡ false) × (name_lt x.request.id k.request.id ≡ true) × IsAt test k table). at_above test k n table l.2 above.1)
    at

pub found_at : (test : Kept → Bool) (k : Kept) (table : List Kept) → is_in_order table ≡ true → find test table ≡ Some k → IsAt test k table
found_at test k [] order found = absurd cc
found_at test k (x ∷ table) order found = by (test x) refl found (found_at test k table (rest_in_order x table order))
  where
    by : (b : Bool) → test x ≡ b → cond b (Some x) (find test table) ≡ Some k → (find test table ≡ Some k → IsAt test k table) → IsAt test k (x ∷ table)
    by true passes found rest =
        let same : x ≡ k = cc in
        inl (same, subst (λ y. test y ≡ true) same passes, subst (λ y. AllByRecursion (IsAbove y.request.id) table) same (first_below x table order))
    by false fails found rest =
        let at = rest found in
        inr (fails, at_above test k x.request.id table at (first_below x table order), at)

-- none of the others has its name
pub alone : (test : Kept → Bool) (k : Kept) (table : List Kept) → IsAt test k table → AllByRecursion (λ x. name_eq x.request.id k.request.id ≡ true → x ≡ k) table
alone test k [] at = tt
alone test k (x ∷ table) at =
    ⊎_elim
    (λ (h : (x ≡ k) × (test k ≡ true) × AllByRecursion (IsAbove k.request.id) table). (
      (λ same. h.0),
      all_by (IsAbove k.request.id) (λ y. name_eq y.request.id k.request.id ≡ true → y ≡ k)
          (λ y above same. let apart = name_lt-apart k.request.id y.request.id above in let turned = name_eq-comm k.request.id y.request.id in absurd cc) table h.2,
    ))
    (λ (l : (test x ≡ false) × (name_lt x.request.id k.request.id ≡ true) × IsAt test k table).
    ((λ same. let apart = name_lt-apart x.request.id k.request.id l.1 in absurd cc), alone test k table l.2))
    at

-- it is what is kept under its name
pub kept_at : (test : Kept → Bool) (k : Kept) (table : List Kept) → IsAt test k table → kept_of table k.request.id ≡ Some k
kept_at test k [] at = absurd at
kept_at test k (x ∷ table) at =
    ⊎_elim
    (λ (h : (x ≡ k) × (test k ≡ true) × AllByRecursion (IsAbove k.request.id) table).
    ap (λ y. kept_of (y ∷ table) k.request.id) h.0 ∙ ap (λ b. cond b (Some k) (kept_of table k.request.id)) (name_eq-refl k.request.id))
    (λ (l : (test x ≡ false) × (name_lt x.request.id k.request.id ≡ true) × IsAt test k table).
    ap (λ b. cond b (Some x) (kept_of table k.request.id)) (name_lt-apart x.request.id k.request.id l.1) ∙ kept_at test k table l.2)
    at

pub at_passes : (test : Kept → Bool) (k : Kept) (table : List Kept) → IsAt test k table → test k ≡ true
at_passes test k [] at = absurd at
at_passes test k (x ∷ table) at =
    ⊎_elim
    (λ (h : (x ≡ k) × (test k ≡ true) × AllByRecursion (IsAbove k.request.id) table). h.1)
    (λ (l : (test x ≡ false) × (name_lt x.request.id k.request.id ≡ true) × IsAt test k table). at_passes test k table l.2)
    at

pub none_found : (test : Kept → Bool) (table : List Kept) → find test table ≡ None → AllByRecursion (λ k. test k ≡ false) table
none_found test [] none = tt
none_found test (x ∷ table) none = by (test x) refl none (none_found test table)
  where
    by : (b : Bool) → test x ≡ b → cond b (Some x) (find test table) ≡ None → (find test table ≡ None → AllByRecursion (λ k. test k ≡ false) table) → AllByRecursion (λ k. test k ≡ false) (x ∷ table)
    by true passes none rest = absurd cc
    by false fails none rest = (fails, rest none)

-- every name is above the start, unless it is the start
above_start : (n : Name) → name_eq n start ≡ false → name_lt start n ≡ true
above_start n apart = name_gt n start (none_below n) apart
  where
    none_below : (n : Name) → name_lt n start ≡ false
    none_below n = grind (arith, nat_tests)

pub all_above_start : (table : List Kept) → kept_of table start ≡ None → AllByRecursion (IsAbove start) table
all_above_start table absent = all_by (λ k. name_eq k.request.id start ≡ false) (IsAbove start) (λ k apart. above_start k.request.id apart) table (none_found (λ k. name_eq k.request.id start) table absent)

-- ---- no request has the start's name

pub request_named : (table : List Kept) (n : Name) (q : Request) → kept_request table n ≡ Some q → q.id ≡ n
request_named [] n q found = absurd cc
request_named (k ∷ table) n q found = by (name_eq k.request.id n) refl found (request_named table n q)
  where
    by : (b : Bool) → name_eq k.request.id n ≡ b → option_map (λ (x : Kept). x.request) (cond b (Some k) (kept_of table n)) ≡ Some q → (kept_request table n ≡ Some q → q.id ≡ n) → q.id ≡ n
    by true same found rest =
        let is : k.request ≡ q = cc in
        ap (λ r. r.id) (sym is) ∙ same_name k.request.id n same
    by false apart found rest = rest found

pub never_start : (q : Request) → IsAccepted q → q.id ≡ start → ⊥
never_start q accepted is =
    let older = nat_le q.id.stamp (anchor_or_target q.edit).stamp in
    let last = when older StampOrder ∷ [] in
    let second = when (targets_start q.edit) StartTarget in
    let after_first = first_of-None (when (nat_lt MAX_VERSION q.version) BadVersion) (second ∷ last) accepted in
    let after_second = first_of-None second last after_first.1 in
    let third = first_of-None (when older StampOrder) [] after_second.1 in
    let rising : nat_le q.id.stamp (anchor_or_target q.edit).stamp ≡ false = when-None older StampOrder third.0 in
    let stamp : q.id.stamp ≡ 0 = ap (λ n. n.stamp) is in
    by q.id.stamp (anchor_or_target q.edit).stamp stamp rising
  where
    by : (a b : ℕ) → a ≡ 0 → nat_le a b ≡ false → ⊥
    by a b zero rising = grind (arith, nat_tests)

-- where no request is found, none is kept
pub none_kept : (table : List Kept) (n : Name) → kept_request table n ≡ None → kept_of table n ≡ None
none_kept table n none = by (kept_of table n) none
  where
    by : (x : Option Kept) → option_map (λ k. k.request) x ≡ None → x ≡ None
    by None e = refl
    by (Some k) e = absurd cc
