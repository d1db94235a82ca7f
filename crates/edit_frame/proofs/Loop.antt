-- Reading items one after the other, as a loop does.
use Rattle.std.proofs.Common.{◌≡◌, ℕ, suc, ◌-◌, ◌+◌, ◌≤◌, ◌<◌, List, [], ◌∷◌, ◌++◌, Some, None, refl, sym, ap, ◌∙◌, append_assoc, arith}
use Rattle.std.proofs.lemmas.List.{append-nil}
use Rattle.element_name.specs.Cases.{◌>>=◌}
use Rattle.edit_frame.specs.Fields.{Field, Reader, items_at}

-- what was read before, and what is still read
abbrev pub with_prefix : {A : Type 0} → List A → Field (List A) → Field (List A)
with_prefix before read = read >>= λ x. Some (before ++ x.0, x.1)

regroup : {A : Type 0} (before : List A) (n : A) (read : Field (List A)) → with_prefix before (read >>= λ x. Some (n ∷ x.0, x.1)) ≡ with_prefix (before ++ n ∷ []) read
regroup before n (Some x) = ap (λ (ns : List _). Some (ns, x.1)) (simp append_assoc)
regroup before n None = refl

pub goes_on : {A : Type 0} (item : Reader A) (before : List A) (count i : ℕ) (bytes : List ℕ) (n : A) (after : List ℕ) (total : Field (List A)) → i < count → item bytes ≡ Some (n, after)
    → with_prefix before (items_at item (count - i) bytes) ≡ total → with_prefix (before ++ n ∷ []) (items_at item (count - (i + 1)) after) ≡ total
unfolding items_at
goes_on item before count i bytes n after total lt h so_far =
    let k : count - i ≡ suc (count - (i + 1)) = omega arith in
    let one : with_prefix before (items_at item (count - i) bytes) ≡ with_prefix (before ++ n ∷ []) (items_at item (count - (i + 1)) after) = rw (k, h) (regroup before n (items_at item (count - (i + 1)) after)) in
    sym one ∙ so_far

pub ends : {A : Type 0} (item : Reader A) (before : List A) (count i : ℕ) (bytes : List ℕ) (total : Field (List A)) → i < count → item bytes ≡ None
    → with_prefix before (items_at item (count - i) bytes) ≡ total → total ≡ None
unfolding items_at
ends item before count i bytes total lt h so_far =
    let k : count - i ≡ suc (count - (i + 1)) = omega arith in
    let one : with_prefix before (items_at item (count - i) bytes) ≡ None = rw (k, h) refl in
    sym so_far ∙ one

pub is_done : {A : Type 0} (item : Reader A) (before : List A) (count i : ℕ) (bytes : List ℕ) (total : Field (List A)) → count ≤ i → with_prefix before (items_at item (count - i) bytes) ≡ total → total ≡ Some (before, bytes)
unfolding items_at
is_done item before count i bytes total le so_far =
    let k : count - i ≡ 0 = omega arith in
    let one : with_prefix before (items_at item (count - i) bytes) ≡ Some (before, bytes) = rw k (ap (λ (ns : List _). Some (ns, bytes)) (append-nil before)) in
    sym so_far ∙ one
