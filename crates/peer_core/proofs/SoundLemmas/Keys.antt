-- Keys of a journal and of a hold are new as messages go from one to the other.
use Rattle.std.proofs.Common.{◌≡◌, ℕ, ◌==◌, zero, suc, true, false, ◌||◌, List, [], ◌∷◌, ◌++◌, None, Some, refl, ap, sym, subst, ◌∙◌, arith, append_assoc, remove, take, drop, cond}
use Rattle.std.specs.Prelude.{map, slice_get}
use Rattle.std.specs.List.{list_any}
use Rattle.std.proofs.lemmas.Bool.{or_parts, or_from}
use Rattle.std.proofs.lemmas.Bool.Decides.{nat_tests}
use Rattle.std.proofs.lemmas.List.{append-nil, map-append}
use Rattle.std.proofs.lemmas.List.Folds.{list_any-append}
use Rattle.std.proofs.lemmas.Option.{same_Some}
use Rattle.element_name.specs.Growing.{EachFrom, EachAfter}
use Rattle.element_name.proofs.EachAfterLemmas.{EachAfter-push}
use Rattle.edit_message.specs.declared.message.Key.{Key}
use Rattle.edit_message.specs.declared.message.Key.TheVariants as keys
use Rattle.edit_message.specs.declared.message.Message.{Message}
use Rattle.edit_message.specs.Message.{key_of, key_eq, find_key}
use Rattle.element_name.proofs.NameOrder.{name_eq-comm}
use Rattle.hold_back.specs.Hold.{IsNewKey}
use Rattle.peer_tables.specs.Journal.{has_key_of}
use Rattle.peer_core.proofs.WaitingLemmas.OneMore.{EachFrom-back, any_map}

-- ---- keys in another order

module _ {X : Type 0} (P : List X → X → Type 0) where
  -- what stands in the relation to more items stands in it to fewer
  EachFrom-less : (fewer more xs : List X) → ((ys : List X) (x : X) → P (more ++ ys) x → P (fewer ++ ys) x) → EachFrom P more xs → EachFrom P fewer xs
  EachFrom-less fewer more [] less each = tt
  EachFrom-less fewer more (x ∷ xs) less each = (
    subst (λ (ys : List X). P ys x) (append-nil fewer) (less [] x (subst (λ (ys : List X). P ys x) (sym (append-nil more)) each.0)),
    EachFrom-less (fewer ++ x ∷ []) (more ++ x ∷ []) xs
        (λ ys y h. subst (λ (zs : List X). P zs y) (sym (append_assoc fewer (x ∷ []) ys)) (less (x ∷ ys) y (subst (λ (zs : List X). P zs y) (append_assoc more (x ∷ []) ys) h)))
        each.1,
  )

new_both : (xs ys : List Key) (k : Key) → IsNewKey (xs ++ ys) k → IsNewKey xs k × IsNewKey ys k
new_both xs ys k h =
    or_parts (list_any (λ l. key_eq l k) xs) (list_any (λ l. key_eq l k) ys) (sym (list_any-append (λ l. key_eq l k) xs ys) ∙ h)

new_from : (xs ys : List Key) (k : Key) → IsNewKey xs k → IsNewKey ys k → IsNewKey (xs ++ ys) k
new_from xs ys k first second =
    list_any-append (λ l. key_eq l k) xs ys ∙ or_from (list_any (λ l. key_eq l k) xs) (list_any (λ l. key_eq l k) ys) first second

same_test : (a b : ℕ) → (a == b) ≡ (b == a)
same_test a b = grind (arith, nat_tests)

key_eq-comm : (a b : Key) → key_eq a b ≡ key_eq b a
key_eq-comm (keys.Coop a) (keys.Coop b) = name_eq-comm a b
key_eq-comm (keys.Coop a) (keys.Admin b) = refl
key_eq-comm (keys.Admin a) (keys.Coop b) = refl
key_eq-comm (keys.Admin a) (keys.Admin b) = same_test a b

-- fewer keys, or in another order
new_less : (fewer more : List Key) → ((k : Key) → IsNewKey more k → IsNewKey fewer k) → (ys : List Key) (k : Key) → IsNewKey (more ++ ys) k → IsNewKey (fewer ++ ys) k
new_less fewer more less ys k h =
    let both = new_both more ys k h in
    new_from fewer ys k (less k both.0) both.1

swapped : (front : List Key) (a b k : Key) → IsNewKey ((front ++ a ∷ []) ++ b ∷ []) k → IsNewKey ((front ++ b ∷ []) ++ a ∷ []) k
swapped front a b k h =
    let both = new_both (front ++ a ∷ []) (b ∷ []) k h in
    let first = new_both front (a ∷ []) k both.0 in
    new_from (front ++ b ∷ []) (a ∷ []) k (new_from front (b ∷ []) k first.0 both.1) first.1

-- a key goes to the front
moved : (front xs ys : List Key) (k : Key) → EachFrom IsNewKey front (xs ++ k ∷ ys) → EachFrom IsNewKey (front ++ k ∷ []) (xs ++ ys)
moved front [] ys k each = each.1
moved front (x ∷ xs) ys k each =
    let here : IsNewKey ((front ++ x ∷ []) ++ xs) k = (EachFrom-back IsNewKey (front ++ x ∷ []) xs (k ∷ ys) each.1).0 in
    let other = (new_both front (x ∷ []) k (new_both (front ++ x ∷ []) xs k here).0).1 in
    let apart : key_eq x k ≡ false = (or_parts (key_eq x k) false other).0 in (
      new_from front (k ∷ []) x each.0 (or_from (key_eq k x) false (key_eq-comm k x ∙ apart) refl),
      EachFrom-less IsNewKey ((front ++ k ∷ []) ++ x ∷ []) ((front ++ x ∷ []) ++ k ∷ []) (xs ++ ys)
          (new_less ((front ++ k ∷ []) ++ x ∷ []) ((front ++ x ∷ []) ++ k ∷ []) (swapped front x k)) (moved (front ++ x ∷ []) xs ys k each.1),
    )

-- a key goes ahead of some others
ahead : (front pre xs ys : List Key) (k : Key) → EachFrom IsNewKey front (pre ++ (xs ++ k ∷ ys)) → EachFrom IsNewKey front (pre ++ (k ∷ (xs ++ ys)))
ahead front [] xs ys k each = ((new_both front xs k (EachFrom-back IsNewKey front xs (k ∷ ys) each).0).0, moved front xs ys k each)
ahead front (x ∷ pre) xs ys k each = (each.0, ahead (front ++ x ∷ []) pre xs ys k each.1)

-- a key goes away
gone : (front pre xs ys : List Key) (k : Key) → EachFrom IsNewKey front (pre ++ (xs ++ k ∷ ys)) → EachFrom IsNewKey front (pre ++ (xs ++ ys))
gone front [] xs ys k each =
    EachFrom-less IsNewKey front (front ++ k ∷ []) (xs ++ ys) (new_less front (front ++ k ∷ []) (λ l h. (new_both front (k ∷ []) l h).0)) (moved front xs ys k each)
gone front (x ∷ pre) xs ys k each = (each.0, gone (front ++ x ∷ []) pre xs ys k each.1)

-- ---- keys of journal and hold

abbrev pub AreOnce : List Message → List Message → Type 0
AreOnce J H = EachAfter IsNewKey (map key_of (J ++ H))

pushed : (J H : List Message) (m : Message) → AreOnce J H → has_key_of J m ≡ false → has_key_of H m ≡ false → EachAfter IsNewKey (map key_of (J ++ H) ++ key_of m ∷ [])
pushed J H m once new_j new_h =
    EachAfter-push IsNewKey (map key_of (J ++ H)) (key_of m) once
    (any_map (J ++ H) m ∙ list_any-append (λ k. key_eq (key_of k) (key_of m)) J H ∙ or_from (has_key_of J m) (has_key_of H m) new_j new_h)

pub once_with : (J H : List Message) (m : Message) → AreOnce J H → has_key_of J m ≡ false → has_key_of H m ≡ false → AreOnce (J ++ m ∷ []) H
once_with J H m once new_j new_h =
    let kJ : List Key = map key_of J in
    let kH : List Key = map key_of H in
    let from : map key_of (J ++ H) ++ key_of m ∷ [] ≡ kJ ++ (kH ++ key_of m ∷ []) =
    ap (λ ks. ks ++ key_of m ∷ []) (map-append key_of J H) ∙ append_assoc kJ kH (key_of m ∷ []) in
    let to : kJ ++ (key_of m ∷ (kH ++ [])) ≡ map key_of ((J ++ m ∷ []) ++ H) =
    ap (λ ks. kJ ++ (key_of m ∷ ks)) (append-nil kH) ∙ sym (ap (map key_of) (append_assoc J (m ∷ []) H) ∙ map-append key_of J (m ∷ H)) in
    subst (λ (ks : List Key). EachAfter IsNewKey ks) to
    (ahead [] kJ kH [] (key_of m) (subst (λ (ks : List Key). EachAfter IsNewKey ks) from (pushed J H m once new_j new_h)))

pub once_held : (J H : List Message) (m : Message) → AreOnce J H → has_key_of J m ≡ false → has_key_of H m ≡ false → AreOnce J (H ++ m ∷ [])
once_held J H m once new_j new_h =
    subst (λ (ks : List Key). EachAfter IsNewKey ks) (sym (map-append key_of (J ++ H) (m ∷ [])) ∙ ap (map key_of) (append_assoc J H (m ∷ [])))
    (pushed J H m once new_j new_h)

split_at : {X : Type 0} (xs : List X) (i : ℕ) (x : X) → slice_get xs i ≡ Some x → xs ≡ take i xs ++ x ∷ drop (suc i) xs
split_at [] i x at = absurd (cc)
split_at (y ∷ xs) zero x at = ap (λ z. z ∷ xs) (same_Some y x at)
split_at (y ∷ xs) (suc i) x at = ap (λ ys. y ∷ ys) (split_at xs i x at)

apart : (J H : List Message) (i : ℕ) (m : Message) → slice_get H i ≡ Some m
    → map key_of (J ++ H) ≡ map key_of J ++ (map key_of (take i H) ++ key_of m ∷ map key_of (drop (suc i) H))
apart J H i m at =
    map-append key_of J H ∙ ap (λ ks. map key_of J ++ ks) (ap (map key_of) (split_at H i m at) ∙ map-append key_of (take i H) (m ∷ drop (suc i) H))

pub once_settled : (J H : List Message) (i : ℕ) (m : Message) → slice_get H i ≡ Some m → AreOnce J H → AreOnce (J ++ m ∷ []) (remove H i)
once_settled J H i m at once =
    let kJ : List Key = map key_of J in
    let first : List Key = map key_of (take i H) in
    let rest : List Key = map key_of (drop (suc i) H) in
    let to : kJ ++ (key_of m ∷ (first ++ rest)) ≡ map key_of ((J ++ m ∷ []) ++ remove H i) =
    ap (λ ks. kJ ++ (key_of m ∷ ks)) (sym (map-append key_of (take i H) (drop (suc i) H)))
    ∙ sym (ap (map key_of) (append_assoc J (m ∷ []) (remove H i)) ∙ map-append key_of J (m ∷ remove H i)) in
    subst (λ (ks : List Key). EachAfter IsNewKey ks) to
    (ahead [] kJ first rest (key_of m) (subst (λ (ks : List Key). EachAfter IsNewKey ks) (apart J H i m at) once))

pub once_without : (J H : List Message) (i : ℕ) (m : Message) → slice_get H i ≡ Some m → AreOnce J H → AreOnce J (remove H i)
once_without J H i m at once =
    let kJ : List Key = map key_of J in
    let first : List Key = map key_of (take i H) in
    let rest : List Key = map key_of (drop (suc i) H) in
    let to : kJ ++ (first ++ rest) ≡ map key_of (J ++ remove H i) =
    ap (λ ks. kJ ++ ks) (sym (map-append key_of (take i H) (drop (suc i) H))) ∙ sym (map-append key_of J (remove H i)) in
    subst (λ (ks : List Key). EachAfter IsNewKey ks) to
    (gone [] kJ first rest (key_of m) (subst (λ (ks : List Key). EachAfter IsNewKey ks) (apart J H i m at) once))

-- the key of a held message isn't the journal's
pub held_new : (J H : List Message) (i : ℕ) (m : Message) → slice_get H i ≡ Some m → AreOnce J H → has_key_of J m ≡ false
held_new J H i m at once =
    let kJ : List Key = map key_of J in
    let first : List Key = map key_of (take i H) in
    let rest : List Key = map key_of (drop (suc i) H) in
    let each : EachFrom IsNewKey [] (kJ ++ (first ++ key_of m ∷ rest)) = subst (λ (ks : List Key). EachAfter IsNewKey ks) (apart J H i m at) once in
    let back : EachFrom IsNewKey kJ (first ++ key_of m ∷ rest) = EachFrom-back IsNewKey [] kJ (first ++ key_of m ∷ rest) each in
    sym (any_map J m) ∙ (new_both kJ first (key_of m) (EachFrom-back IsNewKey kJ first (key_of m ∷ rest) back).0).0

-- a key that is found in neither is new to both
not_found : (xs : List Message) (m : Message) → find_key (key_of m) xs ≡ None → has_key_of xs m ≡ false
not_found [] m none = refl
not_found (x ∷ xs) m none = elim (key_eq (key_of x) (key_of m)) as (λ b. key_eq (key_of x) (key_of m) ≡ b
    → cond b (Some x) (find_key (key_of m) xs) ≡ None → (b || has_key_of xs m) ≡ false) [
      | true ↦ λ t h. absurd (cc)
      | false ↦ λ f h. not_found xs m h
    ] refl none

pub new_key : (J H : List Message) (m : Message) → find_key (key_of m) (J ++ H) ≡ None → (has_key_of J m ≡ false) × (has_key_of H m ≡ false)
new_key J H m none =
    or_parts (has_key_of J m) (has_key_of H m)
    (sym (list_any-append (λ k. key_eq (key_of k) (key_of m)) J H) ∙ not_found (J ++ H) m none)
