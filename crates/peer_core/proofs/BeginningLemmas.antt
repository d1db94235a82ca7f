-- Beginnings of lists.
use Rattle.std.proofs.Common.{◌≡◌, ℕ, zero, suc, ◌+◌, ◌<◌, ◌≤◌, inl, inr, ⊎_elim, List, [], ◌∷◌, ◌++◌, length, take, get_or, Some, None, refl, ap, sym, subst, ◌∙◌, arith, append_assoc, length-append}
use Rattle.std.specs.Prelude.{slice_get, Contains}
use Rattle.std.proofs.lemmas.List.{append-nil, take_more}
use Rattle.std.proofs.lemmas.List.Elements.{Contains-append_left}
use Rattle.std.proofs.lemmas.Option.{slice_get_cases, slice_get_within, get_or_from_slice_get}
use Rattle.tomb_seq.proofs.Has.{Has, Has-from_Contains, Contains-from_Has}

-- a list begins with these
abbrev pub Begins : {X : Type 0} → List X → List X → Type 0
Begins {X} xs ys = (more : List X) × (ys ≡ xs ++ more)

pub same_begins : {X : Type 0} (xs : List X) → Begins xs xs
same_begins xs = ([], sym (append-nil xs))

pub begins_on : {X : Type 0} (xs ys zs : List X) → Begins xs ys → Begins ys zs → Begins xs zs
begins_on {X} xs ys zs first then =
    (first.0 ++ then.0, then.1 ∙ ap (λ (l : List X). l ++ then.0) first.1 ∙ append_assoc xs first.0 then.0)

pub begins_has : {X : Type 0} (xs ys : List X) (e : X) → Begins xs ys → Has xs e → Has ys e
begins_has {X} xs ys e begins h =
    subst (λ (l : List X). Has l e) (sym begins.1)
    (Has-from_Contains (xs ++ begins.0) e (Contains-append_left xs begins.0 e (Contains-from_Has xs e h)))

-- what a longer list begins with is no longer
pub begins_short : {X : Type 0} (xs ys : List X) → Begins xs ys → length xs ≤ length ys
begins_short xs ys begins =
    let size = length-append xs begins.0 in
    let same : length ys ≡ length (xs ++ begins.0) = ap length begins.1 in
    omega arith

-- what a list begins with that is no longer than this is all of it
pub begins_whole : {X : Type 0} (xs ys : List X) → Begins xs ys → length ys ≤ length xs → xs ≡ ys
begins_whole {X} xs ys begins all = by begins.0 begins.1
  where
    by : (more : List X) → ys ≡ xs ++ more → xs ≡ ys
    by [] is = sym (is ∙ append-nil xs)
    by (x ∷ more) is =
        let size = length-append xs (x ∷ more) in
        let same : length ys ≡ length (xs ++ x ∷ more) = ap length is in
        absurd (omega arith)

-- of two beginnings of a list the shorter is one of the longer
shorter : {X : Type 0} (xs ys more others : List X) → length xs ≤ length ys → xs ++ more ≡ ys ++ others → Begins xs ys
shorter [] ys more others less same = (ys, refl)
shorter (x ∷ xs) [] more others less same = absurd (omega arith)
shorter {X} (x ∷ xs) (y ∷ ys) more others less same =
    let rest : Begins xs ys = shorter xs ys more others (omega arith) cc in
    let head : x ≡ y = cc in
    (rest.0, ap (λ (z : X). z ∷ ys) (sym head) ∙ ap (λ (l : List X). x ∷ l) rest.1)

pub begins_longer : {X : Type 0} (xs ys zs : List X) → Begins xs zs → Begins ys zs → length xs ≤ length ys → Begins xs ys
begins_longer xs ys zs first then less = shorter xs ys first.0 then.0 less (sym first.1 ∙ then.1)

-- what stands early in a list stands in its beginning
early : {X : Type 0} (xs more : List X) (i : ℕ) (e : X) → i < length xs → slice_get (xs ++ more) i ≡ Some e → Has xs e
early [] more i e h is = absurd (omega arith)
early (x ∷ xs) more zero e h is = inl cc
early (x ∷ xs) more (suc i) e h is = inr (early xs more i e (omega arith) is)

pub begins_early : {X : Type 0} (xs ys : List X) (i : ℕ) (e : X) → Begins xs ys → i < length xs → slice_get ys i ≡ Some e → Contains xs e
begins_early {X} xs ys i e begins within there =
    Contains-from_Has xs e (early xs begins.0 i e within (subst (λ (l : List X). slice_get l i ≡ Some e) begins.1 there))

-- and something stands there
pub reads_early : {X : Type 0} (xs ys : List X) (i : ℕ) → Begins xs ys → i < length xs → slice_get ys i ≡ None → ⊥
reads_early {X} xs ys i begins within none =
    let short = begins_short xs ys begins in
    ⊎_elim
    (λ (there : (x : X) × (i < length ys) × (slice_get ys i ≡ Some x) × (get_or ys i x ≡ x)). let some = there.2 in cc)
    (λ (past : (length ys ≤ i) × (slice_get ys i ≡ None)). let end = past.0 in omega arith)
    (slice_get_cases ys i).1

-- nothing stands in front of what is first
pub none_before : {X : Type 0} (later xs : List X) → later ++ xs ≡ [] → xs ≡ []
none_before [] xs h = h
none_before (x ∷ later) xs h = absurd cc

-- the element at a place stands behind those in front of it
pub take_one_more : {X : Type 0} (xs : List X) (i : ℕ) (e : X) → slice_get xs i ≡ Some e → take (i + 1) xs ≡ take i xs ++ e ∷ []
take_one_more {X} xs i e there =
    take_more xs i e (slice_get_within xs i e there) ∙ ap (λ (x : X). take i xs ++ x ∷ []) (get_or_from_slice_get xs i e e there)
