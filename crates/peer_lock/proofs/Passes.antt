-- The passes of a new shared peer, one by one.
use Rattle.std.proofs.Common.{◌≡◌, ℕ, zero, suc, ◌+◌, ◌<◌, List, [], ◌∷◌, ◌++◌, length, refl, ap, ◌∙◌, arith, length-append, Some}
use Rattle.std.specs.Prelude.{slice_get}
use mathlib.Core.Logic.{dite}
use native.Mathlib.Decide.{ℕ_discrete}
use Rattle.atomic_table.specs.Seated.{TableId}
use Rattle.peer_lock.specs.Rule.{newcomer}
use Rattle.peer_lock.specs.KnownPass.{KnownPass}
use Rattle.peer_lock.specs.Dealt.{Dealt, Others, IsDealt}

get_front : (xs ys : List KnownPass) (i : ℕ) (k : KnownPass) → slice_get xs i ≡ Some k → slice_get (xs ++ ys) i ≡ Some k
get_front [] ys i k e = absurd (cc)
get_front (x ∷ xs) ys zero k e = e
get_front (x ∷ xs) ys (suc i) k e = get_front xs ys i k e

get_last : (xs : List KnownPass) (k : KnownPass) → slice_get (xs ++ k ∷ []) (length xs) ≡ Some k
get_last [] k = refl
get_last (x ∷ xs) k = get_last xs k

-- a pass is dealt
pub one_more : (table : TableId) (site n : ℕ) (ks : List KnownPass) (k : KnownPass) → Others table site n ks → k.table ≡ table → k.view ≡ newcomer n 0 site → Others table site (n + 1) (ks ++ k ∷ [])
one_more table site n ks k o there view = record {
  rest = omega (arith, o.rest, length-append ks (k ∷ []));
  each = λ i below. dite (ℕ_discrete i (length ks))
      (λ last. (k, ap (λ (j : ℕ). slice_get (ks ++ k ∷ []) j) last ∙ get_last ks k, there, view ∙ ap (λ (j : ℕ). newcomer j 0 site) (let e : n ≡ i + 1 = omega (arith, o.rest) in e)))
      (λ not-last. let t = o.each i (omega (arith, length-append ks (k ∷ []))) in (t.0, get_front ks (k ∷ []) i t.0 t.1, t.2, t.3));
}

-- the first pass in front of the others
pub with_first : (table : TableId) (site n : ℕ) (ks : List KnownPass) (k : KnownPass) → Others table site n ks → k.table ≡ table → k.view ≡ newcomer 0 n site → Dealt table site n (k ∷ ks)
with_first table site n ks k o there view = record { all = omega (arith, o.rest); each = at }
  where
    at : (i : ℕ) → i < n → (k' : KnownPass) × (slice_get (k ∷ ks) i ≡ Some k') × IsDealt table site n i k'
    at zero below = (k, refl, (there, view))
    at (suc i) below = let t = o.each i (omega (arith, o.rest)) in (t.0, t.1, (t.2, t.3 ∙ ap (λ (j : ℕ). newcomer j 0 site) (let e : i + 1 ≡ suc i = omega arith in e)))
