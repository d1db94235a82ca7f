-- How lists that grow at their end take one more item.
use Rattle.std.proofs.Common.{List, [], ◌∷◌, ◌++◌, sym, subst, append_assoc}
use Rattle.std.proofs.lemmas.List.{append-nil}
use Rattle.element_name.specs.Growing.{EachFrom, EachAfter}

module _ {X : Type 0} (P : List X → X → Type 0) where
  pub EachFrom-push : (front xs : List X) (x : X) → EachFrom P front xs → P (front ++ xs) x → EachFrom P front (xs ++ x ∷ [])
  EachFrom-push front [] x each last = (subst (λ (ys : List X). P ys x) (append-nil front) last, tt)
  EachFrom-push front (y ∷ xs) x each last =
      (each.0, EachFrom-push (front ++ y ∷ []) xs x each.1 (subst (λ (ys : List X). P ys x) (sym (append_assoc front (y ∷ []) xs)) last))

  pub EachFrom-front : (front xs ys : List X) → EachFrom P front (xs ++ ys) → EachFrom P front xs
  EachFrom-front front [] ys each = tt
  EachFrom-front front (x ∷ xs) ys each = (each.0, EachFrom-front (front ++ x ∷ []) xs ys each.1)

  pub EachFrom-last : (front xs : List X) (x : X) → EachFrom P front (xs ++ x ∷ []) → P (front ++ xs) x
  EachFrom-last front [] x each = subst (λ (ys : List X). P ys x) (sym (append-nil front)) each.0
  EachFrom-last front (y ∷ xs) x each = subst (λ (ys : List X). P ys x) (append_assoc front (y ∷ []) xs) (EachFrom-last (front ++ y ∷ []) xs x each.1)

  -- one more item that stands in the relation to a list of such
  pub EachAfter-push : (xs : List X) (x : X) → EachAfter P xs → P xs x → EachAfter P (xs ++ x ∷ [])
  EachAfter-push xs x each last = EachFrom-push [] xs x each last

  -- a front of such a list is one
  pub EachAfter-front : (xs ys : List X) → EachAfter P (xs ++ ys) → EachAfter P xs
  EachAfter-front xs ys each = EachFrom-front [] xs ys each

  -- the last item stands in the relation to those before it
  pub EachAfter-last : (xs : List X) (x : X) → EachAfter P (xs ++ x ∷ []) → P xs x
  EachAfter-last xs x each = EachFrom-last [] xs x each
