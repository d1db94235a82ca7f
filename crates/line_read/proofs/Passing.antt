-- What is there passes a test: by the ways in which a value is read.
use Rattle.std.proofs.Common.{◌≡◌, ℕ, Bool, true, false, cond, ◌&&◌, List, [], ◌∷◌, Some, None, refl, ap, sym, ◌∙◌}
use Rattle.std.specs.Prelude.{option_map}
use Rattle.std.specs.declared.option.Option.{Option}
use Rattle.std.specs.Option.{option_or}
use Rattle.std.proofs.lemmas.Bool.{and_from}
use Rattle.std.proofs.lemmas.Option.{same_Some}
use Rattle.element_name.specs.Cases.{when, given, ◌>>=◌}
use Rattle.peer_step.proofs.Rows.{when_has, map_has, given_has}
use Rattle.line_read.specs.Words.{one_word, two_words}

-- what is there passes the test
abbrev pub Passes : {A : Type 0} → (A → Bool) → Option A → Type 0
Passes {A = A} test value = (x : A) → value ≡ Some x → test x ≡ true

module _ {A : Type 0} (test : A → Bool) where
  -- nothing is there
  pub none : Passes test None
  none x e = absurd (cc)

  -- a value that passes
  pub some : (x : A) → test x ≡ true → Passes test (Some x)
  some x h y e = ap test (sym (same_Some x y e)) ∙ h

  -- a value behind a test
  pub where_ : (b : Bool) (x : A) → (b ≡ true → test x ≡ true) → Passes test (when b x)
  where_ b x h = when_has (λ y. test y ≡ true) b x h

  -- a value that is there where it passes
  pub tested : (value : Option A) → Passes test (value >>= λ x. when (test x) x)
  tested None = none
  tested (Some x) = where_ (test x) x (λ h. h)

  -- what is given behind a test
  pub allowed : (b : Bool) (value : Option A) → Passes test value → Passes test (given b value)
  allowed b value h = given_has (λ y. test y ≡ true) b value (λ holds. h)

  -- one or the other, by a test
  pub either : (b : Bool) (x y : Option A) → Passes test x → Passes test y → Passes test (cond b x y)
  either true x y first second = first
  either false x y first second = second

  -- the first of two that is there
  pub first : (x y : Option A) → Passes test x → Passes test y → Passes test (option_or x y)
  first None y head rest = rest
  first (Some x) y head rest = head

  -- what a value leads to
  pub then : {B : Type 0} (value : Option B) (f : B → Option A) → ((x : B) → value ≡ Some x → Passes test (f x)) → Passes test (value >>= f)
  then None f h = none
  then (Some x) f h = h x refl

  -- what a value is mapped to
  pub mapped : {B : Type 0} (f : B → A) (value : Option B) → ((x : B) → value ≡ Some x → test (f x) ≡ true) → Passes test (option_map f value)
  mapped f value h = map_has (λ y. test y ≡ true) f value h

-- each of two values passes its test
abbrev pub both : {A B : Type 0} → (A → Bool) → (B → Bool) → A × B → Bool
both test also values = test values.0 && also values.1

-- ---- words, so many and no more

pub alone : {A : Type 0} (test : A → Bool) (read : List ℕ → Option A) → ((word : List ℕ) → Passes test (read word)) → (words : List (List ℕ)) → Passes test (one_word read words)
alone test read each (a ∷ []) = each a
alone test read each words = none test

pub pair : {A B : Type 0} (test : A → Bool) (also : B → Bool) (read : List ℕ → Option A) (other : List ℕ → Option B)
    → ((word : List ℕ) → Passes test (read word)) → ((word : List ℕ) → Passes also (other word)) → (words : List (List ℕ)) → Passes (both test also) (two_words read other words)
pair test also read other each rest (a ∷ b ∷ []) =
    then (both test also) (read a) _ (λ x is_x. then (both test also) (other b) _ (λ y is_y.
    some (both test also) (x, y) (and_from (test x) (also y) (each a x is_x) (rest b y is_y))))
pair test also read other each rest words = none (both test also)
