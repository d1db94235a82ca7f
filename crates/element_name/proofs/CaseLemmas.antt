-- What follows where no row of a table holds, and where a step leads on.
use Rattle.std.proofs.Common.{◌≡◌, Bool, true, false, List, ◌∷◌, Some, None, refl}
use Rattle.std.specs.Prelude.{option_map}
use Rattle.std.specs.declared.option.Option.{Option}
use Rattle.std.specs.Option.{option_or}
use Rattle.element_name.specs.Cases.{when, first_of, ◌>>=◌}

-- a row that doesn't hold fails its test
pub when-None : {A : Type 0} (test : Bool) (x : A) → when test x ≡ None → test ≡ false
when-None true x e = absurd (cc)
when-None false x e = refl

-- a row that holds passes its test, and gives its value
pub when-Some : {A : Type 0} (test : Bool) (x y : A) → when test x ≡ Some y → (test ≡ true) × (x ≡ y)
when-Some true x y e = (refl, cc)
when-Some false x y e = absurd (cc)

-- where no row holds, the first doesn't and none of the others does
pub first_of-None : {A : Type 0} (row : Option A) (rows : List (Option A)) → first_of (row ∷ rows) ≡ None → (row ≡ None) × (first_of rows ≡ None)
first_of-None None rows e = (refl, e)
first_of-None (Some x) rows e = absurd (cc)

-- a step that leads to a value has one to begin with
pub bind-Some : {A B : Type 0} (value : Option A) (f : A → Option B) (y : B) → (value >>= f) ≡ Some y → (x : A) × (value ≡ Some x) × (f x ≡ Some y)
bind-Some None f y e = absurd (cc)
bind-Some (Some x) f y e = (x, refl, e)

-- what is mapped to none is none
pub option_map-None : {A B : Type 0} (f : A → B) (x : Option A) → option_map f x ≡ None → x ≡ None
option_map-None f None e = refl
option_map-None f (Some x) e = absurd (cc)

-- an option, or none, is itself
pub option_or-None : {A : Type 0} (x : Option A) → option_or x None ≡ x
option_or-None None = refl
option_or-None (Some x) = refl
