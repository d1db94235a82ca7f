-- The keys of a map.
use Rattle.std.proofs.Common.{◌≡◌, Bool, true, false, ◌||◌, cond, List, [], ◌∷◌, Some, refl, ap}
use Rattle.std.specs.Prelude.{is_some, slice_get}
use Rattle.std.specs.Option.{option_map}
use Rattle.std.specs.List.{find, list_any}
use Rattle.std.specs.Map.{keys_of, lookup}
use Rattle.std.specs.declared.option.Option.{Option}

module _ {K X : Type 0} where
  pub any_key : (test : K → Bool) (es : List (K × X)) → is_some (lookup test es) ≡ list_any test (keys_of es)
  any_key test [] = refl
  any_key test (e ∷ es) = by (test e.0) (any_key test es)
    where
      by : (b : Bool) → is_some (lookup test es) ≡ list_any test (keys_of es) → is_some (cond b (Some e.1) (lookup test es)) ≡ (b || list_any test (keys_of es))
      by true rest = refl
      by false rest = rest

  pub first_key_of : (es : List (K × X)) → option_map (λ (e : K × X). e.0) (slice_get es 0) ≡ slice_get (keys_of es) 0
  first_key_of [] = refl
  first_key_of (e ∷ es) = refl

  pub find_key : (test : K → Bool) (es : List (K × X)) → option_map (λ (e : K × X). e.0) (find (λ e. test e.0) es) ≡ find test (keys_of es)
  find_key test [] = refl
  find_key test (e ∷ es) = by (test e.0) (find_key test es)
    where
      by : (b : Bool) → option_map (λ (x : K × X). x.0) (find (λ x. test x.0) es) ≡ find test (keys_of es) → option_map (λ (x : K × X). x.0) (cond b (Some e) (find (λ x. test x.0) es)) ≡ cond b (Some e.0) (find test (keys_of es))
      by true rest = refl
      by false rest = rest

-- after a change at the keys that a test passes
pub any_updated : {X : Type 0} (b : Bool) (w old new : Option X) → new ≡ cond b w old → is_some new ≡ cond b (is_some w) (is_some old)
any_updated {X = X} true w old new h = ap (λ (o : Option X). is_some o) h
any_updated {X = X} false w old new h = ap (λ (o : Option X). is_some o) h
