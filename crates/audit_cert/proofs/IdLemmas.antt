-- Names that are kept as the keys of an ordered index.
use Rattle.std.proofs.Common.{◌≡◌, ◌+◌, Bool, true, false, cond, List, [], ◌∷◌, length, refl, sym, ap, ◌∙◌}
use Rattle.std.specs.Prelude.{◌||◌, is_some, Some}
use Rattle.std.proofs.lemmas.List.{length-map}
use Rattle.std.specs.Map.{keys_of, lookup}
use Rattle.std.specs.BTreeMap.{is_at, insert_entry}
use Rattle.element_name.specs.Name.{Name, name_eq, has_name}
use Rattle.element_name.specs.Named.{name_cmp}
use Rattle.element_name.proofs.NameOrder.{is_eq-name_cmp, name_cmp_total}
use Rattle.name_index.specs.Chunks.{IsOrdered}
use Rattle.name_index.proofs.Keys.{any_updated}
use Rattle.name_index.proofs.Results.{length_insert}

module _ {X : Type 0} where
  -- a name that is found is one of the keys
  pub found_key : (es : List (Name × X)) (n : Name) → is_some (lookup (is_at (name_cmp n)) es) ≡ has_name (keys_of es) n
  found_key [] n = refl
  found_key (e ∷ es) n = rw (is_eq-name_cmp n e.0) (by (name_eq n e.0) (found_key es n))
    where
      by : (b : Bool) → is_some (lookup (is_at (name_cmp n)) es) ≡ has_name (keys_of es) n
          → is_some (cond b (Some e.1) (lookup (is_at (name_cmp n)) es)) ≡ (b || has_name (keys_of es) n)
      by true rest = refl
      by false rest = rest

  -- one more name
  pub one_noted : (old new : List (Name × X)) (n m : Name) (x : X) → lookup (is_at (name_cmp m)) new ≡ cond (is_at (name_cmp n) m) (Some x) (lookup (is_at (name_cmp m)) old)
      → has_name (keys_of new) m ≡ (name_eq n m || has_name (keys_of old) m)
  one_noted old new n m x put =
      sym (found_key new m)
      ∙ any_updated (is_at (name_cmp n) m) (Some x) (lookup (is_at (name_cmp m)) old) (lookup (is_at (name_cmp m)) new) put
      ∙ ap (λ b. cond b true (is_some (lookup (is_at (name_cmp m)) old))) (is_eq-name_cmp n m)
      ∙ ap (λ b. cond (name_eq n m) true b) (found_key old m)
      ∙ either (name_eq n m) (has_name (keys_of old) m)
    where
      either : (a b : Bool) → cond a true b ≡ (a || b)
      either true b = refl
      either false b = refl

  pub one_counted : (old new : List (Name × X)) (n : Name) (x : X) → IsOrdered name_cmp old → has_name (keys_of old) n ≡ false → new ≡ insert_entry name_cmp old n x
      → length (keys_of new) ≡ length (keys_of old) + 1
  one_counted old new n x ordered fresh put =
      length-map new (λ (e : Name × X). e.0)
      ∙ ap (λ (es : List (Name × X)). length es) put
      ∙ length_insert name_cmp_total old n x ordered
      ∙ ap (λ b. length old + cond b 0 1) (found_key old n ∙ fresh)
      ∙ ap (λ k. k + 1) (sym (length-map old (λ (e : Name × X). e.0)))
