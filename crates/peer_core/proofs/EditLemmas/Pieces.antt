-- A text of pieces in which one changes.
use Rattle.std.proofs.Common.{◌≡◌, ℕ, ◌+◌, ◌<◌, zero, suc, ⊎_elim, true, false, not, cond, List, [], ◌∷◌, length, None, Some, refl, ap, ◌∙◌, arith, insert, remove}
use Rattle.std.specs.Prelude.{filter, filter_map, is_some, slice_set, slice_index_or}
use Rattle.std.specs.declared.option.Option.{Option}
use Rattle.std.specs.List.{position_or_len, cons_option}
use Rattle.std.proofs.lemmas.Bool.{and_parts, or_left, or_right, cases_Bool, not-true}
use Rattle.element_name.specs.Name.{Name, start, name_eq, has_name, are_distinct}
use Rattle.element_name.proofs.NameOrder.{same_name, name_eq-refl, name_eq-comm}
use Rattle.peer_core.proofs.AnswerLemmas.Edits.{in_filter, has_at}

-- ---- one piece of a text

-- it becomes another, or goes
abbrev pub changed : Option (List ℕ) → List (List ℕ) → ℕ → List (List ℕ)
changed None pieces at = remove pieces at
changed (Some letter) pieces at = slice_set pieces at letter

changed_first : (o : Option (List ℕ)) (x : List ℕ) (pieces : List (List ℕ)) → cons_option o pieces ≡ changed o (x ∷ pieces) 0
changed_first None x pieces = refl
changed_first (Some letter) x pieces = refl

changed_later : (o : Option (List ℕ)) (x : List ℕ) (pieces : List (List ℕ)) (at : ℕ) → x ∷ changed o pieces at ≡ changed o (x ∷ pieces) (suc at)
changed_later None x pieces at = refl
changed_later (Some letter) x pieces at = refl

-- a name that isn't in the list is none of its names
pub apart : (names : List Name) (m e : Name) → has_name names m ≡ false → has_name names e ≡ true → name_eq e m ≡ false
apart names m e absent there = ⊎_elim
    (λ (t : name_eq e m ≡ true). absurd (let same = ap (has_name names) (same_name e m t) in cc))
    (λ (f : name_eq e m ≡ false). f)
    (cases_Bool (name_eq e m))

module _ (f g : Name → Option (List ℕ)) where
  pieces_same : (names : List Name) → ((e : Name) → has_name names e ≡ true → g e ≡ f e) → filter_map g names ≡ filter_map f names
  pieces_same [] same = refl
  pieces_same (m ∷ names) same =
      ap (λ (o : Option (List ℕ)). cons_option o (filter_map g names)) (same m (or_left (name_eq m m) (has_name names m) (name_eq-refl m)))
      ∙ ap (λ (ps : List (List ℕ)). cons_option (f m) ps) (pieces_same names (λ e h. same e (or_right (name_eq e m) (has_name names e) h)))

  -- the elements that show by f
  abbrev seen_of : List Name → List Name
  seen_of names = filter (λ e. is_some (f e)) names

  there_of : (names : List Name) (k : ℕ) → k < length (seen_of names) → has_name names (slice_index_or (seen_of names) k start) ≡ true
  there_of names k low = in_filter (λ e. is_some (f e)) names (slice_index_or (seen_of names) k start) (has_at (seen_of names) k start low)

  text_step : (m : Name) (names : List Name) (o : Option (List ℕ)) → f m ≡ o → has_name names m ≡ false
      → ((k : ℕ) → k < length (seen_of names) → ((e : Name) → name_eq (slice_index_or (seen_of names) k start) e ≡ false → g e ≡ f e)
      → filter_map g names ≡ changed (g (slice_index_or (seen_of names) k start)) (filter_map f names) k)
      → (at : ℕ) → at < length (cond (is_some o) (m ∷ seen_of names) (seen_of names))
      → ((e : Name) → name_eq (slice_index_or (cond (is_some o) (m ∷ seen_of names) (seen_of names)) at start) e ≡ false → g e ≡ f e)
      → cons_option (g m) (filter_map g names)
      ≡ changed (g (slice_index_or (cond (is_some o) (m ∷ seen_of names) (seen_of names)) at start)) (cons_option o (filter_map f names)) at
  text_step m names None is new more at low same =
      let other = apart names m (slice_index_or (seen_of names) at start) new (there_of names at low) in
      ap (λ (o : Option (List ℕ)). cons_option o (filter_map g names)) (same m other ∙ is) ∙ more at low same
  text_step m names (Some x) is new more zero low same =
      ap (λ (ps : List (List ℕ)). cons_option (g m) ps) (pieces_same names (λ e h. same e (name_eq-comm m e ∙ apart names m e new h)))
      ∙ changed_first (g m) x (filter_map f names)
  text_step m names (Some x) is new more (suc at) low same =
      let below : at < length (seen_of names) = omega arith in
      let other = apart names m (slice_index_or (seen_of names) at start) new (there_of names at below) in
      ap (λ (o : Option (List ℕ)). cons_option o (filter_map g names)) (same m other ∙ is) ∙ ap (λ (ps : List (List ℕ)). x ∷ ps) (more at below same)
      ∙ changed_later (g (slice_index_or (seen_of names) at start)) x (filter_map f names) at

  -- where one element that shows changes, its piece does
  pub text_changed : (names : List Name) (at : ℕ) → are_distinct names ≡ true → at < length (seen_of names)
      → ((e : Name) → name_eq (slice_index_or (seen_of names) at start) e ≡ false → g e ≡ f e)
      → filter_map g names ≡ changed (g (slice_index_or (seen_of names) at start)) (filter_map f names) at
  text_changed [] at once low same = absurd (omega arith)
  text_changed (m ∷ names) at once low same =
      let parts = and_parts (not (has_name names m)) (are_distinct names) once in
      text_step m names (f m) refl (not-true (has_name names m) parts.0) (λ k l s. text_changed names k parts.1 l s) at low same

  later_place : (names : List Name) (m id : Name) (k : ℕ) → insert (m ∷ names) ((1 + k) + 1) id ≡ m ∷ insert names (k + 1) id
  later_place names m id k = let next : (1 + k) + 1 ≡ suc (k + 1) = omega arith in ap (λ (n : ℕ). insert (m ∷ names) n id) next

  insert_step : (id : Name) (letter : List ℕ) (m : Name) (names : List Name) (o : Option (List ℕ)) → g id ≡ Some letter → f m ≡ o → has_name names m ≡ false → g m ≡ f m
      → ((e : Name) → has_name names e ≡ true → g e ≡ f e)
      → ((k : ℕ) → k < length (seen_of names)
      → filter_map g (insert names (position_or_len (name_eq (slice_index_or (seen_of names) k start)) names + 1) id) ≡ insert (filter_map f names) (suc k) letter)
      → (at : ℕ) → at < length (cond (is_some o) (m ∷ seen_of names) (seen_of names))
      → filter_map g (insert (m ∷ names) (position_or_len (name_eq (slice_index_or (cond (is_some o) (m ∷ seen_of names) (seen_of names)) at start)) (m ∷ names) + 1) id)
      ≡ insert (cons_option o (filter_map f names)) (suc at) letter
  insert_step id letter m names None own is new here same more at low =
      let n : Name = slice_index_or (seen_of names) at start in
      let other = apart names m n new (there_of names at low) in
      rw other (ap (filter_map g) (later_place names m id (position_or_len (name_eq n) names))
      ∙ ap (λ (o : Option (List ℕ)). cons_option o (filter_map g (insert names (position_or_len (name_eq n) names + 1) id))) (here ∙ is) ∙ more at low)
  insert_step id letter m names (Some x) own is new here same more zero low =
      rw (name_eq-refl m) (ap (λ (o : Option (List ℕ)). cons_option o (cons_option (g id) (filter_map g names))) (here ∙ is)
      ∙ ap (λ (o : Option (List ℕ)). x ∷ cons_option o (filter_map g names)) own ∙ ap (λ (ps : List (List ℕ)). x ∷ letter ∷ ps) (pieces_same names same))
  insert_step id letter m names (Some x) own is new here same more (suc at) low =
      let below : at < length (seen_of names) = omega arith in
      let n : Name = slice_index_or (seen_of names) at start in
      let other = apart names m n new (there_of names at below) in
      rw other (ap (filter_map g) (later_place names m id (position_or_len (name_eq n) names))
      ∙ ap (λ (o : Option (List ℕ)). cons_option o (filter_map g (insert names (position_or_len (name_eq n) names + 1) id))) (here ∙ is)
      ∙ ap (λ (ps : List (List ℕ)). x ∷ ps) (more at below))

  -- where a new element follows one that shows, its piece follows that one's
  pub text_inserted : (id : Name) (letter : List ℕ) (names : List Name) (at : ℕ) → g id ≡ Some letter → are_distinct names ≡ true → at < length (seen_of names)
      → ((e : Name) → has_name names e ≡ true → g e ≡ f e)
      → filter_map g (insert names (position_or_len (name_eq (slice_index_or (seen_of names) at start)) names + 1) id) ≡ insert (filter_map f names) (suc at) letter
  text_inserted id letter [] at own once low same = absurd (omega arith)
  text_inserted id letter (m ∷ names) at own once low same =
      let parts = and_parts (not (has_name names m)) (are_distinct names) once in
      insert_step id letter m names (f m) own refl (not-true (has_name names m) parts.0) (same m (or_left (name_eq m m) (has_name names m) (name_eq-refl m)))
      (λ e h. same e (or_right (name_eq e m) (has_name names e) h))
      (λ k l. text_inserted id letter names k own parts.1 l (λ e h. same e (or_right (name_eq e m) (has_name names e) h))) at low

  -- or stands first
  pub text_first : (id : Name) (letter : List ℕ) (names : List Name) → g id ≡ Some letter → ((e : Name) → has_name names e ≡ true → g e ≡ f e)
      → filter_map g (insert names 0 id) ≡ insert (filter_map f names) 0 letter
  text_first id letter names own same =
      ap (λ (o : Option (List ℕ)). cons_option o (filter_map g names)) own ∙ ap (λ (ps : List (List ℕ)). letter ∷ ps) (pieces_same names same)
