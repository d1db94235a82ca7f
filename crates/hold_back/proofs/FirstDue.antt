-- The first message that is due, as the woken ones are gone over.
use Rattle.std.proofs.Common.{◌≡◌, ℕ, ◌+◌, ◌-◌, ◌<◌, ◌≤◌, Bool, true, false, not, cond, ◌||◌, List, [], ◌∷◌, None, Some, Option, length, drop, get_or}
use Rattle.std.proofs.Common.{refl, sym, ap, ◌∙◌, arith, ltb, ltb-true}
use Rattle.std.specs.Prelude.{option_map, position}
use Rattle.std.specs.List.{position_or_len}
use Rattle.std.proofs.lemmas.Bool.Decides.{nat_tests}
use Rattle.std.proofs.lemmas.List.{get_or-drop, length-drop}
use Rattle.std.proofs.lemmas.List.Folds.{list_all_at}
use Rattle.std.proofs.lemmas.List.Quantifiers.{position-Some}
use Rattle.std.proofs.lemmas.List.Sums.{position_or_len_is, fails_before_first}
use Rattle.edit_message.specs.declared.message.Message.{Message}
use Rattle.hold_back.specs.declared.held.Held.{Held}
use Rattle.hold_back.specs.Hold.{is_woken, woken_from, due_at, only_woken_due}

-- what the first woken one from a place on is
record IsFirstWoken (held : List Held) (from i : ℕ) : Type 0 where
  pub low : from ≤ i
  pub within : i < length held
  pub before : (k : ℕ) (d : Held) → from ≤ k → k < i → is_woken (get_or held k d) ≡ false

first_woken : (held : List Held) (from i : ℕ) → Some i ≡ woken_from from held → IsFirstWoken held from i
first_woken held from i found = by (position is_woken (drop from held)) refl found
  where
    by : (x : Option ℕ) → position is_woken (drop from held) ≡ x → Some i ≡ option_map (λ k. from + k) x → IsFirstWoken held from i
    by None e none = absurd (cc)
    by (Some k) e some =
        let same : i ≡ from + k = cc in
        let long = length-drop from held in
        record {
          low = omega (arith, same);
          within = inside (drop from held) refl k e (λ lt. omega (arith, lt, long, same));
          before = λ j d low lt.
              let place : from + (j - from) ≡ j = omega (arith, low) in
              let other = (position-Some is_woken (drop from held) k d e).2 (j - from) (omega (arith, low, lt, same)) in
              sym (ap (λ m. is_woken (get_or held m d)) place) ∙ sym (ap is_woken (get_or-drop from held (j - from) d)) ∙ other;
        }
      where
        inside : (xs : List Held) → drop from held ≡ xs → (k : ℕ) → position is_woken (drop from held) ≡ Some k → (k < length (drop from held) → i < length held) → i < length held
        inside [] none k e then = absurd (let e2 : position is_woken [] ≡ Some k = sym (ap (position is_woken) none) ∙ e in cc)
        inside (h ∷ xs) some k e then = then (position-Some is_woken (drop from held) k h e).0

none_woken : (held : List Held) (from : ℕ) → None ≡ woken_from from held → (k : ℕ) (d : Held) → from ≤ k → k < length held → is_woken (get_or held k d) ≡ false
none_woken held from none k d low within =
    let xs = drop from held in
    let long = length-drop from held in
    let place : from + (k - from) ≡ k = omega (arith, low) in
    let past = by (ltb (position_or_len is_woken xs) (length xs)) refl none in
    let other = fails_before_first is_woken xs (k - from) d (omega (arith, past, long, low, within)) in
    sym (ap (λ m. is_woken (get_or held m d)) place) ∙ sym (ap is_woken (get_or-drop from held (k - from) d)) ∙ other
  where
    by : (b : Bool) → ltb (position_or_len is_woken (drop from held)) (length (drop from held)) ≡ b
        → None ≡ option_map (λ k. from + k) (cond (ltb (position_or_len is_woken (drop from held)) (length (drop from held))) (Some (position_or_len is_woken (drop from held))) None)
        → length (drop from held) ≤ position_or_len is_woken (drop from held)
    by true e none =
        let some : None ≡ Some (from + position_or_len is_woken (drop from held)) = none ∙ ap (λ b. option_map (λ k. from + k) (cond b (Some (position_or_len is_woken (drop from held))) None)) e in
        absurd (cc)
    by false e none = grind (arith, nat_tests, e)

not_due : (due : Message → Bool) (held : List Held) → only_woken_due due held ≡ true → (k : ℕ) (d : Held) → k < length held → is_woken (get_or held k d) ≡ false
    → due (get_or held k d).message ≡ false
not_due due held only k d within asleep = by (due (get_or held k d).message) refl
  where
    by : (b : Bool) → due (get_or held k d).message ≡ b → due (get_or held k d).message ≡ false
    by false e = e
    by true e =
        let fails : (is_woken (get_or held k d) || not (due (get_or held k d).message)) ≡ false = ap (λ b. b || not (due (get_or held k d).message)) asleep ∙ ap not e in
        let all = list_all_at (λ h. is_woken h || not (due h.message)) held k d within fails in
        absurd (cc)

abbrev pub NoneBefore : (Message → Bool) → List Held → ℕ → Type 0
NoneBefore due held from = (k : ℕ) (d : Held) → k < from → due (get_or held k d).message ≡ false

-- where none before is due, none before the first woken one is
none_up_to : (due : Message → Bool) (held : List Held) (from i : ℕ) → only_woken_due due held ≡ true → NoneBefore due held from → IsFirstWoken held from i → NoneBefore due held i
none_up_to due held from i only before first k d lt = by (ltb k from) refl
  where
    by : (b : Bool) → ltb k from ≡ b → due (get_or held k d).message ≡ false
    by true e = before k d (ltb-true k from e)
    by false e =
        let inside = first.within in
        let low : from ≤ k = grind (arith, nat_tests, e) in
        not_due due held only k d (omega (arith, lt, inside)) (first.before k d low lt)

-- what a test of the one at a place says
pub tested : (due : Message → Bool) (given held : List Held) (i : ℕ) (r b : Bool) → ((d : Held) → r ≡ due (get_or given i d).message) → given ≡ held → r ≡ b
    → (d : Held) → due (get_or held i d).message ≡ b
tested due given held i r b says same is d = sym (says d ∙ ap (λ (hs : List Held). due (get_or hs i d).message) same) ∙ is

pub none_more : (due : Message → Bool) (held : List Held) (from i : ℕ) → only_woken_due due held ≡ true → NoneBefore due held from → Some i ≡ woken_from from held
    → ((d : Held) → due (get_or held i d).message ≡ false) → NoneBefore due held (i + 1)
none_more due held from i only before found it k d lt = by (ltb k i) refl
  where
    first : IsFirstWoken held from i
    first = first_woken held from i found

    by : (b : Bool) → ltb k i ≡ b → due (get_or held k d).message ≡ false
    by true e = none_up_to due held from i only before first k d (ltb-true k i e)
    by false e =
        let same : i ≡ k = grind (arith, nat_tests, e, lt) in
        ap (λ m. due (get_or held m d).message) (sym same) ∙ it d

pub due_found : (due : Message → Bool) (held : List Held) (from i : ℕ) → only_woken_due due held ≡ true → NoneBefore due held from → Some i ≡ woken_from from held
    → ((d : Held) → due (get_or held i d).message ≡ true) → Some i ≡ due_at due held
due_found due [] from i only before found it = absurd (let lt = (first_woken [] from i found).within in omega (arith, lt))
due_found due (h ∷ held) from i only before found it =
    let p = λ (x : Held). due x.message in
    let first = first_woken (h ∷ held) from i found in
    let inside = first.within in
    let at : position_or_len p (h ∷ held) ≡ i = position_or_len_is p (h ∷ held) i h (omega (arith, inside)) (λ k lt. none_up_to due (h ∷ held) from i only before first k h lt) (λ lt. it h) in
    let yes : ltb (position_or_len p (h ∷ held)) (length (h ∷ held)) ≡ true = grind (arith, nat_tests, at, inside) in
    sym (ap (λ b. cond b (Some (position_or_len p (h ∷ held))) None) yes ∙ ap (λ (k : ℕ). Some k) at)

pub due_missing : (due : Message → Bool) (held : List Held) (from : ℕ) → only_woken_due due held ≡ true → NoneBefore due held from → None ≡ woken_from from held → None ≡ due_at due held
due_missing due [] from only before none = refl
due_missing due (h ∷ held) from only before none =
    let p = λ (x : Held). due x.message in
    let at : position_or_len p (h ∷ held) ≡ length (h ∷ held) = position_or_len_is p (h ∷ held) (length (h ∷ held)) h (omega arith) (λ k lt. by k lt (ltb k from) refl) (λ lt. absurd (omega (arith, lt))) in
    let no : ltb (position_or_len p (h ∷ held)) (length (h ∷ held)) ≡ false = grind (arith, nat_tests, at) in
    sym (ap (λ b. cond b (Some (position_or_len p (h ∷ held))) None) no)
  where
    by : (k : ℕ) → k < length (h ∷ held) → (b : Bool) → ltb k from ≡ b → due (get_or (h ∷ held) k h).message ≡ false
    by k lt true e = before k h (ltb-true k from e)
    by k lt false e = not_due due (h ∷ held) only k h lt (none_woken (h ∷ held) from none k h (grind (arith, nat_tests, e)) lt)
