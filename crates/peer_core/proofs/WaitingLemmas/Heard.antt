-- Those that wait for what has come are woken one by one, or wait for what else they miss.
use Rattle.std.proofs.Common.{◌≡◌, ℕ, ◌+◌, ◌<◌, ◌≤◌, ⊎_elim, Bool, true, false, not, cond, ◌&&◌, List, [], ◌∷◌, length, take, get_or, Option, None, Some, refl, ap, sym, ◌∙◌, arith}
use Rattle.std.specs.Prelude.{is_none, option_map, option_and_then, slice_get, slice_set}
use Rattle.std.specs.List.{list_all, list_any}
use Rattle.std.proofs.lemmas.Bool.{and_parts, and_from, or_parts, or_from, not-true}
use Rattle.std.proofs.lemmas.List.{take_more_set}
use Rattle.std.proofs.lemmas.List.Folds.{list_all-append}
use Rattle.std.proofs.lemmas.Option.{slice_get-map, slice_get_cases}
use Rattle.edit_message.specs.declared.message.Message.{Message}
use Rattle.hold_back.specs.declared.held.Held.{Held}
use Rattle.hold_back.specs.declared.need.Need.{Need}
use Rattle.hold_back.specs.Need.{need_for, need_eq}
use Rattle.hold_back.specs.Hold.{messages_of, waits_for, waiting_from, needing_at, woken_if, woken_by}
use Rattle.hold_back.proofs.Holds.{messages_needing}
use Rattle.peer_tables.specs.Derived.{missing_in}
use Rattle.peer_core.specs.Waiting.{has_need, is_unmet, is_later, waits_rightly, wait_rightly, waits_if_missing, wait_if_missing, need_in, heard_at}
use Rattle.peer_core.proofs.WaitingLemmas.Rightly.{all_at, all_set, all_mapped, need_there}
use Rattle.peer_core.proofs.WaitingLemmas.Woken.{before_first, where_none, unmet_other}

-- ---- a test of each, where the one at place i is given another need

all_needing : (p : Held → Bool) (held : List Held) (i : ℕ) (need : Option Need) → list_all p held ≡ true
    → ((h : Held) → slice_get held i ≡ Some h → p (record { message = h.message; need = need }) ≡ true) → list_all p (needing_at i need held) ≡ true
all_needing p held i need all new = elim (slice_get held i) as (λ x. slice_get held i ≡ x
    → list_all p (elim x [ Some h ↦ slice_set held i (record { message = h.message; need = need }) | None ↦ held ]) ≡ true) [
      | Some h ↦ λ at. all_set p held i (record { message = h.message; need = need }) all (new h at)
      | None ↦ λ none. all
    ] refl

all_through : (p : Held → Bool) (held : List Held) (i : ℕ) (need : Option Need) → i < length held → list_all p (take i held) ≡ true
    → ((h : Held) → slice_get held i ≡ Some h → p (record { message = h.message; need = need }) ≡ true) → list_all p (take (i + 1) (needing_at i need held)) ≡ true
all_through p held i need within all new = elim (slice_get held i) as (λ x. slice_get held i ≡ x
    → list_all p (take (i + 1) (elim x [ Some h ↦ slice_set held i (record { message = h.message; need = need }) | None ↦ held ])) ≡ true) [
      | Some h ↦ λ at.
          let one : Held = record { message = h.message; need = need } in
          ap (list_all p) (take_more_set held i one within) ∙ list_all-append p (take i held) (one ∷ [])
          ∙ and_from (list_all p (take i held)) (p one && true) all (and_from (p one) true (new h at) refl)
      | None ↦ λ none. absurd (⊎_elim
          (λ (here : (x : Held) × (i < length held) × (slice_get held i ≡ Some x) × (get_or held i x ≡ x)). let at = sym none ∙ here.2 in cc)
          (λ (past : (length held ≤ i) × (slice_get held i ≡ None)). omega (arith, within, past.0))
          (slice_get_cases held i).1)
    ] refl

-- ---- the need for what it misses

message_there : (held : List Held) (i : ℕ) (h : Held) → slice_get held i ≡ Some h → slice_get (messages_of held) i ≡ Some h.message
message_there held i h at = slice_get-map (λ (x : Held). x.message) held i ∙ ap (option_map (λ (x : Held). x.message)) at

need_is : (J : List Message) (held : List Held) (i : ℕ) (h : Held) → slice_get held i ≡ Some h → need_in J i held ≡ option_map (need_for h.message) (missing_in J h.message)
need_is J held i h at = ap (option_and_then (λ m. option_map (need_for m) (missing_in J m))) (message_there held i h at)

later_there : (J : List Message) (held : List Held) (i : ℕ) (h : Held) → list_all (is_later J) (messages_of held) ≡ true → slice_get held i ≡ Some h → is_later J h.message ≡ true
later_there J held i h later at = all_at (is_later J) (messages_of held) i h.message later (message_there held i h at)

rightly : (J : List Message) (m : Message) (need : Option Need) → is_later J m ≡ true → need ≡ option_map (need_for m) (missing_in J m)
    → waits_rightly J (record { message = m; need = need }) ≡ true
rightly J m None later is = refl
rightly J m (Some need) later is = need_there J m need (missing_in J m) refl later is

right_or_woken : (J : List Message) (come : Need) (m : Message) (need : Option Need) → waits_rightly J (record { message = m; need = need }) ≡ true
    → waits_rightly J (woken_if come (record { message = m; need = need })) ≡ true
right_or_woken J come m None right = refl
right_or_woken J come m (Some need) right = elim (need_eq need come) as (λ b. waits_rightly J (cond b (record { message = m; need = None }) (record { message = m; need = Some need })) ≡ true) [
  | true ↦ refl
  | false ↦ right
]

none_from : {A B : Type 0} (f : A → B) (o : Option A) → None ≡ option_map f o → is_none o ≡ true
none_from f None h = refl
none_from f (Some x) h = absurd (cc)

if_missing : (J : List Message) (m : Message) (need : Option Need) → need ≡ option_map (need_for m) (missing_in J m)
    → waits_if_missing J (record { message = m; need = need }) ≡ true
if_missing J m None is = none_from (need_for m) (missing_in J m) is
if_missing J m (Some need) is = refl

-- it doesn't wait for what has come
abbrev pub apart : Need → Held → Bool
apart come h = not (waits_for come h)

for_another : (J : List Message) (come : Need) (m : Message) (need : Option Need) → is_later J m ≡ true → is_unmet J come ≡ false → need ≡ option_map (need_for m) (missing_in J m)
    → apart come (record { message = m; need = need }) ≡ true
for_another J come m None later met is = refl
for_another J come m (Some need) later met is =
    let unmet : is_unmet J need ≡ true = (and_parts (has_need m need) (is_unmet J need) (need_there J m need (missing_in J m) refl later is)).1 in
    ap not (unmet_other J need come met unmet)

-- ---- one is heard

pub heard_messages : (J : List Message) (i : ℕ) (held : List Held) → messages_of (heard_at J i held) ≡ messages_of held
heard_messages J i held = messages_needing i (need_in J i held) held

pub heard_waiting : (J : List Message) (come : Need) (i : ℕ) (held : List Held) → list_all (is_later J) (messages_of held) ≡ true → wait_rightly J (woken_by come held) ≡ true
    → wait_rightly J (woken_by come (heard_at J i held)) ≡ true
heard_waiting J come i held later right =
    all_mapped (waits_rightly J) (woken_if come) (heard_at J i held)
    ∙ all_needing (λ x. waits_rightly J (woken_if come x)) held i (need_in J i held) (sym (all_mapped (waits_rightly J) (woken_if come) held) ∙ right)
    (λ h at. right_or_woken J come h.message (need_in J i held) (rightly J h.message (need_in J i held) (later_there J held i h later at) (need_is J held i h at)))

pub heard_missing : (J : List Message) (i : ℕ) (held : List Held) → wait_if_missing J held ≡ true → wait_if_missing J (heard_at J i held) ≡ true
heard_missing J i held waits = all_needing (waits_if_missing J) held i (need_in J i held) waits (λ h at. if_missing J h.message (need_in J i held) (need_is J held i h at))

pub heard_apart : (J : List Message) (come : Need) (i : ℕ) (held : List Held) → i < length held → list_all (is_later J) (messages_of held) ≡ true → is_unmet J come ≡ false
    → list_all (apart come) (take i held) ≡ true → list_all (apart come) (take (i + 1) (heard_at J i held)) ≡ true
heard_apart J come i held within later met before =
    all_through (apart come) held i (need_in J i held) within before
    (λ h at. for_another J come h.message (need_in J i held) (later_there J held i h later at) met (need_is J held i h at))

-- ---- up to the next that waits for what has come

pub apart_before : (come : Need) (from i : ℕ) (held : List Held) → list_all (apart come) (take from held) ≡ true → Some i ≡ waiting_from come from held
    → list_all (apart come) (take i held) ≡ true
apart_before come from i held h is = before_first (waits_for come) (apart come) (λ x e. ap not e) from i held h is

none_apart : (come : Need) (held : List Held) → list_all (apart come) held ≡ true → list_any (waits_for come) held ≡ false
none_apart come [] all = refl
none_apart come (h ∷ held) all =
    let both = and_parts (apart come h) (list_all (apart come) held) all in
    or_from (waits_for come h) (list_any (waits_for come) held) (not-true (waits_for come h) both.0) (none_apart come held both.1)

-- and none where there is no other
pub none_left : (come : Need) (from : ℕ) (held : List Held) → list_all (apart come) (take from held) ≡ true → waiting_from come from held ≡ None
    → list_any (waits_for come) held ≡ false
none_left come from held h is = none_apart come held (where_none (waits_for come) (apart come) (λ x e. ap not e) from held h is)

-- where none waits under the need, none is woken
pub none_wakes : (need : Need) (held : List Held) → list_any (waits_for need) held ≡ false → woken_by need held ≡ held
none_wakes need [] none = refl
none_wakes need (h ∷ held) none =
    let parts = or_parts (waits_for need h) (list_any (waits_for need) held) none in
    ap (λ b. cond b (record { message = h.message; need = None }) h ∷ woken_by need held) parts.0 ∙ ap (λ hs. h ∷ hs) (none_wakes need held parts.1)
