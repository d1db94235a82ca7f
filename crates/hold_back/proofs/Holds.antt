-- Holds as they change: their messages stay, and their keys stay new.
use Rattle.std.proofs.Common.{◌≡◌, ℕ, ◌+◌, ◌<◌, zero, suc, Bool, true, false, not, cond, ◌||◌, ◌&&◌, List, [], ◌∷◌, ◌++◌, None, Some, length, Option}
use Rattle.std.proofs.Common.{remove, refl, sym, ap, subst, ◌∙◌, arith, length-append}
use Rattle.std.specs.Prelude.{map, slice_set, find, option_map, unwrap_or, position, slice_get}
use Rattle.std.specs.List.{list_any, position_from}
use Rattle.std.proofs.lemmas.List.Folds.{list_any-append}
use Rattle.std.proofs.lemmas.List.{length-map}
use Rattle.std.proofs.lemmas.List.Edits.{length-remove}
use Rattle.std.proofs.lemmas.Iterator.Adapters.{position_from-zero}
use Rattle.std.proofs.lemmas.Bool.{or_parts}
use Rattle.element_name.specs.Growing.{EachFrom, EachAfter}
use Rattle.element_name.proofs.EachAfterLemmas.{EachAfter-push}
use Rattle.edit_message.specs.Message.{key_of, key_eq}
use Rattle.edit_message.specs.declared.message.Key.{Key}
use Rattle.edit_message.specs.declared.message.Message.{Message}
use Rattle.hold_back.specs.declared.held.Held.{Held}
use Rattle.hold_back.specs.declared.need.Need.{Need}
use Rattle.hold_back.specs.declared.hold.TheConstants.{MAX_HELD}
use Rattle.hold_back.specs.Hold.{is_woken, waits_for, find_held, woken_if, woken_by, needing_at, woken_at, waiting_at, messages_of, keys_of, due_at, only_woken_due}
use Rattle.hold_back.specs.Hold.{IsNewKey, IsHold}

-- ---- messages

message_woken : (need : Need) (h : Held) → (woken_if need h).message ≡ h.message
message_woken need h = elim (waits_for need h) as (λ b. (cond b (record { message = h.message; need = None }) h).message ≡ h.message) [
  | true ↦ refl
  | false ↦ refl
]

pub messages_woken : (need : Need) (held : List Held) → messages_of (woken_by need held) ≡ messages_of held
messages_woken need [] = refl
messages_woken need (h ∷ held) =
    ap (λ m. m ∷ messages_of (woken_by need held)) (message_woken need h) ∙ ap (λ messages. h.message ∷ messages) (messages_woken need held)

messages_set : (held : List Held) (i : ℕ) (h : Held) → option_map (λ x. x.message) (slice_get held i) ≡ Some h.message
    → messages_of (slice_set held i h) ≡ messages_of held
messages_set [] i h same = refl
messages_set (x ∷ held) zero h same = ap (λ o. unwrap_or o h.message ∷ messages_of held) (sym same)
messages_set (x ∷ held) (suc i) h same = ap (λ messages. x.message ∷ messages) (messages_set held i h same)

pub messages_needing : (i : ℕ) (need : Option Need) (held : List Held) → messages_of (needing_at i need held) ≡ messages_of held
messages_needing i need held = elim (slice_get held i) as (λ x. slice_get held i ≡ x
    → messages_of (elim x [ Some h ↦ slice_set held i (record { message = h.message; need = need }) | None ↦ held ]) ≡ messages_of held) [
      | Some h ↦ λ there. messages_set held i (record { message = h.message; need = need }) (ap (option_map (λ x. x.message)) there)
      | None ↦ λ none. refl
    ] refl

pub messages_waiting : (i : ℕ) (need : Need) (held : List Held) → messages_of (waiting_at i need held) ≡ messages_of held
messages_waiting i need held = messages_needing i (Some need) held

pub messages_woken_at : (i : ℕ) (held : List Held) → messages_of (woken_at i held) ≡ messages_of held
messages_woken_at i held = messages_needing i None held

-- ---- keys

pub new_key : (held : List Held) (key : Key) → find_held key held ≡ None → IsNewKey (keys_of held) key
new_key [] key none = refl
new_key (h ∷ held) key none = elim (key_eq (key_of h.message) key) as (λ b. key_eq (key_of h.message) key ≡ b
    → list_any (λ k. key_eq k key) (key_of h.message ∷ keys_of held) ≡ false) [
      | true ↦ λ same. absurd (cc)
      | false ↦ λ other.
          let found = λ (b : Bool). option_map (λ (x : Held). x.message) (cond b (Some h) (find (λ x. key_eq (key_of x.message) key) held)) in
          ap (λ b. b || list_any (λ k. key_eq k key) (keys_of held)) other ∙ new_key held key (ap found (sym other) ∙ none)
    ] refl

pub keys_push : (held : List Held) (h : Held) → keys_of (held ++ h ∷ []) ≡ keys_of held ++ key_of h.message ∷ []
keys_push [] h = refl
keys_push (x ∷ held) h = ap (λ keys. key_of x.message ∷ keys) (keys_push held h)

pub new_to_more : (keys : List Key) (l k : Key) → IsNewKey (keys ++ l ∷ []) k
    → (list_any (λ m. key_eq m k) keys ≡ false) × (list_any (λ m. key_eq m k) (l ∷ []) ≡ false)
new_to_more keys l k new =
    let joined = list_any-append (λ m. key_eq m k) keys (l ∷ []) in
    or_parts (list_any (λ m. key_eq m k) keys) (list_any (λ m. key_eq m k) (l ∷ [])) (sym joined ∙ new)

-- what is new to a list is new to one with fewer keys
thinner : (fewer more keys : List Key) → ((k : Key) → IsNewKey more k → IsNewKey fewer k) → EachFrom IsNewKey more keys → EachFrom IsNewKey fewer keys
thinner fewer more [] less each = tt
thinner fewer more (key ∷ keys) less each =
    let still = λ (k : Key) (new : IsNewKey (more ++ key ∷ []) k).
    let both = new_to_more more key k new in
    list_any-append (λ m. key_eq m k) fewer (key ∷ [])
    ∙ ap (λ b. b || list_any (λ m. key_eq m k) (key ∷ [])) (less k both.0) ∙ both.1
    in
    (less key each.0, thinner (fewer ++ key ∷ []) (more ++ key ∷ []) keys still each.1)

without_one : (front : List Key) (held : List Held) (i : ℕ) → EachFrom IsNewKey front (keys_of held) → EachFrom IsNewKey front (keys_of (remove held i))
without_one front [] zero each = tt
without_one front [] (suc i) each = tt
without_one front (h ∷ held) zero each =
    thinner front (front ++ key_of h.message ∷ []) (keys_of held) (λ k new. (new_to_more front (key_of h.message) k new).0) each.1
without_one front (h ∷ held) (suc i) each = (each.0, without_one (front ++ key_of h.message ∷ []) held i each.1)

-- ---- holds

pub IsHold-keep : (held : List Held) (h : Held) → IsHold held → find_held (key_of h.message) held ≡ None → length held < MAX_HELD
    → IsHold (held ++ h ∷ [])
IsHold-keep held h hold none room =
    let each = EachAfter-push IsNewKey (keys_of held) (key_of h.message) hold.distinct (new_key held (key_of h.message) none) in
    record {
      few = let n = length-append held (h ∷ []) in omega (arith, n, room);
      distinct = subst (λ (keys : List Key). EachAfter IsNewKey keys) (sym (keys_push held h)) each;
    }

pub IsHold-remove : (held : List Held) (i : ℕ) → IsHold held → i < length held → IsHold (remove held i)
IsHold-remove held i hold within = record {
  few = let n = length-remove held i within in let few = hold.few in omega (arith, n, few);
  distinct = without_one [] held i hold.distinct;
}

-- with the same messages a hold stays one
same_messages : (held others : List Held) → messages_of others ≡ messages_of held → IsHold held → IsHold others
same_messages held others same hold = record {
  few =
      let n = ap (length {A = Message}) same in
      let a = length-map others (λ h. h.message) in
      let b = length-map held (λ h. h.message) in
      let few = hold.few in
      omega (arith, n, a, b, few);
  distinct = subst (λ (keys : List Key). EachAfter IsNewKey keys) (sym (ap (map key_of) same)) hold.distinct;
}

pub IsHold-needing : (held : List Held) (i : ℕ) (need : Option Need) → IsHold held → IsHold (needing_at i need held)
IsHold-needing held i need hold = same_messages held (needing_at i need held) (messages_needing i need held) hold

-- ---- the first that is due

both_true : (a b : Bool) → (a && b) ≡ true → (a ≡ true) × (b ≡ true)
both_true true b h = (refl, h)
both_true false b h = absurd (cc)

-- where what is due is woken, both is what is due
also_woken : (woken due : Bool) → (woken || not due) ≡ true → (woken && due) ≡ due
also_woken true due h = refl
also_woken false true h = absurd (cc)
also_woken false false h = refl

due_from : (due : Message → Bool) (i : ℕ) (held : List Held) → only_woken_due due held ≡ true
    → position_from (λ h. is_woken h && due h.message) i held ≡ position_from (λ h. due h.message) i held
due_from due i [] only = refl
due_from due i (h ∷ held) only =
    let both = both_true (is_woken h || not (due h.message)) (only_woken_due due held) only in
    ap (λ b. cond b (Some i) (position_from (λ x. is_woken x && due x.message) (i + 1) held)) (also_woken (is_woken h) (due h.message) both.0)
    ∙ ap (cond (due h.message) (Some i)) (due_from due (i + 1) held both.1)

-- where none that waits is due, the first woken one that is due is the first that is
pub first_woken_due_is : (due : Message → Bool) (held : List Held) → only_woken_due due held ≡ true
    → position (λ h. is_woken h && due h.message) held ≡ due_at due held
first_woken_due_is due held only =
    position_from-zero (λ h. is_woken h && due h.message) held ∙ due_from due 0 held only ∙ sym (position_from-zero (λ h. due h.message) held)
