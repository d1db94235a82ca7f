-- The messages that came before what they need, in order of arrival.
use Rattle.std.specs.Prelude.{◌≡◌, ℕ, ◌+◌, ◌≤◌, Bool, false, not, ◌||◌, List, Option, None, Some, nat_le, map, length, drop, find, position}
use Rattle.std.specs.Prelude.{slice_get, slice_set, option_map, is_none, if◌then◌else◌}
use Rattle.std.specs.List.{list_any, list_all}
use Rattle.edit_message.specs.Message.{key_of, key_eq}
use Rattle.edit_message.specs.declared.message.Key.{Key}
use Rattle.edit_message.specs.declared.message.Message.{Message}
use Rattle.hold_back.specs.declared.hold.TheConstants.{MAX_HELD}
use Rattle.element_name.specs.Cases.{when}
use Rattle.element_name.specs.Growing.{EachAfter}
use Rattle.hold_back.specs.declared.fault.HoldFault.{HoldFault}
use Rattle.hold_back.specs.declared.fault.HoldFault.TheVariants.{Full}
use Rattle.hold_back.specs.declared.held.Held.{Held}
use Rattle.hold_back.specs.declared.need.Need.{Need}
use Rattle.hold_back.specs.Need.{need_eq}

-- it waits under the need
abbrev pub waits_for : Need → Held → Bool
waits_for need h = elim h.need [
  | Some own ↦ need_eq own need
  | None ↦ false
]

-- it waits no more
abbrev pub is_woken : Held → Bool
is_woken h = is_none h.need

-- the message in the hold that has this key
abbrev pub find_held : Key → List Held → Option Message
find_held key held = option_map (λ h. h.message) (find (λ h. key_eq (key_of h.message) key) held)

-- woken, if it waits under the need
abbrev pub woken_if : Need → Held → Held
woken_if need h = if waits_for need h then (record { message = h.message; need = None }) else h

-- those that wait under the need are woken
abbrev pub woken_by : Need → List Held → List Held
woken_by need held = map (woken_if need) held

-- the one at place i waits under the need, or no more where there is none
abbrev pub needing_at : ℕ → Option Need → List Held → List Held
needing_at i need held = elim (slice_get held i) [
  | Some h ↦ slice_set held i (record { message = h.message; need = need })
  | None ↦ held
]

-- the one at place i waits no more
abbrev pub woken_at : ℕ → List Held → List Held
woken_at i held = needing_at i None held

-- the one at place i waits under the need
abbrev pub waiting_at : ℕ → Need → List Held → List Held
waiting_at i need held = needing_at i (Some need) held

-- the least place at or above `from` where one is woken
abbrev pub woken_from : ℕ → List Held → Option ℕ
woken_from from held = option_map (λ k. from + k) (position is_woken (drop from held))

-- the least place at or above `from` where one waits under the need
abbrev pub waiting_from : Need → ℕ → List Held → Option ℕ
waiting_from need from held = option_map (λ k. from + k) (position (waits_for need) (drop from held))

-- the least place where one is due
abbrev pub due_at : (Message → Bool) → List Held → Option ℕ
due_at is_due held = position (λ h. is_due h.message) held

-- none that waits is due
abbrev pub only_woken_due : (Message → Bool) → List Held → Bool
only_woken_due is_due held = list_all (λ h. is_woken h || not (is_due h.message)) held

-- the messages, in order of arrival
abbrev pub messages_of : List Held → List Message
messages_of held = map (λ h. h.message) held

-- the keys of the messages, in order of arrival
abbrev pub keys_of : List Held → List Key
keys_of held = map key_of (messages_of held)

-- why no more may be held, want of memory aside
abbrev pub keep_fault : List Held → Option HoldFault
keep_fault held = when (nat_le MAX_HELD (length held)) Full

-- the key is that of none before it
abbrev pub IsNewKey : List Key → Key → Type 0
IsNewKey keys key = list_any (λ k. key_eq k key) keys ≡ false

-- not more than may be held, and no key twice
pub record IsHold (held : List Held) : Type 0 where
  pub few : length held ≤ MAX_HELD
  pub distinct : EachAfter IsNewKey (keys_of held)
