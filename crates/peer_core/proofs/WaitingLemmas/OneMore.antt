-- Held messages still wait rightly once the journal has one more.
use Rattle.std.proofs.Common.{◌≡◌, ℕ, ◌+◌, ◌<◌, ◌≤◌, ⊎_elim, true, false, not, cond, ◌||◌, List, [], ◌∷◌, ◌++◌, length, None, Some, refl, ap, sym, subst, ◌∙◌, arith, append_assoc, length-append, drop, length-drop}
use Rattle.std.specs.Prelude.{nat_le, nat_lt, nat_eq, map, option_map, position}
use Rattle.std.specs.declared.option.Option.{Option}
use Rattle.std.specs.Option.{option_map_or}
use Rattle.std.specs.List.{list_any, list_all}
use Rattle.std.proofs.lemmas.Bool.{and_parts, and_from, or_parts, or_from, or_left, or_right, cases_Bool, cases_lt, not-true, not_from_false, ltb-true, lt-ltb}
use Rattle.std.proofs.lemmas.Bool.Decides.{nat_tests}
use Rattle.std.proofs.lemmas.List.{append-nil, map-append, length-map}
use Rattle.std.proofs.lemmas.List.Folds.{list_any-append}
use Rattle.std.proofs.lemmas.List.Quantifiers.{position-Some}
use Rattle.std.proofs.lemmas.Option.{same_Some}
use Rattle.element_name.specs.Cases.{when}
use Rattle.element_name.specs.Name.{Name, name_eq, has_name}
use Rattle.element_name.specs.declared.limits.TheConstants.{MAX_VERSION}
use Rattle.element_name.specs.Growing.{EachFrom, EachAfter}
use Rattle.coop_request.specs.declared.edit.Edit.{Edit}
use Rattle.coop_request.specs.declared.edit.Edit.TheVariants.{Insert, Delete, Update}
use Rattle.coop_request.specs.Edit.{is_insert}
use Rattle.coop_request.specs.Request.{Request}
use Rattle.coop_request.specs.History.{elements_of}
use Rattle.policy_book.specs.Entry.{Entry, is_entry_version}
use Rattle.policy_book.specs.Operation.{is_operation}
use Rattle.edit_message.specs.declared.message.Key.{Key}
use Rattle.edit_message.specs.declared.message.Message.{Message}
use Rattle.edit_message.specs.declared.message.Message.TheVariants.{Coop, Admin}
use Rattle.edit_message.specs.Formed.{is_message}
use Rattle.edit_message.specs.Message.{key_of, key_eq, requests_of, entries_of}
use Rattle.admin_log.specs.Log.{FollowsLog}
use Rattle.hold_back.specs.declared.held.Held.{Held}
use Rattle.hold_back.specs.declared.need.Need.{Need}
use Rattle.hold_back.specs.declared.need.Need.TheVariants.{Element, Front}
use Rattle.hold_back.specs.Need.{need_eq}
use Rattle.hold_back.specs.Hold.{messages_of, waits_for, woken_if, woken_by, waiting_from, IsNewKey}
use Rattle.peer_tables.specs.Journal.{has_key_of, FollowsJournal, IsJournal}
use Rattle.peer_core.specs.Waiting.{is_unmet, has_need, is_later, waits_rightly, wait_rightly, woken_after}
use Rattle.peer_tables.proofs.JournalLemmas.{requests_request, requests_entry, entries_request, entries_entry, elements_append, log_law, entry_here}

-- ---- one more message in the journal

woken_one : (J K : List Message) (come : Need) (still : (need : Need) → need_eq need come ≡ false → is_unmet J need ≡ true → is_unmet K need ≡ true)
    (m : Message) (need : Option Need) → waits_rightly J (record { message = m; need = need }) ≡ true
    → waits_rightly K (woken_if come (record { message = m; need = need })) ≡ true
woken_one J K come still m None h = refl
woken_one J K come still m (Some need) h = elim (need_eq need come) as (λ b. need_eq need come ≡ b
    → waits_rightly K (cond b (record { message = m; need = None }) (record { message = m; need = Some need })) ≡ true) [
      | true ↦ λ t. refl
      | false ↦ λ f.
          let both = and_parts (has_need m need) (is_unmet J need) h in
          and_from (has_need m need) (is_unmet K need) both.0 (still need f both.1)
    ] refl

-- with those woken that wait for what came
pub woken_right : (J K : List Message) (come : Need) → ((need : Need) → need_eq need come ≡ false → is_unmet J need ≡ true → is_unmet K need ≡ true)
    → (held : List Held) → wait_rightly J held ≡ true → wait_rightly K (woken_by come held) ≡ true
woken_right J K come still [] h = refl
woken_right J K come still (x ∷ held) h =
    let both = and_parts (waits_rightly J x) (wait_rightly J held) h in
    and_from (waits_rightly K (woken_if come x)) (wait_rightly K (woken_by come held)) (woken_one J K come still x.message x.need both.0) (woken_right J K come still held both.1)

one_right : (J K : List Message) (still : (need : Need) → is_unmet J need ≡ true → is_unmet K need ≡ true)
    (m : Message) (need : Option Need) → waits_rightly J (record { message = m; need = need }) ≡ true → waits_rightly K (record { message = m; need = need }) ≡ true
one_right J K still m None h = refl
one_right J K still m (Some need) h =
    let both = and_parts (has_need m need) (is_unmet J need) h in
    and_from (has_need m need) (is_unmet K need) both.0 (still need both.1)

-- where nothing came that any waits for
pub all_right : (J K : List Message) → ((need : Need) → is_unmet J need ≡ true → is_unmet K need ≡ true)
    → (held : List Held) → wait_rightly J held ≡ true → wait_rightly K held ≡ true
all_right J K still [] h = refl
all_right J K still (x ∷ held) h =
    let both = and_parts (waits_rightly J x) (wait_rightly J held) h in
    and_from (waits_rightly K x) (wait_rightly K held) (one_right J K still x.message x.need both.0) (all_right J K still held both.1)

-- the element of a request is that of its insert
new_element_only : (id : Name) (version : ℕ) (edit : Edit) (n : Name) → name_eq n id ≡ false → has_name (elements_of (record { id = id; version = version; edit = edit } ∷ [])) n ≡ false
new_element_only id version (Insert after letter) n other = rw other refl
new_element_only id version (Delete target) n other = refl
new_element_only id version (Update target letter) n other = refl

no_new_element : (id : Name) (version : ℕ) (edit : Edit) (n : Name) → is_insert edit ≡ false → has_name (elements_of (record { id = id; version = version; edit = edit } ∷ [])) n ≡ false
no_new_element id version (Insert after letter) n other = absurd (cc)
no_new_element id version (Delete target) n other = refl
no_new_element id version (Update target letter) n other = refl

still_unmet : (J : List Message) (q : Request) (n : Name) → has_name (elements_of (q ∷ [])) n ≡ false → not (has_name (elements_of (requests_of J)) n) ≡ true
    → not (has_name (elements_of (requests_of (J ++ Coop q ∷ []))) n) ≡ true
still_unmet J q n other unmet =
    let names : elements_of (requests_of (J ++ Coop q ∷ [])) ≡ elements_of (requests_of J) ++ elements_of (q ∷ []) =
    ap elements_of (requests_request J q) ∙ elements_append (requests_of J) (q ∷ []) in
    not_from_false (has_name (elements_of (requests_of (J ++ Coop q ∷ []))) n)
    (ap (λ (xs : List Name). has_name xs n) names ∙ list_any-append (name_eq n) (elements_of (requests_of J)) (elements_of (q ∷ []))
    ∙ or_from (has_name (elements_of (requests_of J)) n) (has_name (elements_of (q ∷ [])) n) (not-true (has_name (elements_of (requests_of J)) n) unmet) other)

unmet_request : (J : List Message) (q : Request) (need : Need) → need_eq need (Element q.id) ≡ false → is_unmet J need ≡ true → is_unmet (J ++ Coop q ∷ []) need ≡ true
unmet_request J q (Element n) other unmet = still_unmet J q n (new_element_only q.id q.version q.edit n other) unmet
unmet_request J q (Front v) other unmet = ap (λ (L : List Entry). nat_lt (length L) v) (entries_request J q) ∙ unmet

unmet_edit : (J : List Message) (q : Request) (need : Need) → is_insert q.edit ≡ false → is_unmet J need ≡ true → is_unmet (J ++ Coop q ∷ []) need ≡ true
unmet_edit J q (Element n) other unmet = still_unmet J q n (no_new_element q.id q.version q.edit n other) unmet
unmet_edit J q (Front v) other unmet = ap (λ (L : List Entry). nat_lt (length L) v) (entries_request J q) ∙ unmet

one_later : (f v : ℕ) → nat_eq v (f + 1) ≡ false → nat_lt f v ≡ true → nat_lt (f + 1) v ≡ true
one_later f v other later = grind (arith, nat_tests)

unmet_entry : (J : List Message) (e : Entry) (need : Need) → need_eq need (Front (length (entries_of J) + 1)) ≡ false → is_unmet J need ≡ true → is_unmet (J ++ Admin e ∷ []) need ≡ true
unmet_entry J e (Element n) other unmet = ap (λ (R : List Request). not (has_name (elements_of R) n)) (requests_entry J e) ∙ unmet
unmet_entry J e (Front v) other unmet =
    ap (λ (k : ℕ). nat_lt k v) (ap (λ (L : List Entry). length L) (entries_entry J e) ∙ length-append (entries_of J) (e ∷ [])) ∙ one_later (length (entries_of J)) v other unmet

-- what waits for no new element waits on after the request
pub right_after_insert : (J : List Message) (q : Request) (held : List Held) → wait_rightly J held ≡ true → wait_rightly (J ++ Coop q ∷ []) (woken_by (Element q.id) held) ≡ true
right_after_insert J q held h = woken_right J (J ++ Coop q ∷ []) (Element q.id) (unmet_request J q) held h

pub right_after_edit : (J : List Message) (q : Request) (held : List Held) → is_insert q.edit ≡ false → wait_rightly J held ≡ true → wait_rightly (J ++ Coop q ∷ []) held ≡ true
right_after_edit J q held edit h = all_right J (J ++ Coop q ∷ []) (λ need unmet. unmet_edit J q need edit unmet) held h

pub right_after_entry : (J : List Message) (e : Entry) (held : List Held) → wait_rightly J held ≡ true
    → wait_rightly (J ++ Admin e ∷ []) (woken_by (Front (length (entries_of J) + 1)) held) ≡ true
right_after_entry J e held h = woken_right J (J ++ Admin e ∷ []) (Front (length (entries_of J) + 1)) (unmet_entry J e) held h

-- ---- a new entry is later than the log

numbered_from : (before rest : List Entry) (v : ℕ) → EachFrom FollowsLog before rest → length before < v → v ≤ length before + length rest
    → list_any (λ e. nat_eq e.version v) rest ≡ true
numbered_from before [] v each low high = absurd (omega arith)
numbered_from before (e ∷ rest) v each low high = ⊎_elim
    (λ (t : nat_eq e.version v ≡ true). or_left (nat_eq e.version v) (list_any (λ d. nat_eq d.version v) rest) t)
    (λ (f : nat_eq e.version v ≡ false).
    let number = each.0.numbered in
    let size = length-append before (e ∷ []) in
    let other : nat_eq (length before + 1) v ≡ false = ap (λ (k : ℕ). nat_eq k v) (sym number) ∙ f in
    let more : length before + 1 < v = next_above (length before) v low other in
    or_right (nat_eq e.version v) (list_any (λ d. nat_eq d.version v) rest)
    (numbered_from (before ++ e ∷ []) rest v each.1 (omega (arith, size, more)) (omega (arith, size, high))))
    (cases_Bool (nat_eq e.version v))
  where
    next_above : (f v : ℕ) → f < v → nat_eq (f + 1) v ≡ false → f + 1 < v
    next_above f v low other = grind (arith, nat_tests)

pub entry_known : (J : List Message) (e : Entry) → has_key_of J (Admin e) ≡ list_any (λ d. nat_eq d.version e.version) (entries_of J)
entry_known [] e = refl
entry_known (Coop q ∷ J) e = entry_known J e
entry_known (Admin d ∷ J) e = ap (λ b. nat_eq d.version e.version || b) (entry_known J e)

pub later_one : (J : List Message) (m : Message) → IsJournal J → has_key_of J m ≡ false → is_message m ≡ true → is_later J m ≡ true
later_one J (Coop q) each new formed = refl
later_one J (Admin e) each new formed = ⊎_elim
    (λ (later : length (entries_of J) < e.version). lt-ltb (length (entries_of J)) e.version later)
    (λ (old : e.version ≤ length (entries_of J)).
    let version = (and_parts (is_entry_version e.version) (is_operation e.op) formed).0 in
    let positive = ltb-true 0 e.version (and_parts (nat_lt 0 e.version) (nat_le e.version MAX_VERSION) version).0 in
    let there = numbered_from [] (entries_of J) e.version (log_law J each) positive (omega (arith, old)) in
    absurd (let e = sym there ∙ sym (entry_known J e) ∙ new in cc))
    (cases_lt (length (entries_of J)) e.version)

pub any_map : (J : List Message) (m : Message) → list_any (λ k. key_eq k (key_of m)) (map key_of J) ≡ has_key_of J m
any_map [] m = refl
any_map (k ∷ J) m = ap (λ b. key_eq (key_of k) (key_of m) || b) (any_map J m)

module _ {X : Type 0} (P : List X → X → Type 0) where
  pub EachFrom-back : (before xs ys : List X) → EachFrom P before (xs ++ ys) → EachFrom P (before ++ xs) ys
  EachFrom-back before [] ys each = subst (λ (zs : List X). EachFrom P zs ys) (sym (append-nil before)) each
  EachFrom-back before (x ∷ xs) ys each = subst (λ (zs : List X). EachFrom P zs ys) (append_assoc before (x ∷ []) xs) (EachFrom-back (before ++ x ∷ []) xs ys each.1)

later_from : (J : List Message) (keys : List Key) (held : List Message) → IsJournal J → EachFrom IsNewKey (map key_of J ++ keys) (map key_of held)
    → list_all is_message held ≡ true → list_all (is_later J) held ≡ true
later_from J keys [] journal each formed = refl
later_from J keys (m ∷ held) journal each formed =
    let both = and_parts (is_message m) (list_all is_message held) formed in
    let new = or_parts (list_any (λ k. key_eq k (key_of m)) (map key_of J)) (list_any (λ k. key_eq k (key_of m)) keys)
    (sym (list_any-append (λ k. key_eq k (key_of m)) (map key_of J) keys) ∙ each.0) in
    let rest = subst (λ (ks : List Key). EachFrom IsNewKey ks (map key_of held)) (append_assoc (map key_of J) keys (key_of m ∷ [])) each.1 in
    and_from (is_later J m) (list_all (is_later J) held) (later_one J m journal (sym (any_map J m) ∙ new.0) both.0)
    (later_from J (keys ++ key_of m ∷ []) held journal rest both.1)

-- messages whose keys are new to a journal are later than it
pub all_later : (J held : List Message) → IsJournal J → EachAfter IsNewKey (map key_of (J ++ held)) → list_all is_message held ≡ true
    → list_all (is_later J) held ≡ true
all_later J held journal keys formed =
    let each = subst (λ (ks : List Key). EachFrom IsNewKey [] ks) (map-append key_of J held) keys in
    let back = subst (λ (ks : List Key). EachFrom IsNewKey ks (map key_of held)) (sym (append-nil (map key_of J))) (EachFrom-back IsNewKey [] (map key_of J) (map key_of held) each) in
    later_from J [] held journal back formed

-- ---- the place of a message that waits

pub waiting_within : (come : Need) (from : ℕ) (held : List Held) (i : ℕ) → Some i ≡ waiting_from come from held → (from ≤ i) × (i < length held)
waiting_within come from held i there = place (position (waits_for come) (drop from held)) refl there
  where
    place : (o : Option ℕ) → position (waits_for come) (drop from held) ≡ o → Some i ≡ option_map (λ k. from + k) o → (from ≤ i) × (i < length held)
    place None is h = absurd (cc)
    place (Some k) is h =
        let same = same_Some i (from + k) h in
        let below = within k (drop from held) is in
        let size = length-drop from held in
        (omega (arith, same), omega (arith, same, below, size))
      where
        within : (k : ℕ) (xs : List Held) → position (waits_for come) xs ≡ Some k → k < length xs
        within k [] is = absurd (cc)
        within k (x ∷ xs) is = (position-Some (waits_for come) (x ∷ xs) k x is).0

-- as many are held as there are messages
pub same_length : (held others : List Held) → messages_of held ≡ messages_of others → length held ≡ length others
same_length held others same = sym (length-map held (λ h. h.message)) ∙ ap (length {A = Message}) same ∙ length-map others (λ h. h.message)

-- with those woken that wait for what the message brings
pub right_after : (J : List Message) (m : Message) (held : List Held) → FollowsJournal J m → wait_rightly J held ≡ true → wait_rightly (J ++ m ∷ []) (woken_after m held) ≡ true
right_after J (Coop q) held follows h = elim (is_insert q.edit) as (λ b. is_insert q.edit ≡ b
    → wait_rightly (J ++ Coop q ∷ []) (option_map_or (λ need. woken_by need held) (when b (Element q.id)) held) ≡ true) [
      | true ↦ λ t. right_after_insert J q held h
      | false ↦ λ f. right_after_edit J q held f h
    ] refl
right_after J (Admin e) held follows h =
    let number = (entry_here (length (entries_of J)) (elements_of (requests_of J)) e follows.complete).version in
    subst (λ (v : ℕ). wait_rightly (J ++ Admin e ∷ []) (woken_by (Front v) held) ≡ true) (sym number) (right_after_entry J e held h)
