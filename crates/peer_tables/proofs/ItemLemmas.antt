-- The messages of a journal are found by their keys, among the states and in the log.
use Rattle.std.proofs.Common.{◌≡◌, ℕ, zero, suc, ◌+◌, ◌-◌, ◌==◌, ⊎_elim, Bool, true, false, true≢false, not, ◌||◌, ◌&&◌, cond, List, [], ◌∷◌, ◌++◌, length, take, None, Some, refl, ap, sym, subst, ◌∙◌, arith, length-append}
use Rattle.std.specs.Prelude.{map, slice_get, find, position, option_map, is_none, nat_lt, nat_le, IsTrue}
use Rattle.std.specs.List.{list_any, list_all, position_or_len}
use Rattle.std.specs.declared.option.Option.{Option}
use Rattle.std.proofs.lemmas.Bool.{or_parts, and_parts, cases_Bool}
use Rattle.std.proofs.lemmas.Bool.Decides.{nat_tests}
use Rattle.std.proofs.lemmas.List.{take-map, length-map, map-append}
use Rattle.std.proofs.lemmas.List.Folds.{list_any-append}
use Rattle.std.proofs.lemmas.Option.{same_Some}
use Rattle.element_name.specs.declared.limits.TheConstants.{MAX_VERSION}
use Rattle.element_name.specs.Name.{Name, name_eq}
use Rattle.element_name.specs.Growing.{EachFrom}
use Rattle.coop_request.specs.Request.{Request, request_fault}
use Rattle.coop_request.specs.History.{request_of}
use Rattle.policy_book.specs.Lists.{is_name}
use Rattle.policy_book.specs.Entry.{Entry, is_entry_version}
use Rattle.policy_book.specs.Operation.{is_operation}
use Rattle.edit_message.specs.declared.message.Message.{Message}
use Rattle.edit_message.specs.declared.message.Message.TheVariants.{Coop, Admin}
use Rattle.edit_message.specs.declared.message.Key.{Key}
use Rattle.edit_message.specs.declared.message.Key.TheVariants as keys
use Rattle.edit_message.specs.Formed.{is_message, is_edit}
use Rattle.edit_message.specs.Message.{key_of, key_eq, find_key, requests_of, entries_of}
use Rattle.admin_log.specs.Log.{FollowsLog, IsLog, entry_at}
use Rattle.request_state.specs.declared.kept.Kept.{Kept}
use Rattle.request_state.specs.Table.{kept_request}
use Rattle.tomb_seq.specs.declared.slot.Slot.{Slot}
use Rattle.peer_tables.specs.PackedKey.{is_packable}
use Rattle.peer_tables.specs.Items.{message_by, packed_eq, AreKeysOf}
use Rattle.peer_tables.specs.Kept.{IsKeptOf, kept_in}
use Rattle.peer_tables.specs.Journal.{FollowsJournal, IsJournal, has_key_of}
use Rattle.peer_tables.proofs.JournalLemmas.{log_law, formed_push, formed_cut}
use Rattle.peer_tables.proofs.PackedKeyLemmas.{own_key, same_test, same_key}

-- ---- the keys alone

-- the key of a well-formed message can be packed
pub packable_key : (m : Message) → is_message m ≡ true → is_packable (key_of m) ≡ true
packable_key (Coop q) formed = (and_parts (is_name q.id) (is_edit q.edit && is_none (request_fault q)) formed).0
packable_key (Admin e) formed =
    let version = (and_parts (is_entry_version e.version) (is_operation e.op) formed).0 in
    let few = (and_parts (nat_lt 0 e.version) (nat_le e.version MAX_VERSION) version).1 in
    grind (arith, nat_tests, few)

-- so a packed key compares to it as keys do
same_message : (key : Key) (m : Message) → is_packable key ≡ true → is_message m ≡ true → packed_eq key (key_of m) ≡ key_eq (key_of m) key
same_message key m there formed = same_test key (key_of m) there (packable_key m formed)

-- and no message has a key that can't be packed
other_key : (key : Key) (m : Message) → is_packable key ≡ false → is_message m ≡ true → key_eq (key_of m) key ≡ false
other_key key m none formed = ⊎_elim
    (λ (t : key_eq (key_of m) key ≡ true). absurd (true≢false (sym (packable_key m formed) ∙ ap is_packable (same_key (key_of m) key t) ∙ none)))
    (λ (f : key_eq (key_of m) key ≡ false). f)
    (cases_Bool (key_eq (key_of m) key))

place_keyed : (key : Key) (J : List Message) → is_packable key ≡ true → list_all is_message J ≡ true
    → position_or_len (packed_eq key) (map key_of J) ≡ position_or_len (λ m. key_eq (key_of m) key) J
place_keyed key [] there formed = refl
place_keyed key (m ∷ J) there formed =
    let parts = and_parts (is_message m) (list_all is_message J) formed in
    λ i. cond (not (same_message key m there parts.0 i)) (1 + place_keyed key J there parts.1 i) 0

any_keyed : (key : Key) (J : List Message) → is_packable key ≡ true → list_all is_message J ≡ true
    → list_any (packed_eq key) (map key_of J) ≡ list_any (λ m. key_eq (key_of m) key) J
any_keyed key [] there formed = refl
any_keyed key (m ∷ J) there formed =
    let parts = and_parts (is_message m) (list_all is_message J) formed in
    λ i. same_message key m there parts.0 i || any_keyed key J there parts.1 i

none_placed : (key : Key) (J : List Message) → is_packable key ≡ false → list_all is_message J ≡ true → position_or_len (λ m. key_eq (key_of m) key) J ≡ length J
none_placed key [] none formed = refl
none_placed key (m ∷ J) none formed =
    let parts = and_parts (is_message m) (list_all is_message J) formed in
    let one_more : 1 + length J ≡ suc (length J) = omega arith in
    (λ i. cond (not (other_key key m none parts.0 i)) (1 + none_placed key J none parts.1 i) 0) ∙ one_more

-- a message of a key that can't be packed has no number
pub none_numbered : (key : Key) (J : List Message) → is_packable key ≡ false → list_all is_message J ≡ true → position (λ m. key_eq (key_of m) key) J ≡ None
none_numbered key J none formed =
    let place = none_placed key J none formed in
    let past : nat_lt (position_or_len (λ m. key_eq (key_of m) key) J) (length J) ≡ false = grind (arith, nat_tests, place) in
    ap (λ b. cond b (Some (position_or_len (λ m. key_eq (key_of m) key) J)) None) past

-- what is known of keys that are those of messages
module _ (known : List Key) (J : List Message) (are : AreKeysOf known J) where
  -- a key's place is its message's
  pub number_keyed : (key : Key) → is_packable key ≡ true → position (packed_eq key) known ≡ position (λ m. key_eq (key_of m) key) J
  number_keyed key there =
      let same = place_keyed key J there are.formed in
      ap (λ (ks : List Key). position (packed_eq key) ks) are.keys ∙ (λ i. cond (nat_lt (same i) (length-map J key_of i)) (Some (same i)) None)

  -- the key of a new message is none of them
  pub new_keyed : (key : Key) (m : Message) → key ≡ key_of m → is_message m ≡ true → has_key_of J m ≡ false → list_any (packed_eq key) known ≡ false
  new_keyed key m same own new =
      (λ i. list_any (packed_eq (same i)) (are.keys i)) ∙ any_keyed (key_of m) J (packable_key m own) are.formed ∙ new

  -- with one more
  pub keyed_push : (key : Key) (m : Message) (keys : List Key) (K : List Message) → key ≡ key_of m → is_message m ≡ true
      → keys ≡ known ++ key ∷ [] → K ≡ J ++ m ∷ [] → AreKeysOf keys K
  keyed_push key m keys K same own longer more = record {
    keys = longer ∙ (λ i. are.keys i ++ same i ∷ []) ∙ sym (map-append key_of J (m ∷ [])) ∙ sym (ap (λ (M : List Message). map key_of M) more);
    formed = subst (λ (M : List Message). IsTrue (list_all is_message M)) (sym more) (formed_push J m are.formed own);
  }

  -- without the last
  pub keyed_cut : AreKeysOf (take (length known - 1) known) (take (length J - 1) J)
  keyed_cut = record {
    keys = (λ i. take (length (are.keys i) - 1) (are.keys i)) ∙ ap (λ (n : ℕ). take (n - 1) (map key_of J)) (length-map J key_of) ∙ take-map key_of (length J - 1) J;
    formed = formed_cut (length J - 1) J are.formed;
  }

-- ---- by a name, by a version

-- the first item that passes, or what is found behind it
first_or : {X Y : Type 0} (b : Bool) (f : X → Y) (x : X) (found : Option Y) (rest : Option X) → found ≡ option_map f rest
    → cond b (Some (f x)) found ≡ option_map f (cond b (Some x) rest)
first_or true f x found rest same = refl
first_or false f x found rest same = same

pub find_name : (n : Name) (J : List Message) → find_key (keys.Coop n) J ≡ option_map Coop (request_of (requests_of J) n)
find_name n [] = refl
find_name n (Coop q ∷ J) = first_or (name_eq q.id n) Coop q (find_key (keys.Coop n) J) (request_of (requests_of J) n) (find_name n J)
find_name n (Admin e ∷ J) = find_name n J

find_version : (v : ℕ) (J : List Message) → find_key (keys.Admin v) J ≡ option_map Admin (find (λ e. e.version == v) (entries_of J))
find_version v [] = refl
find_version v (Coop q ∷ J) = find_version v J
find_version v (Admin e ∷ J) =
    first_or (e.version == v) Admin e (find_key (keys.Admin v) J) (find (λ d. d.version == v) (entries_of J)) (find_version v J)

-- an entry that has the version, or one behind that has another
is_version : (v n : ℕ) (e : Entry) (rest : Option Entry) → v ≡ n → cond (v == n) (Some e) rest ≡ Some e
is_version v n e rest same = let t : (v == n) ≡ true = grind (arith, nat_tests, same) in ap (λ b. cond b (Some e) rest) t

isnt_version : (v n k : ℕ) (e : Entry) (rest : Option Entry) → v + suc k ≡ n → cond (v == n) (Some e) rest ≡ rest
isnt_version v n k e rest above = let f : (v == n) ≡ false = grind (arith, nat_tests, above) in ap (λ b. cond b (Some e) rest) f

-- the entries behind others are numbered from those
numbered_from : (M L : List Entry) (i : ℕ) → EachFrom FollowsLog M L → find (λ e. e.version == length M + 1 + i) L ≡ slice_get L i
numbered_from M [] i each = refl
numbered_from M (e ∷ L) zero each =
    let numbered = each.0.numbered in
    is_version e.version (length M + 1 + 0) e (find (λ d. d.version == length M + 1 + 0) L) (omega (arith, numbered))
numbered_from M (e ∷ L) (suc i) each =
    let numbered = each.0.numbered in
    let size = length-append M (e ∷ []) in
    let v : length M + 1 + suc i ≡ length (M ++ e ∷ []) + 1 + i = omega (arith, size) in
    isnt_version e.version (length M + 1 + suc i) i e (find (λ d. d.version == length M + 1 + suc i) L) (omega (arith, numbered))
    ∙ ap (λ (k : ℕ). find (λ d. d.version == k) L) v ∙ numbered_from (M ++ e ∷ []) L i each.1

none_at_zero : (M L : List Entry) → EachFrom FollowsLog M L → find (λ e. e.version == 0) L ≡ None
none_at_zero M [] each = refl
none_at_zero M (e ∷ L) each =
    let numbered = each.0.numbered in
    let f : (e.version == 0) ≡ false = grind (arith, nat_tests, numbered) in
    ap (λ b. cond b (Some e) (find (λ d. d.version == 0) L)) f ∙ none_at_zero (M ++ e ∷ []) L each.1

entry_found : (L : List Entry) (v : ℕ) → IsLog L → find (λ e. e.version == v) L ≡ entry_at L v
entry_found L zero each = none_at_zero [] L each
entry_found L (suc v) each =
    let k : suc v ≡ 0 + 1 + v = omega arith in
    ap (λ (n : ℕ). find (λ e. e.version == n) L) k ∙ numbered_from [] L v each

-- ---- by its own key

-- the key of an item is none of those before
new_at : (K J : List Message) (i : ℕ) (m : Message) → EachFrom FollowsJournal K J → slice_get J i ≡ Some m → has_key_of K m ≡ false
new_at K [] i m each at = absurd (cc)
new_at K (x ∷ J) zero m each at = subst (λ (y : Message). has_key_of K y ≡ false) (same_Some x m at) each.0.new
new_at K (x ∷ J) (suc i) m each at =
    (or_parts (has_key_of K m) (has_key_of (x ∷ []) m)
    (sym (list_any-append (λ k. key_eq (key_of k) (key_of m)) K (x ∷ [])) ∙ new_at (K ++ x ∷ []) J i m each.1 at)).0

-- so it is found by it
found_at : (K J : List Message) (i : ℕ) (m : Message) → EachFrom FollowsJournal K J → slice_get J i ≡ Some m → find_key (key_of m) J ≡ Some m
found_at K [] i m each at = absurd (cc)
found_at K (x ∷ J) zero m each at =
    let same = same_Some x m at in
    let t : key_eq (key_of x) (key_of m) ≡ true = ap (λ (y : Message). key_eq (key_of x) (key_of y)) (sym same) ∙ own_key (key_of x) in
    ap (λ b. cond b (Some x) (find_key (key_of m) J)) t ∙ at
found_at K (x ∷ J) (suc i) m each at =
    let other = or_parts (has_key_of K m) (has_key_of (x ∷ []) m)
    (sym (list_any-append (λ k. key_eq (key_of k) (key_of m)) K (x ∷ [])) ∙ new_at (K ++ x ∷ []) J i m each.1 at) in
    let f : key_eq (key_of x) (key_of m) ≡ false = (or_parts (key_eq (key_of x) (key_of m)) false other.1).0 in
    ap (λ b. cond b (Some x) (find_key (key_of m) J)) f ∙ found_at (K ++ x ∷ []) J i m each.1 at

pub found_again : (J : List Message) (i : ℕ) (key : Key) → IsJournal J → option_map key_of (slice_get J i) ≡ Some key → find_key key J ≡ slice_get J i
found_again J i key each is = by (slice_get J i) refl is
  where
    by : (o : Option Message) → slice_get J i ≡ o → option_map key_of o ≡ Some key → find_key key J ≡ o
    by None at h = absurd (cc)
    by (Some m) at h = let same : key_of m ≡ key = cc in ap (λ (k : Key). find_key k J) (sym same) ∙ found_at [] J i m each at

-- ---- by the states and the log

module _ (J : List Message) (log : List Entry) (slots : List Slot) (table : List Kept) (stamp count : ℕ)
    (kept : IsKeptOf J log slots table stamp count) where
  read_request : (n : Name) → kept_request table n ≡ request_of (requests_of J) n
  read_request n = ap (option_map (λ (k : Kept). k.request)) (kept.kept.states n) ∙ by (request_of (requests_of J) n)
    where
      by : (o : Option Request) → option_map (λ (k : Kept). k.request) (option_map (kept_in (requests_of J) log) o) ≡ o
      by None = refl
      by (Some q) = refl

  pub read_message : (key : Key) → message_by table log key ≡ find_key key J
  read_message (keys.Coop n) = ap (option_map Coop) (read_request n) ∙ sym (find_name n J)
  read_message (keys.Admin v) =
      ap (λ (L : List Entry). option_map Admin (entry_at L v)) kept.entries
      ∙ ap (option_map Admin) (sym (entry_found (entries_of J) v (log_law J kept.journal))) ∙ sym (find_version v J)
