-- What is read of a journal's kept parts, and what a new request finds there.
use Rattle.std.proofs.Common.{◌≡◌, ℕ, ◌+◌, ◌≤◌, true, ◌&&◌, ◌||◌, List, [], ◌∷◌, ◌++◌, length, None, Some, refl, ap, subst, ◌∙◌, arith, length-append, append_assoc, ◌==◌}
use Rattle.std.specs.Prelude.{fold, max, nat_le, nat_lt, option_map, is_none}
use Rattle.std.specs.declared.option.Option.{Option}
use Rattle.std.specs.List.{list_all, cons_option}
use Rattle.std.proofs.lemmas.Bool.{and_parts, leb-true}
use Rattle.std.proofs.lemmas.List.{length-map}
use Rattle.policy_book.proofs.Ascending.{length_filter}
use Rattle.std.proofs.lemmas.List.Sorted.{length_permutation}
use Rattle.element_name.specs.Name.{Name, has_name, is_in_range}
use Rattle.element_name.specs.Growing.{EachFrom}
use Rattle.element_name.specs.Tree.{Placed}
use Rattle.element_name.specs.declared.limits.TheConstants.{MAX_STAMP, MAX_VERSION}
use Rattle.coop_request.specs.declared.request.TheConstants.{MAX_REQUESTS}
use Rattle.coop_request.specs.Request.{Request, request_fault}
use Rattle.coop_request.specs.History.{placed_of, elements_of, text_order, request_of, IsHistory}
use Rattle.coop_request.specs.Edit.{placed_by}
use Rattle.edit_message.specs.Formed.{is_edit, is_message}
use Rattle.policy_book.specs.Entry.{is_entry_version, Entry}
use Rattle.policy_book.specs.Operation.{is_operation}
use Rattle.policy_book.specs.Lists.{is_name, is_short}
use Rattle.coop_request.proofs.Histories.{IsTree-placed_of}
use Rattle.edit_message.specs.declared.message.Message.{Message}
use Rattle.edit_message.specs.declared.message.Message.TheVariants.{Coop, Admin}
use Rattle.edit_message.specs.Message.{requests_of, entries_of}
use Rattle.admin_log.specs.Log.{FollowsLog}
use Rattle.request_state.specs.declared.kept.Kept.{Kept}
use Rattle.request_state.specs.Table.{kept_cell, kept_state as table_state}
use Rattle.tomb_seq.specs.declared.slot.Slot.{Slot}
use Rattle.tomb_seq.specs.Slots.{names_in, marked_names as shown_slots}
use Rattle.tomb_seq.proofs.MarkLemmas.{names_by, shown_by}
use Rattle.tomb_seq.proofs.Theorems.{each_law}
use Rattle.peer_tables.specs.Derived.{state_in, cell_in, shown_in, greatest_stamp}
use Rattle.peer_tables.specs.Journal.{IsJournal, IsWithin}
use Rattle.peer_tables.specs.Kept.{IsKeptOf, kept_in, shows_in}
use Rattle.peer_tables.proofs.JournalLemmas.{history_law, log_law}
use Rattle.peer_tables.proofs.KeptLemmas.States.{cells_kept}
use Rattle.peer_tables.proofs.HistoryLemmas.{has_order}

-- ---- limits

request_stamp : (q : Request) → is_message (Coop q) ≡ true → q.id.stamp ≤ MAX_STAMP
request_stamp q formed =
    let named = (and_parts (is_name q.id) (is_edit q.edit && is_none (request_fault q)) formed).0 in
    let ranged = (and_parts (is_in_range q.id.stamp q.id.site) (is_short q.id.site) named).0 in
    leb-true q.id.stamp MAX_STAMP (and_parts (nat_le q.id.stamp MAX_STAMP) (nat_lt 0 q.id.stamp || (q.id.site == 0)) ranged).0

stamps_from : (J : List Message) (stamp : ℕ) → stamp ≤ MAX_STAMP → list_all is_message J ≡ true → fold (λ s (q : Request). max s q.id.stamp) stamp (requests_of J) ≤ MAX_STAMP
stamps_from [] stamp l formed = l
stamps_from (Coop q ∷ J) stamp l formed =
    let both = and_parts (is_message (Coop q)) (list_all is_message J) formed in
    let own = request_stamp q both.0 in
    stamps_from J (max stamp q.id.stamp) (omega (arith, l, own)) both.1
stamps_from (Admin e ∷ J) stamp l formed = stamps_from J stamp l (and_parts (is_message (Admin e)) (list_all is_message J) formed).1

pub stamps_within : (J : List Message) → list_all is_message J ≡ true → greatest_stamp (requests_of J) ≤ MAX_STAMP
stamps_within J formed = stamps_from J 0 (omega arith) formed

entry_version : (e : Entry) → is_message (Admin e) ≡ true → e.version ≤ MAX_VERSION
entry_version e formed =
    let numbered = (and_parts (is_entry_version e.version) (is_operation e.op) formed).0 in
    leb-true e.version MAX_VERSION (and_parts (nat_lt 0 e.version) (nat_le e.version MAX_VERSION) numbered).1

entries_formed : (L : List Entry) (J : List Message) → list_all is_message J ≡ true → length L ≤ MAX_VERSION → EachFrom FollowsLog L (entries_of J) → length (L ++ entries_of J) ≤ MAX_VERSION
entries_formed L [] formed l each = let n = length-append L (entries_of []) in omega (arith, n, l)
entries_formed L (Coop q ∷ J) formed l each = entries_formed L J (and_parts (is_message (Coop q)) (list_all is_message J) formed).1 l each
entries_formed L (Admin e ∷ J) formed l each =
    let both = and_parts (is_message (Admin e)) (list_all is_message J) formed in
    let version = entry_version e both.0 in
    let numbered = each.0.numbered in
    let size = length-append L (e ∷ []) in
    subst (λ (M : List Entry). length M ≤ MAX_VERSION) (append_assoc L (e ∷ []) (entries_of J))
    (entries_formed (L ++ e ∷ []) J both.1 (omega (arith, version, numbered, size)) each.1)

pub entries_within : (J : List Message) → IsJournal J → list_all is_message J ≡ true → length (entries_of J) ≤ MAX_VERSION
entries_within J each formed = entries_formed [] J formed (omega arith) (log_law J each)

pub sizes : (J : List Message) → length J ≡ length (requests_of J) + length (entries_of J)
sizes [] = refl
sizes (Coop q ∷ J) = let n = sizes J in omega (arith, n)
sizes (Admin e ∷ J) = let n = sizes J in omega (arith, n)

few_placed : (R : List Request) → length (placed_of R) ≤ length R
few_placed [] = omega arith
few_placed (q ∷ R) = by (placed_by q.id q.edit) (few_placed R)
  where
    by : (o : Option Placed) → length (placed_of R) ≤ length R → length (cons_option o (placed_of R)) ≤ length (q ∷ R)
    by None h = omega (arith, h)
    by (Some p) h = omega (arith, h)

pub order_size : (R : List Request) → IsHistory R → length (text_order R) ≤ length R
order_size R each =
    let same = length_permutation (elements_of R) (text_order R) (each_law (placed_of R) (IsTree-placed_of R each)) in
    let mapped = length-map (placed_of R) (λ (p : Placed). p.name) in
    let few = few_placed R in
    omega (arith, same, mapped, few)

-- ---- readers

module _ (J : List Message) (log : List Entry) (slots : List Slot) (table : List Kept) (stamp count : ℕ)
    (kept : IsKeptOf J log slots table stamp count) where
  pub within : IsWithin J
  within = record {
    journal_is = kept.journal;
    formed = kept.formed;
    requests = kept.few;
    entries = entries_within J kept.journal kept.formed;
  }

  pub history : IsHistory (requests_of J)
  history = history_law J kept.journal

  pub read_state : (n : Name) → table_state table n ≡ option_map (state_in (requests_of J) (entries_of J)) (request_of (requests_of J) n)
  read_state n =
      ap (option_map (λ (k : Kept). k.state)) (kept.kept.states n) ∙ by (request_of (requests_of J) n)
      ∙ ap (λ (L : List Entry). option_map (state_in (requests_of J) L) (request_of (requests_of J) n)) kept.entries
    where
      by : (o : Option Request) → option_map (λ (k : Kept). k.state) (option_map (kept_in (requests_of J) log) o) ≡ option_map (state_in (requests_of J) log) o
      by None = refl
      by (Some q) = refl

  pub read_cell : (e : Name) → kept_cell table e ≡ cell_in (requests_of J) (entries_of J) e
  read_cell e = cells_kept (requests_of J) log table history kept.kept.in_order kept.kept.states e ∙ ap (λ (L : List Entry). cell_in (requests_of J) L e) kept.entries

  pub read_names : names_in slots ≡ text_order (requests_of J)
  read_names = ap names_in kept.kept.marked ∙ names_by (shows_in (requests_of J) log) (text_order (requests_of J))

  pub read_has : (n : Name) → has_name (names_in slots) n ≡ has_name (elements_of (requests_of J)) n
  read_has n = ap (λ (names : List Name). has_name names n) read_names ∙ has_order (requests_of J) n history

  pub read_shown : shown_slots slots ≡ shown_in (requests_of J) (entries_of J)
  read_shown =
      ap shown_slots kept.kept.marked ∙ shown_by (shows_in (requests_of J) log) (text_order (requests_of J))
      ∙ ap (λ (L : List Entry). shown_in (requests_of J) L) kept.entries

  pub few_shown : length (shown_slots slots) ≤ MAX_REQUESTS
  few_shown =
      let filtered = length_filter (shows_in (requests_of J) (entries_of J)) (text_order (requests_of J)) in
      let names = order_size (requests_of J) history in
      let few = kept.few in
      rw read_shown (omega (arith, filtered, names, few))
