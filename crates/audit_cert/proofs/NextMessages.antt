-- What is kept of a journal with one more message, and which message that may be.
use Rattle.std.proofs.Common.{◌≡◌, ℕ, ◌+◌, ◌<◌, ◌≤◌, Bool, true, false, not, ◌||◌, List, [], ◌∷◌, ◌++◌, length, None, Some, refl, sym, ap, subst, ◌∙◌, arith, length-append}
use Rattle.std.specs.Prelude.{nat_eq, nat_lt, nat_le, is_none, ◌&&◌}
use Rattle.std.specs.declared.option.Option.{Option}
use Rattle.std.specs.List.{list_any, list_all}
use Rattle.std.proofs.lemmas.Bool.{and_parts, and_from, or_right}
use Rattle.std.proofs.lemmas.Bool.Decides.{nat_tests}
use Rattle.std.proofs.lemmas.List.Folds.{list_any-append, list_all-append}
use Rattle.element_name.specs.Cases.{when, first_of}
use Rattle.element_name.specs.Growing.{EachFrom}
use Rattle.element_name.specs.Name.{Name, start, name_eq, has_name}
use Rattle.element_name.specs.Places.{is_anchor}
use Rattle.element_name.proofs.EachAfterLemmas.{EachAfter-push, EachAfter-last}
use Rattle.coop_request.specs.declared.edit.Edit.{Edit}
use Rattle.coop_request.specs.declared.edit.Edit.TheVariants.{Insert, Delete, Update}
use Rattle.coop_request.specs.declared.request.TheConstants.{MAX_REQUESTS}
use Rattle.coop_request.specs.Edit.{anchor_or_target}
use Rattle.coop_request.specs.Request.{Request, IsAccepted}
use Rattle.coop_request.specs.History.{elements_of, text_order}
use Rattle.policy_book.specs.Entry.{Entry}
use Rattle.edit_message.specs.declared.message.Message.{Message}
use Rattle.edit_message.specs.declared.message.Message.TheVariants.{Coop, Admin}
use Rattle.edit_message.specs.declared.message.Missing.TheVariants.{Element, Version}
use Rattle.edit_message.specs.Formed.{is_message}
use Rattle.edit_message.specs.Message.{key_of, requests_of, entries_of}
use Rattle.edit_message.specs.Missing.{missing_of, missing_end}
use Rattle.admin_log.specs.Log.{FollowsLog, entry_fault, push_fault}
use Rattle.admin_log.proofs.Logs.{follows_pushed}
use Rattle.tomb_seq.specs.Insert.{insert_fault}
use Rattle.tomb_seq.proofs.SlotEdits.{IsFree-no_fault}
use Rattle.peer_tables.specs.Kept.{IsPlaceable, names_after}
use Rattle.peer_tables.specs.Journal.{has_key_of, FollowsJournal, IsJournal, IsWithin}
use Rattle.peer_tables.proofs.JournalLemmas.{requests_request, requests_entry, entries_request, entries_entry, log_law, request_here, entry_here, follows_history}
use Rattle.peer_tables.proofs.HistoryLemmas.{order_push, has_order}
use Rattle.peer_tables.proofs.KeptLemmas.Joined.{missing_end_agree}
use Rattle.peer_tables.proofs.KeptLemmas.Follows.{placeable}
use Rattle.peer_tables.proofs.KeptLemmas.Reads.{entries_within}
use Rattle.peer_tables.proofs.StableLemmas.{known_law}
use Rattle.audit_cert.specs.Basis.{IsBasisOf, is_known, is_placeable, may_join, may_extend}

pub none_is : {A : Type 0} (x : Option A) → is_none x ≡ true → x ≡ None
none_is None h = refl
none_is (Some x) h = absurd cc

is_none_of : {A : Type 0} (x : Option A) → x ≡ None → is_none x ≡ true
is_none_of x h = ap is_none h

-- ---- a request that misses nothing

none_missed : (front : ℕ) (elements : List Name) (q : Request) → nat_lt front q.version ≡ false → is_anchor elements (anchor_or_target q.edit) ≡ true
    → missing_of front elements (Coop q) ≡ None
none_missed front elements q version known =
    ap (λ b. first_of (when b (Version (front + 1)) ∷ when (not (is_anchor elements (anchor_or_target q.edit))) (Element (anchor_or_target q.edit)) ∷ [])) version
    ∙ ap (λ b. first_of (None ∷ when (not b) (Element (anchor_or_target q.edit)) ∷ [])) known

-- what is placeable has its anchor or target
anchored : (names : List Name) (id : Name) (edit : Edit) → is_placeable names id edit ≡ true → is_anchor names (anchor_or_target edit) ≡ true
anchored names id (Insert after letter) h = (IsFree-no_fault names id after (none_is (insert_fault names id after) h)).anchored
anchored names id (Delete target) h = or_right (name_eq target start) (has_name names target) h
anchored names id (Update target letter) h = or_right (name_eq target start) (has_name names target) h

placeable_test : (names : List Name) (id : Name) (edit : Edit) → IsPlaceable names id edit → is_placeable names id edit ≡ true
placeable_test names id (Insert after letter) h = is_none_of (insert_fault names id after) h
placeable_test names id (Delete target) h = h
placeable_test names id (Update target letter) h = h

-- ---- keys that are new

no_request_key : (J : List Message) (q : Request) → list_any (λ r. name_eq r.id q.id) (requests_of J) ≡ has_key_of J (Coop q)
no_request_key [] q = refl
no_request_key (Coop r ∷ J) q = ap (λ b. name_eq r.id q.id || b) (no_request_key J q)
no_request_key (Admin e ∷ J) q = no_request_key J q

no_entry_key : (J : List Message) (e : Entry) → list_any (λ d. nat_eq d.version e.version) (entries_of J) ≡ has_key_of J (Admin e)
no_entry_key [] e = refl
no_entry_key (Coop q ∷ J) e = no_entry_key J e
no_entry_key (Admin d ∷ J) e = ap (λ b. nat_eq d.version e.version || b) (no_entry_key J e)

versions_below : (prefix rest : List Entry) (v : ℕ) → EachFrom FollowsLog prefix rest → length prefix + length rest < v
    → list_any (λ d. nat_eq d.version v) rest ≡ false
versions_below prefix [] v each lt = refl
versions_below prefix (d ∷ rest) v each lt =
    let number = each.0.numbered in
    let size = length-append prefix (d ∷ []) in
    let other : nat_eq d.version v ≡ false = grind (arith, nat_tests) in
    ap (λ b. b || list_any (λ x. nat_eq x.version v) rest) other ∙ versions_below (prefix ++ d ∷ []) rest v each.1 (omega (arith, size, lt))

-- ---- one more message

within_more : (J : List Message) (m : Message) → IsWithin J → FollowsJournal J m → is_message m ≡ true → length (requests_of (J ++ m ∷ [])) ≤ MAX_REQUESTS
    → IsWithin (J ++ m ∷ [])
within_more J m within follows formed few =
    let journal : IsJournal (J ++ m ∷ []) = EachAfter-push FollowsJournal J m within.journal_is follows in
    let all : list_all is_message (J ++ m ∷ []) ≡ true =
    list_all-append is_message J (m ∷ []) ∙ and_from (list_all is_message J) (list_all is_message (m ∷ [])) within.formed (and_from (is_message m) true formed refl) in
    record {
      journal_is = journal;
      formed = all;
      requests = few;
      entries = entries_within (J ++ m ∷ []) journal all;
    }

module _ (J : List Message) (log : List Entry) (names : List Name) (ids : List Name) (basis : IsBasisOf J log names ids) where
  names_known : (n : Name) → has_name names n ≡ has_name (elements_of (requests_of J)) n
  names_known n = ap (λ (names : List Name). has_name names n) basis.elements ∙ has_order (requests_of J) n (known_law J basis.within.journal_is).history

  module _ (q : Request) where
    request_follows : IsAccepted q → has_name ids q.id ≡ false → nat_le q.version (length log) ≡ true → is_placeable names q.id q.edit ≡ true
        → FollowsJournal J (Coop q)
    request_follows accepted new version there =
        let front : nat_lt (length (entries_of J)) q.version ≡ false =
        let at : nat_le q.version (length (entries_of J)) ≡ true = subst (λ (L : List Entry). nat_le q.version (length L) ≡ true) basis.entries version in
        grind (arith, nat_tests) in
        record {
          new = sym (no_request_key J q) ∙ sym (basis.known q.id) ∙ new;
          complete = none_missed (length (entries_of J)) (elements_of (requests_of J)) q front
              (ap (λ b. name_eq (anchor_or_target q.edit) start || b) (sym (names_known (anchor_or_target q.edit))) ∙ anchored names q.id q.edit there);
          legal = accepted;
        }

    -- a request that may join follows, and is kept
    pub request_taken : (new_names : List Name) (new_ids : List Name) → IsAccepted q → is_message (Coop q) ≡ true
        → has_name ids q.id ≡ false → may_join (length log) names (length ids) q ≡ true
        → new_names ≡ names_after names q.id q.edit
        → ((n : Name) → has_name new_ids n ≡ (name_eq q.id n || has_name ids n))
        → length new_ids ≡ length ids + 1
        → IsBasisOf (J ++ Coop q ∷ []) log new_names new_ids
    request_taken new_names new_ids accepted formed new joins placed noted count =
        let R = requests_of J in
        let parts = and_parts (nat_lt (length ids) MAX_REQUESTS) (nat_le q.version (length log) && is_placeable names q.id q.edit) joins in
        let rest = and_parts (nat_le q.version (length log)) (is_placeable names q.id q.edit) parts.1 in
        let follows = request_follows accepted new rest.0 rest.1 in
        let more = requests_request J q in
        let size : length (requests_of (J ++ Coop q ∷ [])) ≡ length R + 1 = ap (λ (S : List Request). length S) more ∙ length-append R (q ∷ []) in
        let few : length R < MAX_REQUESTS = let before = basis.count in let test = parts.0 in grind (arith, nat_tests) in
        record {
          within = within_more J (Coop q) basis.within follows formed (omega (arith, size, few));
          entries = basis.entries ∙ sym (entries_request J q);
          elements = placed ∙ ap (λ (xs : List Name). names_after xs q.id q.edit) basis.elements
              ∙ sym (order_push R q (known_law J basis.within.journal_is).history (follows_history J q follows)) ∙ ap text_order (sym more);
          known = λ n. noted n ∙ ap (λ b. name_eq q.id n || b) (basis.known n)
              ∙ either (name_eq q.id n) (list_any (λ r. name_eq r.id n) R)
              ∙ sym (list_any-append (λ r. name_eq r.id n) R (q ∷ []))
              ∙ ap (list_any (λ r. name_eq r.id n)) (sym more);
          count = count ∙ ap (λ k. k + 1) basis.count ∙ sym size;
        }
      where
        either : (a b : Bool) → (a || b) ≡ (b || (a || false))
        either true true = refl
        either true false = refl
        either false true = refl
        either false false = refl

    -- one that doesn't, or whose name is known, makes no longer journal
    pub request_known : has_name ids q.id ≡ true → ¬ IsWithin (J ++ Coop q ∷ [])
    request_known there within =
        let follows = EachAfter-last FollowsJournal J (Coop q) within.journal_is in
        let none = basis.known q.id ∙ no_request_key J q ∙ follows.new in
        absurd (cc (there, none))

    pub request_refused : may_join (length log) names (length ids) q ≡ false → ¬ IsWithin (J ++ Coop q ∷ [])
    request_refused refused within =
        let R = requests_of J in
        let follows = EachAfter-last FollowsJournal J (Coop q) within.journal_is in
        let history = follows_history J q follows in
        let known = known_law J basis.within.journal_is in
        let size : length (requests_of (J ++ Coop q ∷ [])) ≡ length R + 1 = ap (λ (S : List Request). length S) (requests_request J q) ∙ length-append R (q ∷ []) in
        let few : length R < MAX_REQUESTS = let le = within.requests in omega (arith, size, le) in
        let room : nat_lt (length ids) MAX_REQUESTS ≡ true = let before = basis.count in grind (arith, nat_tests) in
        let late = (request_here (length (entries_of J)) (elements_of R) q follows.complete).version in
        let version : nat_le q.version (length (entries_of J)) ≡ true = grind (arith, nat_tests) in
        let there : is_placeable names q.id q.edit ≡ true =
        ap (λ (names : List Name). is_placeable names q.id q.edit) basis.elements
        ∙ placeable_test (text_order R) q.id q.edit (placeable R (entries_of J) known q history) in
        let joins : may_join (length log) names (length ids) q ≡ true =
        and_from (nat_lt (length ids) MAX_REQUESTS) (nat_le q.version (length log) && is_placeable names q.id q.edit) room
        (and_from (nat_le q.version (length log)) (is_placeable names q.id q.edit)
        (ap (λ (L : List Entry). nat_le q.version (length L)) basis.entries ∙ version) there) in
        absurd (cc (joins, refused))

  module _ (e : Entry) where
    ends_agree : missing_end names e.op ≡ missing_end (elements_of (requests_of J)) e.op
    ends_agree = missing_end_agree names (elements_of (requests_of J)) e.op names_known

    entry_follows : may_extend log names e ≡ true → FollowsJournal J (Admin e)
    entry_follows extends =
        let L = entries_of J in
        let elements = elements_of (requests_of J) in
        let parts = and_parts (is_none (missing_end names e.op)) (is_none (push_fault log e)) extends in
        let pushed : push_fault L e ≡ None = ap (λ (M : List Entry). push_fault M e) (sym basis.entries) ∙ none_is (push_fault log e) parts.1 in
        let follows = follows_pushed L e pushed in
        let number = follows.numbered in
        let next : nat_eq e.version (length L + 1) ≡ true = grind (arith, nat_tests) in
        record {
          new = sym (no_entry_key J e) ∙ versions_below [] L e.version (log_law J basis.within.journal_is) (omega (arith, number));
          complete =
              ap (λ b. first_of (when (not b) (Version (length L + 1)) ∷ missing_end elements e.op ∷ [])) next
              ∙ ap (λ o. first_of (None ∷ o ∷ [])) (sym ends_agree ∙ none_is (missing_end names e.op) parts.0);
          legal = follows.legal;
        }

    -- an entry that may extend the log follows, and is kept
    pub entry_taken : (new_log : List Entry) → is_message (Admin e) ≡ true → may_extend log names e ≡ true → new_log ≡ log ++ e ∷ []
        → IsBasisOf (J ++ Admin e ∷ []) new_log names ids
    entry_taken new_log formed extends longer =
        let follows = entry_follows extends in
        let same = requests_entry J e in
        let few : length (requests_of (J ++ Admin e ∷ [])) ≤ MAX_REQUESTS = subst (λ (R : List Request). length R ≤ MAX_REQUESTS) (sym same) basis.within.requests in
        record {
          within = within_more J (Admin e) basis.within follows formed few;
          entries = longer ∙ ap (λ (L : List Entry). L ++ e ∷ []) basis.entries ∙ sym (entries_entry J e);
          elements = basis.elements ∙ ap text_order (sym same);
          known = λ n. basis.known n ∙ ap (list_any (λ r. name_eq r.id n)) (sym same);
          count = basis.count ∙ ap (λ (R : List Request). length R) (sym same);
        }

    last_follows : IsWithin (J ++ Admin e ∷ []) → FollowsJournal J (Admin e)
    last_follows within = EachAfter-last FollowsJournal J (Admin e) within.journal_is

    pub entry_known : nat_le e.version (length log) ≡ true → ¬ IsWithin (J ++ Admin e ∷ [])
    entry_known there within =
        let number = (entry_here (length (entries_of J)) (elements_of (requests_of J)) e (last_follows within).complete).version in
        let size = ap (λ (L : List Entry). length L) basis.entries in
        let below : e.version ≤ length log = grind (arith, nat_tests) in
        absurd (omega (arith, number, size, below))

    pub entry_refused : may_extend log names e ≡ false → ¬ IsWithin (J ++ Admin e ∷ [])
    entry_refused refused within =
        let follows = last_follows within in
        let L = entries_of J in
        let here = entry_here (length L) (elements_of (requests_of J)) e follows.complete in
        let number = here.version in
        let next : nat_eq e.version (length L + 1) ≡ true = grind (arith, nat_tests) in
        let pushed : push_fault log e ≡ None = ap (λ (M : List Entry). push_fault M e) basis.entries ∙ push_none L e next follows.legal in
        let extends : may_extend log names e ≡ true =
        and_from (is_none (missing_end names e.op)) (is_none (push_fault log e))
        (is_none_of (missing_end names e.op) (ends_agree ∙ here.ends)) (is_none_of (push_fault log e) pushed) in
        absurd (cc (extends, refused))
      where
        push_none : (M : List Entry) (d : Entry) → nat_eq d.version (length M + 1) ≡ true → entry_fault M d.op ≡ None → push_fault M d ≡ None
        push_none M d next legal = rw (next, legal) refl

-- a message whose key is known makes no longer journal
pub known_refused : (J : List Message) (log : List Entry) (names : List Name) (ids : List Name) → IsBasisOf J log names ids → (m : Message)
    → is_known (length log) ids (key_of m) ≡ true → ¬ IsWithin (J ++ m ∷ [])
known_refused J log names ids basis (Coop q) there = request_known J log names ids basis q there
known_refused J log names ids basis (Admin e) there = entry_known J log names ids basis e there
