-- What a journal consists of.
use Rattle.std.proofs.Common.{◌≡◌, ℕ, zero, suc, ◌≤◌, ◌+◌, inl, inr, ⊎_elim, Bool, true, false, not, ◌||◌, ◌&&◌, List, [], ◌∷◌, ◌++◌, length, take, None, Some, refl, ap, sym, subst, ◌∙◌, arith, length-append, append_assoc, Contains}
use Rattle.std.specs.Prelude.{nat_lt, nat_eq, find, is_none, is_some, position, slice_get, option_and_then, if◌then◌else◌}
use Rattle.std.specs.declared.option.Option.{Option}
use Rattle.std.specs.List.{list_any, list_all, position_or_len}
use Rattle.std.proofs.lemmas.List.{append-nil, map-append}
use Rattle.std.proofs.lemmas.List.Elements.{filter_map-append}
use Rattle.std.proofs.lemmas.Bool.{and_parts, and_from, or_parts, cases_Bool, not-false, ltb-true, ltb-false}
use Rattle.std.proofs.lemmas.List.Folds.{list_any-append, list_all-append, find_at}
use Rattle.std.proofs.lemmas.Option.{slice_get_cases, slice_get_past}
use Rattle.std.proofs.lemmas.Bool.Decides.{nat_tests}
use Rattle.element_name.proofs.CaseLemmas.{when-None, first_of-None, option_map-None}
use Rattle.element_name.specs.Cases.{when, first_of}
use Rattle.element_name.specs.Name.{Name, name_eq, has_name}
use Rattle.element_name.specs.Places.{is_anchor}
use Rattle.element_name.specs.Growing.{EachFrom}
use Rattle.element_name.specs.Tree.{Placed, names_of}
use Rattle.coop_request.specs.Edit.{anchor_or_target, placed_by}
use Rattle.coop_request.specs.Request.{Request}
use Rattle.coop_request.specs.History.{placed_of, elements_of, FollowsHistory, IsHistory}
use Rattle.policy_book.specs.Entry.{Entry}
use Rattle.policy_book.specs.declared.auth.Extent.TheVariants.{All, Span, Elems, By}
use Rattle.policy_book.specs.declared.op.AdminOp.{AdminOp}
use Rattle.policy_book.specs.declared.op.AdminOp.TheVariants.{AddUser, DelUser, AddObj, DelObj, AddGroup, DelGroup, AddMember, DelMember, AddAuth, DelAuth, Validate}
use Rattle.check_remote.specs.Laws.{has_span_ends, have_span_ends}
use Rattle.tomb_seq.proofs.Has.{Has, Has-from_Contains}
use Rattle.edit_message.specs.declared.message.Message.{Message}
use Rattle.edit_message.specs.declared.message.Message.TheVariants.{Coop, Admin}
use Rattle.edit_message.specs.declared.message.Missing.TheVariants.{Element, Version}
use Rattle.edit_message.specs.Formed.{is_message}
use Rattle.edit_message.specs.Message.{request_in, entry_in, requests_of, entries_of}
use Rattle.edit_message.specs.Missing.{missing_of, missing_end}
use Rattle.admin_log.specs.Log.{FollowsLog, IsLog}
use Rattle.peer_tables.specs.Journal.{has_key_of, FollowsJournal, IsJournal}

-- ---- options, and rows of a table

pub none_is : {A : Type 0} (o : Option A) → is_none o ≡ true → o ≡ None
none_is None h = refl
none_is (Some x) h = absurd (cc)

-- none of the rows holds
abbrev pub NoRow : {A : Type 0} → List (Option A) → Type 0
NoRow [] = Unit {0}
NoRow (row ∷ rows) = (row ≡ None) × NoRow rows

pub no_row : {A : Type 0} (rows : List (Option A)) → first_of rows ≡ None → NoRow rows
no_row [] h = tt
no_row (row ∷ rows) h = let parts = first_of-None row rows h in (parts.0, no_row rows parts.1)

-- ---- what a test finds

-- what is found stands at the position
pub find_position : {X : Type 0} (test : X → Bool) (xs : List X) → find test xs ≡ option_and_then (slice_get xs) (position test xs)
find_position test xs = find_at test xs ∙ by (nat_lt (position_or_len test xs) (length xs)) refl
  where
    by : (b : Bool) → nat_lt (position_or_len test xs) (length xs) ≡ b
        → slice_get xs (position_or_len test xs) ≡ option_and_then (slice_get xs) (if b then Some (position_or_len test xs) else None)
    by true within = refl
    by false past = slice_get_past xs (position_or_len test xs) (ltb-false (position_or_len test xs) (length xs) past)

-- something is, where there is a position
pub found_somewhere : {X : Type 0} (test : X → Bool) (xs : List X) → is_some (position test xs) ≡ is_some (find test xs)
found_somewhere test xs = by (nat_lt (position_or_len test xs) (length xs)) refl ∙ ap is_some (sym (find_at test xs))
  where
    by : (b : Bool) → nat_lt (position_or_len test xs) (length xs) ≡ b
        → is_some (if b then Some (position_or_len test xs) else None) ≡ is_some (slice_get xs (position_or_len test xs))
    by true t = ⊎_elim
        (λ h. sym (ap is_some h.2))
        (λ h. let within = ltb-true (position_or_len test xs) (length xs) t in let past = h.0 in absurd (omega (arith, within, past)))
        (slice_get_cases xs (position_or_len test xs)).1
    by false past = ap is_some (sym (slice_get_past xs (position_or_len test xs) (ltb-false (position_or_len test xs) (length xs) past)))

-- ---- well-formed messages

pub formed_push : (J : List Message) (m : Message) → list_all is_message J ≡ true → is_message m ≡ true → list_all is_message (J ++ m ∷ []) ≡ true
formed_push J m formed own =
    list_all-append is_message J (m ∷ []) ∙ and_from (list_all is_message J) (is_message m && true) formed (and_from (is_message m) true own refl)

pub formed_cut : (n : ℕ) (J : List Message) → list_all is_message J ≡ true → list_all is_message (take n J) ≡ true
formed_cut zero J formed = refl
formed_cut (suc n) [] formed = refl
formed_cut (suc n) (m ∷ J) formed =
    let parts = and_parts (is_message m) (list_all is_message J) formed in
    and_from (is_message m) (list_all is_message (take n J)) parts.0 (formed_cut n J parts.1)

-- ---- the requests and the entries of two lists, one behind the other

pub requests_append : (J K : List Message) → requests_of (J ++ K) ≡ requests_of J ++ requests_of K
requests_append J K = filter_map-append request_in J K

pub entries_append : (J K : List Message) → entries_of (J ++ K) ≡ entries_of J ++ entries_of K
entries_append J K = filter_map-append entry_in J K

pub requests_request : (J : List Message) (q : Request) → requests_of (J ++ Coop q ∷ []) ≡ requests_of J ++ q ∷ []
requests_request J q = requests_append J (Coop q ∷ [])

pub requests_entry : (J : List Message) (e : Entry) → requests_of (J ++ Admin e ∷ []) ≡ requests_of J
requests_entry J e = requests_append J (Admin e ∷ []) ∙ append-nil (requests_of J)

pub entries_request : (J : List Message) (q : Request) → entries_of (J ++ Coop q ∷ []) ≡ entries_of J
entries_request J q = entries_append J (Coop q ∷ []) ∙ append-nil (entries_of J)

pub entries_entry : (J : List Message) (e : Entry) → entries_of (J ++ Admin e ∷ []) ≡ entries_of J ++ e ∷ []
entries_entry J e = entries_append J (Admin e ∷ [])

-- ---- a journal's requests are a history

new_name : (J : List Message) (q : Request) → has_key_of J (Coop q) ≡ false → list_any (λ r. name_eq r.id q.id) (requests_of J) ≡ false
new_name [] q h = refl
new_name (Coop r ∷ J) q h =
    let both = or_parts (name_eq r.id q.id) (has_key_of J (Coop q)) h in
    rw (both.0) (new_name J q both.1)
new_name (Admin e ∷ J) q h = new_name J q h

-- what a request that misses nothing has
pub record IsHere (front : ℕ) (elements : List Name) (q : Request) : Type 0 where
  pub version : nat_lt front q.version ≡ false
  pub known : is_anchor elements (anchor_or_target q.edit) ≡ true

pub request_here : (front : ℕ) (elements : List Name) (q : Request) → missing_of front elements (Coop q) ≡ None → IsHere front elements q
request_here front elements q h =
    let end : Name = anchor_or_target q.edit in
    let rows = no_row (when (nat_lt front q.version) (Version (front + 1)) ∷ when (not (is_anchor elements end)) (Element end) ∷ []) h in
    record {
      version = when-None (nat_lt front q.version) (Version (front + 1)) rows.0;
      known = not-false (is_anchor elements end) (when-None (not (is_anchor elements end)) (Element end) rows.1.0);
    }

-- what an entry that misses nothing has
pub record IsNext (front : ℕ) (elements : List Name) (e : Entry) : Type 0 where
  pub version : e.version ≡ front + 1
  pub ends : missing_end elements e.op ≡ None

next_version : (v n : ℕ) → not (nat_eq v n) ≡ false → v ≡ n
next_version v n h = grind (arith, nat_tests)

pub entry_here : (front : ℕ) (elements : List Name) (e : Entry) → missing_of front elements (Admin e) ≡ None → IsNext front elements e
entry_here front elements e h =
    let rows = no_row (when (not (nat_eq e.version (front + 1))) (Version (front + 1)) ∷ missing_end elements e.op ∷ []) h in
    record {
      version = next_version e.version (front + 1) (when-None (not (nat_eq e.version (front + 1))) (Version (front + 1)) rows.0);
      ends = rows.1.0;
    }

pub follows_history : (J : List Message) (q : Request) → FollowsJournal J (Coop q) → FollowsHistory (requests_of J) q
follows_history J q follows = record {
  accepted = follows.legal;
  new = new_name J q follows.new;
  known = (request_here (length (entries_of J)) (elements_of (requests_of J)) q follows.complete).known;
}

history_from : (J K : List Message) → EachFrom FollowsJournal J K → EachFrom FollowsHistory (requests_of J) (requests_of K)
history_from J [] each = tt
history_from J (Coop q ∷ K) each = (
  follows_history J q each.0,
  subst (λ (R : List Request). EachFrom FollowsHistory R (requests_of K)) (requests_request J q) (history_from (J ++ Coop q ∷ []) K each.1),
)
history_from J (Admin e ∷ K) each =
    subst (λ (R : List Request). EachFrom FollowsHistory R (requests_of K)) (requests_entry J e) (history_from (J ++ Admin e ∷ []) K each.1)

pub history_law : (J : List Message) → IsJournal J → IsHistory (requests_of J)
history_law J each = history_from [] J each

-- ---- its entries are a log

pub follows_log : (J : List Message) (e : Entry) → FollowsJournal J (Admin e) → FollowsLog (entries_of J) e
follows_log J e follows = record {
  numbered = (entry_here (length (entries_of J)) (elements_of (requests_of J)) e follows.complete).version;
  legal = follows.legal;
}

log_from : (J K : List Message) → EachFrom FollowsJournal J K → EachFrom FollowsLog (entries_of J) (entries_of K)
log_from J [] each = tt
log_from J (Coop q ∷ K) each =
    subst (λ (L : List Entry). EachFrom FollowsLog L (entries_of K)) (entries_request J q) (log_from (J ++ Coop q ∷ []) K each.1)
log_from J (Admin e ∷ K) each = (
  follows_log J e each.0,
  subst (λ (L : List Entry). EachFrom FollowsLog L (entries_of K)) (entries_entry J e) (log_from (J ++ Admin e ∷ []) K each.1),
)

pub log_law : (J : List Message) → IsJournal J → IsLog (entries_of J)
log_law J each = log_from [] J each

-- ---- spans end at elements, and requests carry versions of the log

pub elements_append : (R S : List Request) → elements_of (R ++ S) ≡ elements_of R ++ elements_of S
elements_append R S =
    ap names_of (filter_map-append (λ q. placed_by q.id q.edit) R S) ∙ map-append (λ (p : Placed). p.name) (placed_of R) (placed_of S)

pub has_more : (xs ys : List Name) (n : Name) → has_name xs n ≡ true → has_name (xs ++ ys) n ≡ true
has_more xs ys n h = list_any-append (name_eq n) xs ys ∙ ap (λ b. b || has_name ys n) h

pub element_later : (J K : List Message) (n : Name) → has_name (elements_of (requests_of J)) n ≡ true → has_name (elements_of (requests_of (J ++ K))) n ≡ true
element_later J K n h =
    subst (λ (names : List Name). has_name names n ≡ true) (sym (ap elements_of (requests_append J K) ∙ elements_append (requests_of J) (requests_of K)))
    (has_more (elements_of (requests_of J)) (elements_of (requests_of K)) n h)

both_there : (names : List Name) (a b : Name) → find (λ n. not (has_name names n)) (a ∷ b ∷ []) ≡ None
    → (has_name names a ≡ true) × (has_name names b ≡ true)
both_there names a b h =
    ⊎_elim
    (λ (t : has_name names a ≡ true). (t, ⊎_elim (λ (s : has_name names b ≡ true). s) (λ (f : has_name names b ≡ false). absurd (cc (rw (t, f) at h))) (cases_Bool (has_name names b))))
    (λ (f : has_name names a ≡ false). absurd (cc (rw f at h)))
    (cases_Bool (has_name names a))

-- an operation that misses no end has its ends
ends_here : (names : List Name) (op : AdminOp) → missing_end names op ≡ None → has_span_ends names op ≡ true
ends_here names (AddUser u) h = refl
ends_here names (DelUser u) h = refl
ends_here names (AddObj n All) h = refl
ends_here names (AddObj n (Span a b)) h =
    let both = both_there names a b (option_map-None Element (find (λ m. not (has_name names m)) (a ∷ b ∷ [])) h) in
    and_from (has_name names a) (has_name names b) both.0 both.1
ends_here names (AddObj n (Elems listed)) h = refl
ends_here names (AddObj n (By user)) h = refl
ends_here names (DelObj n) h = refl
ends_here names (AddGroup g) h = refl
ends_here names (DelGroup g) h = refl
ends_here names (AddMember g u) h = refl
ends_here names (DelMember g u) h = refl
ends_here names (AddAuth i a) h = refl
ends_here names (DelAuth i) h = refl
ends_here names (Validate q) h = refl

-- one that has its ends has them among more names
ends_there : (xs ys : List Name) (op : AdminOp) → ((m : Name) → has_name xs m ≡ true → has_name ys m ≡ true)
    → has_span_ends xs op ≡ true → has_span_ends ys op ≡ true
ends_there xs ys (AddUser u) more h = refl
ends_there xs ys (DelUser u) more h = refl
ends_there xs ys (AddObj n All) more h = refl
ends_there xs ys (AddObj n (Span a b)) more h =
    let both = and_parts (has_name xs a) (has_name xs b) h in
    and_from (has_name ys a) (has_name ys b) (more a both.0) (more b both.1)
ends_there xs ys (AddObj n (Elems listed)) more h = refl
ends_there xs ys (AddObj n (By user)) more h = refl
ends_there xs ys (DelObj n) more h = refl
ends_there xs ys (AddGroup g) more h = refl
ends_there xs ys (DelGroup g) more h = refl
ends_there xs ys (AddMember g u) more h = refl
ends_there xs ys (DelMember g u) more h = refl
ends_there xs ys (AddAuth i a) more h = refl
ends_there xs ys (DelAuth i) more h = refl
ends_there xs ys (Validate q) more h = refl

pub spans_there : (xs ys : List Name) (L : List Entry) → ((m : Name) → has_name xs m ≡ true → has_name ys m ≡ true)
    → have_span_ends xs L ≡ true → have_span_ends ys L ≡ true
spans_there xs ys [] more h = refl
spans_there xs ys (e ∷ L) more h =
    let both = and_parts (has_span_ends xs e.op) (have_span_ends xs L) h in
    and_from (has_span_ends ys e.op) (have_span_ends ys L) (ends_there xs ys e.op more both.0) (spans_there xs ys L more both.1)

spans_from : (J K : List Message) → EachFrom FollowsJournal J K → have_span_ends (elements_of (requests_of (J ++ K))) (entries_of K) ≡ true
spans_from J [] each = refl
spans_from J (Coop q ∷ K) each =
    subst (λ (I : List Message). have_span_ends (elements_of (requests_of I)) (entries_of K) ≡ true) (append_assoc J (Coop q ∷ []) K)
    (spans_from (J ++ Coop q ∷ []) K each.1)
spans_from J (Admin e ∷ K) each =
    and_from (has_span_ends (elements_of (requests_of (J ++ Admin e ∷ K))) e.op) (have_span_ends (elements_of (requests_of (J ++ Admin e ∷ K))) (entries_of K))
    (ends_there (elements_of (requests_of J)) (elements_of (requests_of (J ++ Admin e ∷ K))) e.op
    (λ m h. element_later J (Admin e ∷ K) m h)
    (ends_here (elements_of (requests_of J)) e.op (entry_here (length (entries_of J)) (elements_of (requests_of J)) e each.0.complete).ends))
    (subst (λ (I : List Message). have_span_ends (elements_of (requests_of I)) (entries_of K) ≡ true) (append_assoc J (Admin e ∷ []) K)
    (spans_from (J ++ Admin e ∷ []) K each.1))

pub span_law : (J : List Message) → IsJournal J → have_span_ends (elements_of (requests_of J)) (entries_of J) ≡ true
span_law J each = spans_from [] J each

within : (v n m : ℕ) → nat_lt n v ≡ false → v ≤ n + m
within v n m h = let le : v ≤ n = grind (arith, nat_tests) in omega (arith, le)

versions_from : (J K : List Message) (q : Request) → EachFrom FollowsJournal J K → Has (requests_of K) q → q.version ≤ length (entries_of (J ++ K))
versions_from J [] q each h = absurd h
versions_from J (Coop r ∷ K) q each (inl p) =
    let here = request_here (length (entries_of J)) (elements_of (requests_of J)) r each.0.complete in
    let n : length (entries_of (J ++ Coop r ∷ K)) ≡ length (entries_of J) + length (entries_of K) =
    ap (λ (L : List Entry). length L) (entries_append J (Coop r ∷ K)) ∙ length-append (entries_of J) (entries_of K) in
    subst (λ (s : Request). s.version ≤ length (entries_of (J ++ Coop r ∷ K))) p (rw n (within r.version (length (entries_of J)) (length (entries_of K)) here.version))
versions_from J (Coop r ∷ K) q each (inr h) =
    subst (λ (I : List Message). q.version ≤ length (entries_of I)) (append_assoc J (Coop r ∷ []) K) (versions_from (J ++ Coop r ∷ []) K q each.1 h)
versions_from J (Admin e ∷ K) q each h =
    subst (λ (I : List Message). q.version ≤ length (entries_of I)) (append_assoc J (Admin e ∷ []) K) (versions_from (J ++ Admin e ∷ []) K q each.1 h)

pub version_has : (J : List Message) (q : Request) → IsJournal J → Has (requests_of J) q → q.version ≤ length (entries_of J)
version_has J q each h = versions_from [] J q each h

pub version_law : (J : List Message) (q : Request) → IsJournal J → Contains (requests_of J) q → q.version ≤ length (entries_of J)
version_law J q each h = version_has J q each (Has-from_Contains (requests_of J) q h)
