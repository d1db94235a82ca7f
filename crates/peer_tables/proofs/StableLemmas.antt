-- One more message leaves the old ones what they were, but for what an entry is to change.
use Rattle.std.proofs.Common.{◌≡◌, ℕ, ◌≤◌, ◌||◌, true, false, List, [], ◌∷◌, ◌++◌, length, refl, ap, subst, ◌∙◌}
use Rattle.std.proofs.lemmas.List.{append-nil, take-append-le}
use Rattle.element_name.proofs.EachAfterLemmas.{EachAfter-front, EachAfter-last}
use Rattle.element_name.specs.Name.{Name, start, name_eq, has_name}
use Rattle.element_name.specs.Places.{is_anchor}
use Rattle.element_name.specs.Tree.{Placed, IsTree, before, skip}
use Rattle.coop_request.specs.declared.edit.Edit.{Edit}
use Rattle.coop_request.specs.declared.edit.Edit.TheVariants.{Insert, Delete, Update}
use Rattle.coop_request.specs.Edit.{anchor_or_target}
use Rattle.coop_request.specs.Request.{Request, element_of}
use Rattle.coop_request.specs.History.{placed_of, elements_of, text_order, FollowsHistory, IsHistory}
use Rattle.coop_request.proofs.Histories.{IsTree-placed_of, new_element}
use Rattle.policy_book.specs.Entry.{Entry}
use Rattle.edit_message.specs.declared.message.Message.{Message}
use Rattle.edit_message.specs.declared.message.Message.TheVariants.{Coop, Admin}
use Rattle.edit_message.specs.Message.{requests_of, entries_of}
use Rattle.auth_match.specs.Requests.{request_verdict}
use Rattle.auth_match.proofs.OneMore.{skip_within}
use Rattle.admin_log.specs.Log.{IsLog, policy_of}
use Rattle.check_remote.specs.Laws.{have_span_ends}
use Rattle.check_remote.specs.State.{verdict_at, state_of}
use Rattle.check_remote.proofs.NewElements.{new_element_verdict, new_element_state}
use Rattle.check_remote.proofs.States.{entry_law}
use Rattle.tomb_seq.proofs.Has.{Has, Has-from_Contains}
use Rattle.tomb_seq.proofs.Theorems.{stable_tree}
use Rattle.peer_tables.specs.Derived.{state_in}
use Rattle.peer_tables.specs.Kept.{names_after, AreKnown}
use Rattle.peer_tables.specs.Journal.{FollowsJournal, IsJournal}
use Rattle.peer_tables.specs.Laws.{StableBefore, StableVerdictAt, StableState, StableUnderEntry}
use Rattle.peer_tables.proofs.JournalLemmas.{history_law, log_law, span_law, spans_there, version_law, follows_history, requests_request, requests_entry, entries_request, entries_entry}
use Rattle.peer_tables.proofs.HistoryLemmas.{element_there, order_push, has_order, placed_append}

-- ---- what a journal with one more message consists of

pub known_law : (J : List Message) → IsJournal J → AreKnown (requests_of J) (entries_of J)
known_law J each = record { history = history_law J each; log = log_law J each; spans = span_law J each; versions = λ q h. version_law J q each h }

-- the names in text order, of a history R
names_known : (R : List Request) (L : List Entry) (n : Name) → AreKnown R L → has_name (elements_of R) n ≡ true → has_name (text_order R) n ≡ true
names_known R L n known h = has_order R n known.history ∙ h

pub spans_in_order : (R : List Request) (L : List Entry) → AreKnown R L → have_span_ends (text_order R) L ≡ true
spans_in_order R L known = spans_there (elements_of R) (text_order R) L (λ n h. names_known R L n known h) known.spans

pub element_in_order : (R : List Request) (L : List Entry) (q : Request) → AreKnown R L → Has R q → has_name (text_order R) (element_of q) ≡ true
element_in_order R L q known h = names_known R L (element_of q) known (element_there R q known.history h)

pub new_in_order : (R : List Request) (L : List Entry) (r : Request) → AreKnown R L → FollowsHistory R r → has_name (text_order R) r.id ≡ false
new_in_order R L r known follows = has_order R r.id known.history ∙ new_element R r.id follows.new

pub anchor_in_order : (R : List Request) (L : List Entry) (r : Request) → AreKnown R L → FollowsHistory R r → is_anchor (text_order R) (anchor_or_target r.edit) ≡ true
anchor_in_order R L r known follows =
    ap (λ b. name_eq (anchor_or_target r.edit) start || b) (has_order R (anchor_or_target r.edit) known.history) ∙ follows.known

-- ---- one more request

module _ (R : List Request) (L : List Entry) (known : AreKnown R L) (r : Request) (follows : FollowsHistory R r) (q : Request) (old : Has R q) where
  verdict_with : (v : ℕ) (edit : Edit) → r.edit ≡ edit → verdict_at (names_after (text_order R) r.id edit) L q v ≡ verdict_at (text_order R) L q v
  verdict_with v (Insert after letter) is =
      let anchored : is_anchor (text_order R) after ≡ true = subst (λ (x : Edit). is_anchor (text_order R) (anchor_or_target x) ≡ true) is (anchor_in_order R L r known follows) in
      new_element_verdict (text_order R) (skip (text_order R) r.id after) r.id L q v (skip_within (text_order R) r.id after anchored)
      (new_in_order R L r known follows) (element_in_order R L q known old) (spans_in_order R L known)
  verdict_with v (Delete target) is = refl
  verdict_with v (Update target letter) is = refl

  state_with : (edit : Edit) → r.edit ≡ edit → state_of (names_after (text_order R) r.id edit) L q ≡ state_of (text_order R) L q
  state_with (Insert after letter) is =
      let anchored : is_anchor (text_order R) after ≡ true = subst (λ (x : Edit). is_anchor (text_order R) (anchor_or_target x) ≡ true) is (anchor_in_order R L r known follows) in
      new_element_state (text_order R) (skip (text_order R) r.id after) r.id L q (skip_within (text_order R) r.id after anchored)
      (new_in_order R L r known follows) (element_in_order R L q known old) (spans_in_order R L known)
  state_with (Delete target) is = refl
  state_with (Update target letter) is = refl

  pub verdict_more : (v : ℕ) → verdict_at (text_order (R ++ r ∷ [])) L q v ≡ verdict_at (text_order R) L q v
  verdict_more v = ap (λ (names : List Name). verdict_at names L q v) (order_push R r known.history follows) ∙ verdict_with v r.edit refl

  pub state_more : state_in (R ++ r ∷ []) L q ≡ state_in R L q
  state_more = ap (λ (names : List Name). state_of names L q) (order_push R r known.history follows) ∙ state_with r.edit refl

-- ---- the laws

module _ (J : List Message) where
  pub front_is_journal : (m : Message) → IsJournal (J ++ m ∷ []) → IsJournal J
  front_is_journal m each = EachAfter-front FollowsJournal J (m ∷ []) each

  pub last_follows : (m : Message) → IsJournal (J ++ m ∷ []) → FollowsJournal J m
  last_follows m each = EachAfter-last FollowsJournal J m each

pub stable_state : StableState
stable_state J q r each h =
    let R = requests_of J in
    let before = front_is_journal J (Coop r) each in
    let follows = follows_history J r (last_follows J (Coop r) each) in
    ap (λ (S : List Request). state_in S (entries_of (J ++ Coop r ∷ [])) q) (requests_request J r)
    ∙ ap (λ (L : List Entry). state_in (R ++ r ∷ []) L q) (entries_request J r)
    ∙ state_more R (entries_of J) (known_law J before) r follows q (Has-from_Contains R q h)

pub stable_entry : StableUnderEntry
stable_entry J q e each h =
    let R = requests_of J in
    let L = entries_of J in
    let before = front_is_journal J (Admin e) each in
    let known = known_law J before in
    let grown : IsLog (L ++ e ∷ []) = subst IsLog (entries_entry J e) (log_law (J ++ Admin e ∷ []) each) in
    ap (λ (S : List Request). state_in S (entries_of (J ++ Admin e ∷ [])) q) (requests_entry J e)
    ∙ ap (λ (M : List Entry). state_in R M q) (entries_entry J e)
    ∙ entry_law (text_order R) L e q (known.versions q h) grown

stable_verdict_by : (J : List Message) (m : Message) (q : Request) (v : ℕ) → IsJournal (J ++ m ∷ []) → Has (requests_of J) q → v ≤ length (entries_of J)
    → verdict_at (text_order (requests_of (J ++ m ∷ []))) (entries_of (J ++ m ∷ [])) q v ≡ verdict_at (text_order (requests_of J)) (entries_of J) q v
stable_verdict_by J (Coop r) q v each h within =
    let R = requests_of J in
    let before = front_is_journal J (Coop r) each in
    ap (λ (S : List Request). verdict_at (text_order S) (entries_of (J ++ Coop r ∷ [])) q v) (requests_request J r)
    ∙ ap (λ (L : List Entry). verdict_at (text_order (R ++ r ∷ [])) L q v) (entries_request J r)
    ∙ verdict_more R (entries_of J) (known_law J before) r (follows_history J r (last_follows J (Coop r) each)) q h v
stable_verdict_by J (Admin e) q v each h within =
    let R = requests_of J in
    let L = entries_of J in
    ap (λ (S : List Request). verdict_at (text_order S) (entries_of (J ++ Admin e ∷ [])) q v) (requests_entry J e)
    ∙ ap (λ (M : List Entry). verdict_at (text_order R) M q v) (entries_entry J e)
    ∙ ap (λ (M : List Entry). request_verdict (text_order R) (policy_of M) q) (take-append-le v L (e ∷ []) within)

pub stable_verdict : StableVerdictAt
stable_verdict J m q v each h within = stable_verdict_by J m q v each (Has-from_Contains (requests_of J) q h) within

-- the placed elements of a history with one more request
before_by : (R : List Request) (id : Name) (version : ℕ) (edit : Edit) (a b : Name) → IsHistory (R ++ record { id = id; version = version; edit = edit } ∷ [])
    → has_name (elements_of R) a ≡ true → has_name (elements_of R) b ≡ true
    → before (placed_of (R ++ record { id = id; version = version; edit = edit } ∷ [])) a b ≡ before (placed_of R) a b
before_by R id version (Insert after letter) a b each ha hb =
    let r : Request = record { id = id; version = version; edit = Insert after letter } in
    let p : Placed = record { name = id; anchor = after } in
    ap (λ (placed : List Placed). before placed a b) (placed_append R r)
    ∙ stable_tree (placed_of R) p a b (subst IsTree (placed_append R r) (IsTree-placed_of (R ++ r ∷ []) each)) ha hb
before_by R id version (Delete target) a b each ha hb =
    ap (λ (placed : List Placed). before placed a b) (placed_append R (record { id = id; version = version; edit = Delete target }) ∙ append-nil (placed_of R))
before_by R id version (Update target letter) a b each ha hb =
    ap (λ (placed : List Placed). before placed a b) (placed_append R (record { id = id; version = version; edit = Update target letter }) ∙ append-nil (placed_of R))

stable_order_by : (J : List Message) (m : Message) (a b : Name) → IsJournal (J ++ m ∷ [])
    → has_name (elements_of (requests_of J)) a ≡ true → has_name (elements_of (requests_of J)) b ≡ true
    → before (placed_of (requests_of (J ++ m ∷ []))) a b ≡ before (placed_of (requests_of J)) a b
stable_order_by J (Coop r) a b each ha hb =
    ap (λ (S : List Request). before (placed_of S) a b) (requests_request J r)
    ∙ before_by (requests_of J) r.id r.version r.edit a b (subst IsHistory (requests_request J r) (history_law (J ++ Coop r ∷ []) each)) ha hb
stable_order_by J (Admin e) a b each ha hb = ap (λ (S : List Request). before (placed_of S) a b) (requests_entry J e)

pub stable_order : StableBefore
stable_order J m a b each ha hb = stable_order_by J m a b each ha hb
