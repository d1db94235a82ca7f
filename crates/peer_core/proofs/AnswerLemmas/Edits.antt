-- The answers to a peer's own edits.
use Rattle.std.proofs.Common.{◌≡◌, ℕ, ◌+◌, ◌<◌, ◌≤◌, max, zero, suc, ⊎_elim, Bool, true, false, not, cond, ◌||◌, List, [], ◌∷◌, ◌++◌, length, None, Some, refl, ap, sym, subst, ◌∙◌, arith}
use Rattle.std.specs.Prelude.{nat_lt, nat_le, filter, filter_map, fold, is_some, slice_index_or, unwrap_or}
use Rattle.std.specs.declared.option.Option.{Option}
use Rattle.std.specs.List.{list_any, cons_option}
use Rattle.std.proofs.lemmas.Bool.{or_left, or_right, cases_Bool, not_from_true, not_from_false, le-ltb, ltb-true, lt-leb, leb-true, leb-false, eq-eqb, ne_eqb}
use Rattle.std.proofs.lemmas.Option.{same_Some, cond_some}
use Rattle.element_name.specs.Cases.{when, first_of}
use Rattle.element_name.specs.Name.{Name, start, name_eq, has_name, is_in_range}
use Rattle.element_name.specs.Places.{is_anchor}
use Rattle.element_name.specs.Growing.{EachFrom}
use Rattle.element_name.specs.declared.limits.TheConstants.{MAX_STAMP, MAX_VERSION}
use Rattle.element_name.proofs.CaseLemmas.{when-None}
use Rattle.element_name.proofs.NameOrder.{same_name, name_eq-refl}
use Rattle.coop_request.specs.declared.edit.Edit.{Edit}
use Rattle.coop_request.specs.declared.request.TheConstants.{MAX_REQUESTS}
use Rattle.coop_request.specs.declared.request.RequestFault.TheVariants.{BadVersion, StartTarget, StampOrder}
use Rattle.coop_request.specs.Edit.{anchor_or_target, targets_start}
use Rattle.coop_request.specs.Request.{Request, IsAccepted}
use Rattle.coop_request.specs.History.{elements_of, text_order, FollowsHistory, IsHistory}
use Rattle.coop_request.proofs.Histories.{new_element}
use Rattle.policy_book.specs.Entry.{Entry}
use Rattle.edit_message.specs.declared.message.Message.{Message}
use Rattle.edit_message.specs.declared.message.Message.TheVariants.{Coop, Admin}
use Rattle.edit_message.specs.Message.{requests_of}
use Rattle.auth_match.specs.declared.verdict.Verdict.{Verdict}
use Rattle.auth_match.specs.declared.verdict.Verdict.TheVariants as verdicts
use Rattle.elem_show.specs.Text.{shown_of, shown_names}
use Rattle.peer_step.specs.declared.step.LocalEdit.{LocalEdit}
use Rattle.peer_step.specs.declared.step.LocalEdit.TheVariants.{Insert, Delete, Update}
use Rattle.peer_step.specs.declared.step.Step.TheVariants as steps
use Rattle.peer_step.specs.declared.answer.Answer.{Answer}
use Rattle.peer_step.specs.declared.answer.Answer.TheVariants.{BadPlace, ClockEnd, HistoryFull, Denied}
use Rattle.peer_tables.specs.Derived.{shown_in, greatest_stamp}
use Rattle.peer_core.specs.Peer.{Peer, history, log, front, shown_elements}
use Rattle.peer_tables.specs.Journal.{has_key_of}
use Rattle.peer_core.specs.Sound.{IsSound}
use Rattle.peer_core.specs.Waiting.{MayIntegrate}
use Rattle.peer_core.specs.Local.{fits_text, edit_of, new_request}
use Rattle.peer_core.specs.Answers.{answer_by_verdict, answer_denied, own_verdict, is_full_history, rows_of_edit, answer_edit}
use Rattle.peer_core.specs.After.{changed_by}
use Rattle.peer_tables.proofs.JournalLemmas.{no_row, history_law}
use Rattle.peer_tables.proofs.HistoryLemmas.{has_order}
use Rattle.peer_core.proofs.SoundLemmas.Peers.{own_request_new}
use Rattle.peer_core.proofs.AnswerLemmas.Refusals.{IsRefusal}

-- ---- elements that show

-- as many elements show as pieces
pub as_many_shown : (R S : List Request) (names : List Name) → length (shown_names names R S) ≡ length (filter_map (shown_of R S) names)
as_many_shown R S [] = refl
as_many_shown R S (n ∷ names) = one (shown_of R S n) n (shown_names names R S) (filter_map (shown_of R S) names) (as_many_shown R S names)
  where
    one : (o : Option (List ℕ)) (n : Name) (xs : List Name) (ys : List (List ℕ)) → length xs ≡ length ys → length (cond (is_some o) (n ∷ xs) xs) ≡ length (cons_option o ys)
    one None n xs ys same = same
    one (Some piece) n xs ys same = ap suc same

pub in_filter : (test : Name → Bool) (names : List Name) (n : Name) → has_name (filter test names) n ≡ true → has_name names n ≡ true
in_filter test [] n h = h
in_filter test (m ∷ names) n h = elim (test m) as (λ b. has_name (cond b (m ∷ filter test names) (filter test names)) n ≡ true → has_name (m ∷ names) n ≡ true) [
  | true ↦ λ g. ⊎_elim
      (λ (t : name_eq n m ≡ true). or_left (name_eq n m) (has_name names n) t)
      (λ (f : name_eq n m ≡ false). or_right (name_eq n m) (has_name names n) (in_filter test names n (rw f at g)))
      (cases_Bool (name_eq n m))
  | false ↦ λ g. or_right (name_eq n m) (has_name names n) (in_filter test names n g)
] h

pub has_at : (names : List Name) (i : ℕ) (d : Name) → i < length names → has_name names (slice_index_or names i d) ≡ true
has_at [] i d h = absurd (omega arith)
has_at (n ∷ names) zero d h = or_left (name_eq n n) (has_name names n) (name_eq-refl n)
has_at (n ∷ names) (suc i) d h = or_right (name_eq (slice_index_or names i d) n) (has_name names (slice_index_or names i d)) (has_at names i d (omega arith))

-- an element that shows is one of the history's
pub shown_there : (R : List Request) (L : List Entry) (i : ℕ) → IsHistory R → i < length (shown_in R L) → has_name (elements_of R) (slice_index_or (shown_in R L) i start) ≡ true
shown_there R L i each h =
    let n : Name = slice_index_or (shown_in R L) i start in
    sym (has_order R n each) ∙ in_filter _ (text_order R) n (has_at (shown_in R L) i start h)

-- ---- stamps

over : (R : List Request) (s : ℕ) → s ≤ fold (λ stamp q. max stamp q.id.stamp) s R
over [] s = omega arith
over (q ∷ R) s = let more = over R (max s q.id.stamp) in omega (arith, more)

pub named_below : (R : List Request) (s : ℕ) (n : Name) → list_any (λ r. name_eq r.id n) R ≡ true → n.stamp ≤ fold (λ stamp q. max stamp q.id.stamp) s R
named_below [] s n h = absurd (cc)
named_below (q ∷ R) s n h = ⊎_elim
    (λ (t : name_eq q.id n ≡ true).
    let more = over R (max s q.id.stamp) in
    let same : q.id.stamp ≡ n.stamp = ap (λ (m : Name). m.stamp) (same_name q.id n t) in
    omega (arith, more, same))
    (λ (f : name_eq q.id n ≡ false). named_below R (max s q.id.stamp) n (rw f at h))
    (cases_Bool (name_eq q.id n))

-- the element of a request has its name
pub named : (R : List Request) (n : Name) → has_name (elements_of R) n ≡ true → list_any (λ r. name_eq r.id n) R ≡ true
named R n h = ⊎_elim
    (λ (t : list_any (λ r. name_eq r.id n) R ≡ true). t)
    (λ (f : list_any (λ r. name_eq r.id n) R ≡ false). absurd (let none = new_element R n f in cc))
    (cases_Bool (list_any (λ r. name_eq r.id n) R))

accepted_positive : (q : Request) → IsAccepted q → 0 < q.id.stamp
accepted_positive q accepted =
    let end : ℕ = (anchor_or_target q.edit).stamp in
    let rows = no_row (when (nat_lt MAX_VERSION q.version) BadVersion ∷ when (targets_start q.edit) StartTarget ∷ when (nat_le q.id.stamp end) StampOrder ∷ []) accepted in
    let older = leb-false q.id.stamp end (when-None (nat_le q.id.stamp end) StampOrder rows.1.1.0) in
    omega (arith, older)

named_positive : (before rest : List Request) (n : Name) → EachFrom FollowsHistory before rest → list_any (λ r. name_eq r.id n) rest ≡ true → 0 < n.stamp
named_positive before [] n each h = absurd (cc)
named_positive before (q ∷ rest) n each h = ⊎_elim
    (λ (t : name_eq q.id n ≡ true).
    let some = accepted_positive q each.0.accepted in
    let same : q.id.stamp ≡ n.stamp = ap (λ (m : Name). m.stamp) (same_name q.id n t) in
    omega (arith, some, same))
    (λ (f : name_eq q.id n ≡ false). named_positive (before ++ q ∷ []) rest n each.1 (rw f at h))
    (cases_Bool (name_eq q.id n))

not_start : (n : Name) → 0 < n.stamp → name_eq n start ≡ false
not_start n h = ⊎_elim
    (λ (t : name_eq n start ≡ true). absurd (let same : n.stamp ≡ 0 = ap (λ (m : Name). m.stamp) (same_name n start t) in omega (arith, same)))
    (λ (f : name_eq n start ≡ false). f)
    (cases_Bool (name_eq n start))

-- ---- the request of an edit in place

-- what the edit speaks of is there, and no newer than the requests
record Aims (R : List Request) (edit : Edit) : Type 0 where
  there : is_anchor (elements_of R) (anchor_or_target edit) ≡ true
  element : targets_start edit ≡ false
  older : (anchor_or_target edit).stamp ≤ greatest_stamp R

-- an element of a history
pub record IsOld (R : List Request) (n : Name) : Type 0 where
  pub anchor : is_anchor (elements_of R) n ≡ true
  pub other : name_eq n start ≡ false
  pub below : n.stamp ≤ greatest_stamp R

pub old_shown : (R : List Request) (L : List Entry) (i : ℕ) → IsHistory R → i < length (shown_in R L) → IsOld R (slice_index_or (shown_in R L) i start)
old_shown R L i each h =
    let n : Name = slice_index_or (shown_in R L) i start in
    let there = shown_there R L i each h in
    let name = named R n there in
    record {
      anchor = or_right (name_eq n start) (has_name (elements_of R) n) there;
      other = not_start n (named_positive [] R n each name);
      below = named_below R 0 n name;
    }

aims : (R : List Request) (L : List Entry) (edit : LocalEdit) → IsHistory R → fits_text (length (shown_in R L)) edit ≡ true → Aims R (edit_of (shown_in R L) edit)
aims R L (Insert zero letter) each place = record { there = refl; element = refl; older = omega arith }
aims R L (Insert (suc at) letter) each place =
    let old = old_shown R L at each (let le = leb-true (suc at) (length (shown_in R L)) place in omega (arith, le)) in
    record { there = old.anchor; element = refl; older = old.below }
aims R L (Delete at) each place =
    let old = old_shown R L at each (ltb-true at (length (shown_in R L)) place) in
    record { there = old.anchor; element = old.other; older = old.below }
aims R L (Update at letter) each place =
    let old = old_shown R L at each (ltb-true at (length (shown_in R L)) place) in
    record { there = old.anchor; element = old.other; older = old.below }

pub new_accepted : (p : Peer) (edit : LocalEdit) → IsSound p → fits_text (length (shown_elements p)) edit ≡ true → IsAccepted (new_request p edit)
new_accepted p edit sound place =
    let R : List Request = history p in
    let aim = aims R (log p) edit (history_law p.journal sound.journal) place in
    let q : Request = new_request p edit in
    let end : ℕ = (anchor_or_target q.edit).stamp in
    let version : nat_lt MAX_VERSION q.version ≡ false = le-ltb MAX_VERSION q.version sound.entries in
    let stamp : nat_le q.id.stamp end ≡ false = lt-leb q.id.stamp end (let older = aim.older in omega (arith, older)) in
    rw (version, aim.element, stamp) refl

new_name : (R : List Request) (n : Name) → greatest_stamp R < n.stamp → list_any (λ r. name_eq r.id n) R ≡ false
new_name R n newer = ⊎_elim
    (λ (t : list_any (λ r. name_eq r.id n) R ≡ true). absurd (let old = named_below R 0 n t in omega (arith, old)))
    (λ (f : list_any (λ r. name_eq r.id n) R ≡ false). f)
    (cases_Bool (list_any (λ r. name_eq r.id n) R))

request_known : (J : List Message) (q : Request) → has_key_of J (Coop q) ≡ list_any (λ r. name_eq r.id q.id) (requests_of J)
request_known [] q = refl
request_known (Coop r ∷ J) q = ap (λ b. name_eq r.id q.id || b) (request_known J q)
request_known (Admin e ∷ J) q = request_known J q

here : (f : ℕ) → nat_lt f f ≡ false
here f = le-ltb f f (omega arith)

pub may_edit : (p : Peer) (edit : LocalEdit) → IsSound p → fits_text (length (shown_elements p)) edit ≡ true → length (history p) < MAX_REQUESTS
    → MayIntegrate p (Coop (new_request p edit))
may_edit p edit sound place room =
    let R : List Request = history p in
    let aim = aims R (log p) edit (history_law p.journal sound.journal) place in
    let q : Request = new_request p edit in
    record {
      follows = record {
        new = request_known p.journal q ∙ new_name R q.id (omega arith);
        complete = rw (here (front p), not_from_true (is_anchor (elements_of R) (anchor_or_target q.edit)) aim.there) refl;
        legal = new_accepted p edit sound place;
      };
      new = own_request_new p.held p.site q sound.foreign refl;
      room = lt-leb MAX_REQUESTS (length (history p)) room;
    }

-- ---- edits

by_denied : (q : Request) (v : Verdict) (a : Answer) → Some a ≡ answer_denied q v → a ≡ answer_by_verdict q v
by_denied q verdicts.Granted a h = absurd (cc)
by_denied q (verdicts.Denied by) a h = same_Some a (Denied q.version by) h

denied_refuses : (q : Request) (v : Verdict) (a : Answer) → Some a ≡ answer_denied q v → IsRefusal a
denied_refuses q verdicts.Granted a h = absurd (cc)
denied_refuses q (verdicts.Denied by) a h = subst IsRefusal (sym (same_Some a (Denied q.version by) h)) (record { same = λ p step. refl; none = refl })

pub denied_none : (q : Request) (v : Verdict) → answer_denied q v ≡ None → v ≡ verdicts.Granted
denied_none q verdicts.Granted h = refl
denied_none q (verdicts.Denied by) h = absurd (cc)

in_place : (p : Peer) (edit : LocalEdit) (q : Request) → first_of (rows_of_edit p edit) ≡ None → q ≡ new_request p edit → answer_edit p edit ≡ answer_by_verdict q (own_verdict p q)
in_place p edit q none is =
    ap (λ (o : Option Answer). unwrap_or o (answer_by_verdict (new_request p edit) (own_verdict p (new_request p edit)))) none
    ∙ ap (λ (r : Request). answer_by_verdict r (own_verdict p r)) (sym is)

pub edit_denied : (p : Peer) (edit : LocalEdit) (q : Request) (a : Answer) → first_of (rows_of_edit p edit) ≡ None → q ≡ new_request p edit
    → Some a ≡ answer_denied q (own_verdict p q) → a ≡ answer_edit p edit
edit_denied p edit q a none is denied = by_denied q (own_verdict p q) a denied ∙ sym (in_place p edit q none is)

pub edit_denied_after : (p : Peer) (edit : LocalEdit) (q : Request) (a : Answer) → first_of (rows_of_edit p edit) ≡ None → q ≡ new_request p edit
    → Some a ≡ answer_denied q (own_verdict p q) → p ≡ changed_by p (steps.Edit edit) (answer_edit p edit)
edit_denied_after p edit q a none is denied =
    sym (ap (changed_by p (steps.Edit edit)) (sym (edit_denied p edit q a none is denied)) ∙ (denied_refuses q (own_verdict p q) a denied).same p (steps.Edit edit))

-- ---- which refusal an edit gets

pub bad_place : (p : Peer) (edit : LocalEdit) (n : ℕ) → n ≡ length (shown_elements p) → fits_text n edit ≡ false → Some (BadPlace n) ≡ first_of (rows_of_edit p edit)
bad_place p edit n len out =
    let test : not (fits_text (length (shown_elements p)) edit) ≡ true = not_from_false (fits_text (length (shown_elements p)) edit) (ap (λ (k : ℕ). fits_text k edit) (sym len) ∙ out) in
    rw test (ap (λ (k : ℕ). Some (BadPlace k)) len)

in_text : (p : Peer) (edit : LocalEdit) (n : ℕ) → n ≡ length (shown_elements p) → fits_text n edit ≡ true → not (fits_text (length (shown_elements p)) edit) ≡ false
in_text p edit n len place = not_from_true (fits_text (length (shown_elements p)) edit) (ap (λ (k : ℕ). fits_text k edit) (sym len) ∙ place)

pub clock_end : (p : Peer) (edit : LocalEdit) (n : ℕ) → n ≡ length (shown_elements p) → fits_text n edit ≡ true → greatest_stamp (history p) ≡ MAX_STAMP
    → Some ClockEnd ≡ first_of (rows_of_edit p edit)
clock_end p edit n len place end = rw (in_text p edit n len place, eq-eqb (greatest_stamp (history p)) MAX_STAMP end) refl

pub full_history : (p : Peer) (edit : LocalEdit) (n : ℕ) → n ≡ length (shown_elements p) → fits_text n edit ≡ true → (greatest_stamp (history p) ≡ MAX_STAMP → ⊥)
    → is_full_history p ≡ true → Some HistoryFull ≡ first_of (rows_of_edit p edit)
full_history p edit n len place clock full =
    rw (in_text p edit n len place, ne_eqb (greatest_stamp (history p)) MAX_STAMP clock, full) refl

pub no_refusal : (p : Peer) (edit : LocalEdit) (n : ℕ) → n ≡ length (shown_elements p) → fits_text n edit ≡ true → (greatest_stamp (history p) ≡ MAX_STAMP → ⊥)
    → is_full_history p ≡ false → None ≡ first_of (rows_of_edit p edit)
no_refusal p edit n len place clock room =
    rw (in_text p edit n len place, ne_eqb (greatest_stamp (history p)) MAX_STAMP clock, room) refl

-- the parts that are read of a peer are those of its new request
pub same_request : (p q : Peer) (edit : LocalEdit) (s v : ℕ) (id : Name) (e : Edit) → q ≡ p → s ≡ greatest_stamp (history q) → v ≡ front q
    → e ≡ edit_of (shown_elements p) edit → Some id ≡ when (is_in_range (s + 1) q.site) (record { stamp = s + 1; site = q.site })
    → ◌≡◌ {A = Request} (record { id = id; version = v; edit = e }) (new_request p edit)
same_request p q edit s v id e same stamp_is version_is edit_is read =
    let name : ◌≡◌ {A = Name} (record { stamp = s + 1; site = q.site }) id = (cond_some (is_in_range (s + 1) q.site) (record { stamp = s + 1; site = q.site }) id (sym read)).1 in
    rw (sym name, stamp_is, version_is, edit_is) (let made : Peer → Request = λ x. record { id = record { stamp = greatest_stamp (history x) + 1; site = x.site }; version = front x; edit = edit_of (shown_elements p) edit } in ap made same)
