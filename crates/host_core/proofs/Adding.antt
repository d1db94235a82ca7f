-- What a step adds to a document that all share.
use Rattle.std.proofs.Common.{◌≡◌, ℕ, ◌+◌, ◌≤◌, ◌<◌, Bool, true, false, not, cond, ◌&&◌, List, [], ◌∷◌, ◌++◌, length, Some, None, refl, ap, sym, subst, ◌∙◌, arith, length-append, inl, inr, ⊎_elim}
use Rattle.std.specs.Prelude.{◌⊎◌, nat_eq, find, max, option_map, unwrap_or, IfSome, IsSome, IsSomeAnd}
use Rattle.std.specs.declared.option.Option.{Option}
use Rattle.std.specs.Option.{option_map_or}
use Rattle.std.specs.Ordering.{nat_cmp}
use Rattle.std.specs.BTreeMap.{BTreeMap, get}
use Rattle.std.proofs.lemmas.Bool.{eqb-true, and_parts}
use Rattle.std.proofs.lemmas.List.{append-nil}
use Rattle.std.proofs.lemmas.List.Sums.{fold_push}
use Rattle.element_name.specs.Cases.{when, given}
use Rattle.coop_request.specs.Request.{Request}
use Rattle.policy_book.specs.declared.op.AdminOp.{AdminOp}
use Rattle.policy_book.specs.declared.op.AdminOp.TheVariants.{Validate}
use Rattle.policy_book.specs.Entry.{Entry}
use Rattle.edit_message.specs.declared.message.Message.{Message}
use Rattle.edit_message.specs.declared.message.Message.TheVariants.{Coop, Admin}
use Rattle.edit_message.specs.declared.message.Missing.{Missing}
use Rattle.edit_message.specs.Message.{key_of, find_key}
use Rattle.edit_message.specs.Same.{message_eq}
use Rattle.auth_match.specs.declared.verdict.Verdict.{Verdict}
use Rattle.auth_match.specs.declared.verdict.Verdict.TheVariants as verdicts
use Rattle.peer_step.specs.declared.step.LocalEdit.{LocalEdit}
use Rattle.peer_step.specs.declared.step.Step.{Step}
use Rattle.peer_step.specs.declared.step.Step.TheVariants.{Edit, Administer, Receive, Settle, ValidateNext, Look, Show}
use Rattle.peer_step.specs.declared.answer.Answer.{Answer}
use Rattle.peer_step.specs.declared.answer.Answer.TheVariants.{HistoryFull, NotAdministrator, LogFull, NothingTentative, Repeat, Conflict, OwnSite, Illegal, Quiet}
use Rattle.peer_step.proofs.Rows.{table_has, when_has, map_has}
use Rattle.peer_tables.specs.Derived.{finds_no_room, is_due, greatest_stamp}
use Rattle.peer_tables.specs.Awaiting.{least_awaiting}
use Rattle.peer_tables.proofs.JournalLemmas.{requests_request, requests_entry, entries_append}
use Rattle.peer_core.specs.Peer.{Peer, history, log, missing, integrate}
use Rattle.peer_core.specs.Local.{new_request}
use Rattle.peer_core.specs.Answers.{rows_of_edit, rows_of_log, rows_of_operation, is_full_log, answer_by_verdict, own_verdict, next_entry, answer_issued, answer_known, answer_own, fault_in, is_next_entry, answer_taken, answer_missing, answer_receive, answer_due, answer_settle, answer_of}
use Rattle.peer_core.specs.After.{changed_by, peer_after}
use Rattle.peer_core.proofs.AnswerLemmas.Rows.{edit_rows, operation_rows}
use Rattle.host_core.specs.declared.limits.TheConstants.{LINK_REQUESTS, MAX_DENIED}
use Rattle.host_core.specs.declared.event.LinkId.{LinkId}
use Rattle.host_core.specs.declared.event.OpenLink.{OpenLink}
use Rattle.host_core.specs.declared.refusal.Refusal.TheVariants.{NoLink}
use Rattle.host_core.specs.declared.event.HostEvent.{HostEvent}
use Rattle.host_core.specs.declared.event.HostEvent.TheVariants.{Began, Made}
use Rattle.host_core.specs.Past.{first_peer, host_peer, is_offer, is_denial, denied_of, link_of, open_link}
use Rattle.host_core.specs.Refusals.{refusal_by, ask_refusal}
use Rattle.host_core.specs.Happens.{MayHappen, IsPast}
use Rattle.host_core.specs.Laws.{HeldLaw, ClockLaw, ReserveLaw, ShareLaw}
use Rattle.host_core.proofs.Refused.{open_known, Passes, takes, no_entry}

-- ---- a request that misses nothing

-- changes nothing, or joins the journal
abbrev pub Joins : Peer → Request → Answer → Type 0
Joins p q answer = (changed_by p (Receive (Coop q)) answer ≡ p) ⊎ (changed_by p (Receive (Coop q)) answer ≡ integrate p (Coop q))

known_joins : (p : Peer) (q : Request) (kept : Message) (same : Bool) → Joins p q (cond same Repeat (Conflict kept))
known_joins p q kept true = inl refl
known_joins p q kept false = inl refl

joins : (p : Peer) (q : Request) → missing p (Coop q) ≡ None → Joins p q (answer_receive p (Coop q))
joins p q complete =
    let P : Answer → Type 0 = Joins p q in
    table_has P (
    option_map (answer_known (Coop q)) (find_key (key_of (Coop q)) (p.journal ++ p.held))
    ∷ answer_own p (Coop q)
    ∷ when (finds_no_room p.journal (Coop q)) HistoryFull
    ∷ given (is_next_entry p (Coop q)) (option_map Illegal (fault_in p (Coop q)))
    ∷ option_map (answer_missing p) (missing p (Coop q))
    ∷ []
    ) (answer_taken p (Coop q)) (
      map_has P (answer_known (Coop q)) (find_key (key_of (Coop q)) (p.journal ++ p.held)) (λ kept found. known_joins p q kept (message_eq kept (Coop q))),
      (
        when_has P (nat_eq q.id.site p.site) OwnSite (λ h. inl refl),
        (
          when_has P (finds_no_room p.journal (Coop q)) HistoryFull (λ h. inl refl),
          (
            (λ a h. absurd cc),
            (map_has P (answer_missing p) (missing p (Coop q)) (λ what h. absurd (none what h)), tt),
          ),
        ),
      ),
    )
    (inr refl)
  where
    none : (what : Missing) → missing p (Coop q) ≡ Some what → ⊥
    none what h = cc

-- ---- what a step adds to the requests and to the hold

-- nothing, or a request whose stamp is at most one above the greatest; and the hold stays
pub record AddsLittle (p r : Peer) : Type 0 where
  pub held : r.held ≡ p.held
  pub requests : (history r ≡ history p) ⊎ ((q : Request) × (q.id.stamp ≤ greatest_stamp (history p) + 1) × (history r ≡ history p ++ q ∷ []))

adds_none : (p r : Peer) → r ≡ p → AddsLittle p r
adds_none p r same = record { held = ap (λ (o : Peer). o.held) same; requests = inl (ap history same) }

adds_request : (p r : Peer) (q : Request) → q.id.stamp ≤ greatest_stamp (history p) + 1 → r ≡ integrate p (Coop q) → AddsLittle p r
adds_request p r q low same = record {
  held = ap (λ (o : Peer). o.held) same;
  requests = inr (q, low, ap history same ∙ requests_request p.journal q);
}

-- an edit
edit_requests : (p : Peer) (edit : LocalEdit) → AddsLittle p (peer_after p (Edit edit))
edit_requests p edit =
    let none : AddsLittle p p = adds_none p p refl in
    table_has (λ (a : Answer). AddsLittle p (changed_by p (Edit edit) a)) (rows_of_edit p edit) (answer_by_verdict (new_request p edit) (own_verdict p (new_request p edit)))
    (edit_rows (λ (a : Answer). AddsLittle p (changed_by p (Edit edit) a)) p edit (λ shown. none) none none)
    (by (own_verdict p (new_request p edit)))
  where
    by : (v : Verdict) → AddsLittle p (changed_by p (Edit edit) (answer_by_verdict (new_request p edit) v))
    by verdicts.Granted = adds_request p (integrate p (Coop (new_request p edit))) (new_request p edit) (omega arith) refl
    by (verdicts.Denied place) = adds_none p p refl

-- an entry adds no request
issue_requests : (p : Peer) (e : Entry) → AddsLittle p (integrate p (Admin e))
issue_requests p e = record { held = refl; requests = inl (requests_entry p.journal e) }

-- an operation
operation_requests : (p : Peer) (op : AdminOp) → AddsLittle p (peer_after p (Administer op))
operation_requests p op =
    let P : Answer → Type 0 = λ (a : Answer). AddsLittle p (changed_by p (Administer op) a) in
    let none : AddsLittle p p = adds_none p p refl in
    table_has P (rows_of_log p ++ rows_of_operation p op) (answer_issued p (next_entry p op)) (
      when_has P (not (nat_eq p.site 0)) NotAdministrator (λ h. none),
      (
        when_has P (is_full_log p) LogFull (λ h. none),
        operation_rows P p op (λ fault. none) (λ what. none) none (λ state. none),
      ),
    )
    (issue_requests p (next_entry p op))

-- a validation of the least request
validation_requests : (p : Peer) → AddsLittle p (peer_after p ValidateNext)
validation_requests p =
    let P : Answer → Type 0 = λ (a : Answer). AddsLittle p (changed_by p ValidateNext a) in
    table_has P (rows_of_log p ++ option_map (λ n. answer_issued p (next_entry p (Validate n))) (least_awaiting (history p) (log p)) ∷ []) NothingTentative (
      when_has P (not (nat_eq p.site 0)) NotAdministrator (λ h. adds_none p p refl),
      (
        when_has P (is_full_log p) LogFull (λ h. adds_none p p refl),
        (
          map_has P (λ n. answer_issued p (next_entry p (Validate n))) (least_awaiting (history p) (log p)) (λ n h. issue_requests p (next_entry p (Validate n))),
          tt,
        ),
      ),
    )
    (adds_none p p refl)

-- a settling where nothing is held
settle_requests : (p : Peer) → p.held ≡ [] → AddsLittle p (peer_after p Settle)
settle_requests p none =
    let quiet : answer_settle p ≡ Quiet = ap (λ (held : List Message). option_map_or (answer_due p) (find (is_due p.journal) held) Quiet) none in
    adds_none p (peer_after p Settle) (ap (changed_by p Settle) quiet)

-- a request that passes the door
request_adds : (p : Peer) (denied : ℕ) (q : Request) → Passes p denied q → AddsLittle p (peer_after p (Receive (Coop q)))
request_adds p denied q passes = ⊎_elim
    (λ (same : peer_after p (Receive (Coop q)) ≡ p). adds_none p (peer_after p (Receive (Coop q))) same)
    (λ (joined : peer_after p (Receive (Coop q)) ≡ integrate p (Coop q)). adds_request p (peer_after p (Receive (Coop q))) q passes.low joined)
    (joins p q passes.complete)

-- a step that may be made
step_adds : (es : List HostEvent) (by : Option LinkId) (step : Step) → MayHappen es (Made by step) → (host_peer es).held ≡ [] → AddsLittle (host_peer es) (peer_after (host_peer es) step)
step_adds es by (Edit edit) may none = edit_requests (host_peer es) edit
step_adds es by (Administer op) may none = operation_requests (host_peer es) op
step_adds es None (Receive m) may none = absurd cc
step_adds es (Some l) (Receive (Coop q)) may none = request_adds (host_peer es) (denied_of l.site es) q (takes es l q may).door
step_adds es (Some l) (Receive (Admin e)) may none = absurd (no_entry es l e may)
step_adds es by Settle may none = settle_requests (host_peer es) none
step_adds es by ValidateNext may none = validation_requests (host_peer es)
step_adds es by (Look from) may none = adds_none (host_peer es) (host_peer es) refl
step_adds es by Show may none = adds_none (host_peer es) (host_peer es) refl

-- ---- the hold and the clock

pub held : HeldLaw
held [] h none = refl
held (Began p document ∷ es) h none = none
held (Made by step ∷ es) h none = let old = held es h.1 none in (step_adds es by step h.0 old).held ∙ old
held (e ∷ es) h none = held es h.1 none

-- the greatest stamp with one more request
greatest_push : (requests : List Request) (q : Request) → greatest_stamp (requests ++ q ∷ []) ≡ max (greatest_stamp requests) q.id.stamp
greatest_push requests q = fold_push (λ stamp (r : Request). max stamp r.id.stamp) 0 requests q

-- a clock that ran slowly enough does so still
clock_on : (H K : List Request) (stamp count : ℕ) → (K ≡ H) ⊎ ((q : Request) × (q.id.stamp ≤ greatest_stamp H + 1) × (K ≡ H ++ q ∷ []))
    → greatest_stamp H + count ≤ stamp + length H → greatest_stamp K + count ≤ stamp + length K
clock_on H K stamp count (inl same) old = subst (λ (R : List Request). greatest_stamp R + count ≤ stamp + length R) (sym same) old
clock_on H K stamp count (inr more) old =
    let q : Request = more.0 in
    let low : q.id.stamp ≤ greatest_stamp H + 1 = more.1 in
    let greatest = greatest_push H q in
    let size = length-append H (q ∷ []) in
    subst (λ (R : List Request). greatest_stamp R + count ≤ stamp + length R) (sym more.2) (omega arith)

pub clock : ClockLaw
clock [] h none = omega arith
clock (Began p document ∷ es) h none = omega arith
clock (Made by step ∷ es) h none =
    clock_on (history (host_peer es)) (history (peer_after (host_peer es) step)) (greatest_stamp (history (first_peer es))) (length (history (first_peer es)))
    (step_adds es by step h.0 (held es h.1 none)).requests (clock es h.1 none)
clock (e ∷ es) h none = clock es h.1 none

-- ---- the owners' reserve

-- a request takes no version
log_stays : (p : Peer) (q : Request) → log (integrate p (Coop q)) ≡ log p
log_stays p q = entries_append p.journal (Coop q ∷ []) ∙ append-nil (log p)

few_joined : (p : Peer) (q : Request) → length (history p) < LINK_REQUESTS → length (history (integrate p (Coop q))) ≤ LINK_REQUESTS
few_joined p q few =
    let size = length-append (history p) (q ∷ []) in
    subst (λ (R : List Request). length R ≤ LINK_REQUESTS) (sym (requests_request p.journal q)) (omega arith)

pub reserve : ReserveLaw
reserve es l (Coop q) h =
    let p : Peer = host_peer es in
    let door = (takes es l q h.0).door in
    let few : length (history p) < LINK_REQUESTS = door.room in
    let Kept : Peer → Type 0 = λ (r : Peer). (log r ≡ log p) × (length (history r) ≤ LINK_REQUESTS) in
    ⊎_elim
    (λ (same : peer_after p (Receive (Coop q)) ≡ p). subst Kept (sym same) (refl, omega arith))
    (λ (joined : peer_after p (Receive (Coop q)) ≡ integrate p (Coop q)). subst Kept (sym joined) (log_stays p q, few_joined p q few))
    (joins p q door.complete)
reserve es l (Admin e) h = absurd (no_entry es l e h.0)

-- ---- the share

-- what is offered is a message
offered : (step : Step) → is_offer step ≡ true → (m : Message) × (step ≡ Receive m)
offered (Receive m) h = (m, refl)
offered (Edit edit) h = absurd cc
offered (Administer op) h = absurd cc
offered Settle h = absurd cc
offered ValidateNext h = absurd cc
offered (Look from) h = absurd cc
offered Show h = absurd cc

-- a link whose offer is taken has some of its share left
share_left : (es : List HostEvent) (l : LinkId) (m : Message) → ask_refusal es l (Receive m) ≡ None → denied_of l.site es < MAX_DENIED
share_left es l (Coop q) may = (takes es l q may).door.share
share_left es l (Admin e) may = absurd (no_entry es l e may)

share_on : (es : List HostEvent) (l : LinkId) (step : Step) (u : ℕ) → ask_refusal es l step ≡ None → (denial b : Bool) → (nat_eq l.site u && (is_offer step && denial)) ≡ b
    → denied_of u es ≤ MAX_DENIED → cond b (denied_of u es + 1) (denied_of u es) ≤ MAX_DENIED
share_on es l step u may denial false is old = old
share_on es l step u may denial true is old =
    let both = and_parts (nat_eq l.site u) (is_offer step && denial) is in
    let message = offered step (and_parts (is_offer step) denial both.1).0 in
    let left : denied_of l.site es < MAX_DENIED = share_left es l message.0 (subst (λ (s : Step). ask_refusal es l s ≡ None) message.1 may) in
    let here : denied_of u es < MAX_DENIED = subst (λ (v : ℕ). denied_of v es < MAX_DENIED) (eqb-true l.site u both.0) left in
    omega arith

pub share : ShareLaw
share [] u h = omega arith
share (Made None step ∷ es) u h = share es u h.1
share (Made (Some l) step ∷ es) u h =
    let denial : Bool = is_denial (answer_of (host_peer es) step) in
    share_on es l step u h.0 denial (nat_eq l.site u && (is_offer step && denial)) refl (share es u h.1)
share (e ∷ es) u h = share es u h.1

-- ---- the counts

-- a link that asks for a step is the open one of its site
asked_link : (es : List HostEvent) (l : LinkId) (step : Step) → ask_refusal es l step ≡ None → IsSome (link_of l.site es)
asked_link es l step may = by (open_link es l) refl may
  where
    by : (o : Option OpenLink) → open_link es l ≡ o → option_map_or (λ (x : OpenLink). refusal_by es l.site x step) o (Some NoLink) ≡ None → IsSome (link_of l.site es)
    by None is may = absurd cc
    by (Some x) is may = subst (λ (o : Option OpenLink). IsSome o) (sym (open_known es l x is).0) refl

-- a link that asks for a step has its place, and has some of its share left
pub place_of : (es : List HostEvent) (counts : BTreeMap ℕ ℕ) (by : Option LinkId) (step : Step) → IsPast es → MayHappen es (Made by step)
    → ((u : ℕ) → unwrap_or (get nat_cmp counts u) 0 ≡ denied_of u es) → ((u : ℕ) → IsSome (link_of u es) → IsSome (get nat_cmp counts u))
    → IfSome by (λ l. IsSomeAnd (get nat_cmp counts l.site) (λ count. count ≤ MAX_DENIED))
place_of es counts None step h may are there = tt
place_of es counts (Some l) step h may are there =
    by (get nat_cmp counts l.site) (there l.site (asked_link es l step may)) (subst (λ (n : ℕ). n ≤ MAX_DENIED) (sym (are l.site)) (share es l.site h))
  where
    by : (o : Option ℕ) → IsSome o → unwrap_or o 0 ≤ MAX_DENIED → IsSomeAnd o (λ count. count ≤ MAX_DENIED)
    by None some few = absurd cc
    by (Some count) some few = few
