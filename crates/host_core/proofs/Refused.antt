-- What there is where a host refuses nothing.
use Rattle.std.proofs.Common.{◌≡◌, ℕ, ◌+◌, ◌<◌, ◌≤◌, Bool, true, false, not, ◌&&◌, List, [], ◌∷◌, length, Some, None, refl, sym, subst, inl, inr}
use Rattle.std.specs.Prelude.{◌⊎◌, nat_lt, nat_le, nat_eq, bytes_eq, option_and_then, IsSomeAnd}
use Rattle.std.specs.declared.option.Option.{Option}
use Rattle.std.specs.Option.{option_map_or}
use Rattle.std.specs.Cmp.Lexicographic.{same_text}
use Rattle.std.proofs.lemmas.Bool.{eqb-true, ltb-false, leb-false, not-false, and_parts}
use Rattle.std.proofs.lemmas.Option.{same_Some}
use Rattle.sha2.specs.Sha256.{sha256}
use Rattle.element_name.specs.Cases.{when}
use Rattle.element_name.proofs.CaseLemmas.{when-None, when-Some, option_map-None}
use Rattle.coop_request.specs.Request.{Request}
use Rattle.policy_book.specs.Entry.{Entry}
use Rattle.edit_message.specs.declared.message.Message.{Message}
use Rattle.edit_message.specs.declared.message.Message.TheVariants.{Coop, Admin}
use Rattle.peer_step.specs.declared.step.Step.{Step}
use Rattle.peer_step.specs.declared.step.Step.TheVariants.{Edit, Administer, Receive, Settle, ValidateNext, Look, Show}
use Rattle.peer_step.proofs.Rows.{first_has, when_has, map_has}
use Rattle.peer_tables.specs.Derived.{greatest_stamp}
use Rattle.peer_tables.proofs.JournalLemmas.{no_row}
use Rattle.peer_core.specs.Peer.{Peer, history, missing}
use Rattle.host_core.specs.declared.limits.TheConstants.{MAX_OPENED, LINK_REQUESTS, MAX_DENIED}
use Rattle.host_core.specs.declared.event.Role.{Role}
use Rattle.host_core.specs.declared.event.Role.TheVariants.{Owner, Writer, Reader}
use Rattle.host_core.specs.declared.event.Device.{Device}
use Rattle.host_core.specs.declared.event.Hello.{Hello}
use Rattle.host_core.specs.declared.event.LinkId.{LinkId}
use Rattle.host_core.specs.declared.event.OpenLink.{OpenLink}
use Rattle.host_core.specs.declared.event.HostEvent.{HostEvent}
use Rattle.host_core.specs.declared.refusal.Refusal.{Refusal}
use Rattle.host_core.specs.declared.refusal.Refusal.TheVariants.{OtherDocument, WrongSecret, AheadOfHost, NoLink, ReadsAlone, ForgedSite, EntryOffered, NotAllowed, StampAhead, Misses, DeniedTooOften, OwnersReserve, NumbersUsedUp}
use Rattle.host_core.specs.Past.{document_of, host_peer, saved_journal, device_of, links_opened, link_of, open_link, denied_of}
use Rattle.host_core.specs.Refusals.{is_owner, reads_alone, rows_of_request, has_secret, hello_refusal, request_refusal, refusal_by, ask_refusal}
use Rattle.host_core.specs.Outside.{IsFor}
use Rattle.host_core.specs.Laws.{IsByOwner}

-- ---- an open link

-- is the link of its site, by its number
pub open_known : (es : List HostEvent) (l : LinkId) (x : OpenLink) → open_link es l ≡ Some x → (link_of l.site es ≡ Some x) × (x.number ≡ l.number)
open_known es l x h = by (link_of l.site es) h
  where
    by : (o : Option OpenLink) → option_and_then (λ (y : OpenLink). when (nat_eq y.number l.number) y) o ≡ Some x → (o ≡ Some x) × (x.number ≡ l.number)
    by None h = absurd cc
    by (Some y) h =
        let there = when-Some (nat_eq y.number l.number) y x h in
        let number : y.number ≡ l.number = eqb-true y.number l.number there.0 in
        (subst (λ (z : OpenLink). Some y ≡ Some z) there.1 refl, subst (λ (z : OpenLink). z.number ≡ l.number) there.1 number)

-- ---- a hello

-- has the secret of its site's device, and is not ahead
pub record Opens (es : List HostEvent) (hello : Hello) : Type 0 where
  pub device : Device
  pub device_is : device_of hello.site es ≡ Some device
  pub is_key : device.digest ≡ sha256 hello.secret
  pub behind : hello.from ≤ length (saved_journal es)

pub opens : (es : List HostEvent) (hello : Hello) → hello_refusal es hello ≡ None → Opens es hello
opens es hello h =
    let shown : Bool = option_map_or (has_secret hello.secret) (device_of hello.site es) false in
    let rows = no_row (
    when (not (bytes_eq (document_of es) hello.document)) OtherDocument
    ∷ when (not shown) WrongSecret
    ∷ when (nat_lt (length (saved_journal es)) hello.from) AheadOfHost
    ∷ when (nat_le MAX_OPENED (links_opened es)) NumbersUsedUp
    ∷ []) h in
    by (device_of hello.site es) refl (not-false shown (when-None (not shown) WrongSecret rows.1.0))
    (ltb-false (length (saved_journal es)) hello.from (when-None (nat_lt (length (saved_journal es)) hello.from) AheadOfHost rows.1.1.0))
  where
    by : (o : Option Device) → device_of hello.site es ≡ o → option_map_or (has_secret hello.secret) o false ≡ true → hello.from ≤ length (saved_journal es) → Opens es hello
    by None is shown behind = absurd cc
    by (Some d) is shown behind = record { device = d; device_is = is; is_key = same_text d.digest (sha256 hello.secret) (sym shown); behind = behind }

-- ---- what a link asks for

-- what the door asks of a request
pub record Passes (p : Peer) (denied : ℕ) (q : Request) : Type 0 where
  pub low : q.id.stamp ≤ greatest_stamp (history p) + 1
  pub complete : missing p (Coop q) ≡ None
  pub share : denied < MAX_DENIED
  pub room : length (history p) < LINK_REQUESTS

-- of the open link of its site, past the door
pub record Takes (es : List HostEvent) (l : LinkId) (q : Request) : Type 0 where
  pub link : OpenLink
  pub open_is : open_link es l ≡ Some link
  pub of_site : q.id.site ≡ l.site
  pub door : Passes (host_peer es) (denied_of l.site es) q

pub takes : (es : List HostEvent) (l : LinkId) (q : Request) → ask_refusal es l (Receive (Coop q)) ≡ None → Takes es l q
takes es l q h = by (open_link es l) refl h
  where
    by : (o : Option OpenLink) → open_link es l ≡ o → option_map_or (λ (x : OpenLink). refusal_by es l.site x (Receive (Coop q))) o (Some NoLink) ≡ None → Takes es l q
    by None is h = absurd cc
    by (Some x) is h =
        let p : Peer = host_peer es in
        let denied : ℕ = denied_of l.site es in
        let rows = no_row (rows_of_request es l.site x q) h in
        record {
          link = x;
          open_is = is;
          of_site = eqb-true q.id.site l.site (not-false (nat_eq q.id.site l.site) (when-None (not (nat_eq q.id.site l.site)) ForgedSite rows.1.0));
          door = record {
            low = ltb-false (greatest_stamp (history p) + 1) q.id.stamp (when-None (nat_lt (greatest_stamp (history p) + 1) q.id.stamp) StampAhead rows.1.1.0);
            complete = option_map-None Misses (missing p (Coop q)) rows.1.1.1.0;
            share = leb-false MAX_DENIED denied (when-None (nat_le MAX_DENIED denied) DeniedTooOften rows.1.1.1.1.0);
            room = leb-false LINK_REQUESTS (length (history p)) (when-None (nat_le LINK_REQUESTS (length (history p))) OwnersReserve rows.1.1.1.1.1.0);
          };
        }

-- no link brings an entry
pub no_entry : (es : List HostEvent) (l : LinkId) (e : Entry) → ask_refusal es l (Receive (Admin e)) ≡ None → ⊥
no_entry es l e h = by (open_link es l) h
  where
    by : (o : Option OpenLink) → option_map_or (λ (x : OpenLink). refusal_by es l.site x (Receive (Admin e))) o (Some NoLink) ≡ None → ⊥
    by None h = cc
    by (Some x) h = cc

-- an order is an owner's
owner_role : (role : Role) → is_owner role ≡ true → role ≡ Owner
owner_role Owner h = refl
owner_role Writer h = absurd cc
owner_role Reader h = absurd cc

owner_of : (x : OpenLink) (order : Bool) → when (not (is_owner x.role && order)) NotAllowed ≡ None → x.role ≡ Owner
owner_of x order h =
    owner_role x.role (and_parts (is_owner x.role) order (not-false (is_owner x.role && order) (when-None (not (is_owner x.role && order)) NotAllowed h))).0

-- so what a link asks for is a message, or an owner's
pub asks : (es : List HostEvent) (l : LinkId) (step : Step) → ask_refusal es l step ≡ None → ((m : Message) × (step ≡ Receive m)) ⊎ IsByOwner es (Some l)
asks es l step h = by (open_link es l) refl h
  where
    known : (x : OpenLink) → open_link es l ≡ Some x → x.role ≡ Owner → IsByOwner es (Some l)
    known x is role = subst (λ (o : Option OpenLink). IsSomeAnd o (λ y. y.role ≡ Owner)) (sym is) role

    order : (s : Step) (x : OpenLink) → open_link es l ≡ Some x → refusal_by es l.site x s ≡ None → ((m : Message) × (s ≡ Receive m)) ⊎ IsByOwner es (Some l)
    order (Receive m) x is h = inl (m, refl)
    order (Edit edit) x is h = inr (known x is (owner_of x true h))
    order (Administer op) x is h = inr (known x is (owner_of x true h))
    order Settle x is h = inr (known x is (owner_of x false h))
    order ValidateNext x is h = inr (known x is (owner_of x true h))
    order (Look from) x is h = inr (known x is (owner_of x false h))
    order Show x is h = inr (known x is (owner_of x false h))

    by : (o : Option OpenLink) → open_link es l ≡ o → option_map_or (λ (x : OpenLink). refusal_by es l.site x step) o (Some NoLink) ≡ None → ((m : Message) × (step ≡ Receive m)) ⊎ IsByOwner es (Some l)
    by None is h = absurd cc
    by (Some x) is h = order step x is h

-- ---- what is told is no want of memory, and no failure of what keeps the peer

abbrev IsTold : Refusal → Type 0
IsTold refusal = IsFor refusal (Some refusal)

pub told : (es : List HostEvent) (l : LinkId) (step : Step) (refusal : Refusal) → ask_refusal es l step ≡ Some refusal → IsFor refusal (ask_refusal es l step)
told es l step refusal h = subst (IsFor refusal) (sym h) (by (open_link es l) h)
  where
    order : (allowed : Bool) → when (not allowed) NotAllowed ≡ Some refusal → IsTold refusal
    order allowed h = subst IsTold (when-Some (not allowed) NotAllowed refusal h).1 refl

    request : (x : OpenLink) (q : Request) → request_refusal es l.site x q ≡ Some refusal → IsTold refusal
    request x q h =
        let p : Peer = host_peer es in
        let denied : ℕ = denied_of l.site es in
        first_has IsTold (rows_of_request es l.site x q) refusal (
          when_has IsTold (reads_alone x.role) ReadsAlone (λ t. refl),
          (
            when_has IsTold (not (nat_eq q.id.site l.site)) ForgedSite (λ t. refl),
            (
              when_has IsTold (nat_lt (greatest_stamp (history p) + 1) q.id.stamp) StampAhead (λ t. refl),
              (
                map_has IsTold Misses (missing p (Coop q)) (λ what t. refl),
                (when_has IsTold (nat_le MAX_DENIED denied) DeniedTooOften (λ t. refl), (when_has IsTold (nat_le LINK_REQUESTS (length (history p))) OwnersReserve (λ t. refl), tt)),
              ),
            ),
          ),
        ) h

    asked : (s : Step) (x : OpenLink) → refusal_by es l.site x s ≡ Some refusal → IsTold refusal
    asked (Receive (Coop q)) x h = request x q h
    asked (Receive (Admin e)) x h = subst IsTold (same_Some EntryOffered refusal h) refl
    asked (Edit edit) x h = order (is_owner x.role && true) h
    asked (Administer op) x h = order (is_owner x.role && true) h
    asked Settle x h = order (is_owner x.role && false) h
    asked ValidateNext x h = order (is_owner x.role && true) h
    asked (Look from) x h = order (is_owner x.role && false) h
    asked Show x h = order (is_owner x.role && false) h

    by : (o : Option OpenLink) → option_map_or (λ (x : OpenLink). refusal_by es l.site x step) o (Some NoLink) ≡ Some refusal → IsTold refusal
    by None h = subst IsTold (same_Some NoLink refusal h) refl
    by (Some x) h = asked step x h
