-- Where what a host has comes from.
use Rattle.std.proofs.Common.{◌≡◌, ℕ, inl, inr, ⊎_elim, Bool, true, false, cond, List, [], ◌∷◌, Some, None, refl, ap, sym, subst, ◌∙◌}
use Rattle.std.specs.Prelude.{◌⊎◌, option_map, nat_eq, Contains, IsSome, IsTrue}
use Rattle.std.specs.declared.option.Option.{Option}
use Rattle.std.proofs.lemmas.Bool.{eqb-true}
use Rattle.std.proofs.lemmas.Option.{same_Some}
use Rattle.coop_request.specs.Request.{Request}
use Rattle.policy_book.specs.Entry.{Entry}
use Rattle.edit_message.specs.declared.message.Message.{Message}
use Rattle.edit_message.specs.declared.message.Message.TheVariants.{Coop, Admin}
use Rattle.request_state.specs.declared.state.Undone.{Undone}
use Rattle.peer_step.specs.declared.step.Step.{Step}
use Rattle.peer_step.specs.declared.step.Step.TheVariants.{Receive}
use Rattle.peer_step.specs.declared.answer.Answer.TheVariants.{Issued}
use Rattle.tomb_seq.proofs.Has.{Has, Has-from_Contains, Contains-from_Has}
use Rattle.peer_core.specs.Peer.{Peer}
use Rattle.peer_core.specs.Answers.{answer_of}
use Rattle.peer_core.proofs.AnswerLemmas.Causes.{IssuesNone, received}
use Rattle.peer_core.proofs.AfterLemmas.{same_site}
use Rattle.host_core.specs.declared.event.LinkId.{LinkId}
use Rattle.host_core.specs.declared.event.OpenLink.{OpenLink}
use Rattle.host_core.specs.declared.event.HostEvent.{HostEvent}
use Rattle.host_core.specs.declared.event.HostEvent.TheVariants.{Began, SecretChanged, DeviceClosed, LinkOpened, LinkClosed, Made, Gave}
use Rattle.host_core.specs.Past.{first_peer, host_peer, device_of, links_opened, link_by, moved_on, link_of}
use Rattle.host_core.specs.Refusals.{is_own, ask_refusal}
use Rattle.host_core.specs.Happens.{MayHappen, IsPast}
use Rattle.host_core.specs.Laws.{messages_had, OpenedByKey, CameByKey, AuthenticLaw, IsByOwner, WasOrdered, OrderedLaw}
use Rattle.host_core.proofs.Growing.{Origin, origin}
use Rattle.host_core.proofs.Refused.{open_known, opens, takes, no_entry, asks}
use Rattle.host_core.proofs.InOrder.{not_closed, opened_by, given_link}

-- ---- where a link was opened

-- with one more event
opened_more : (e : HostEvent) (es : List HostEvent) (l : LinkId) → OpenedByKey es l → OpenedByKey (e ∷ es) l
opened_more e es l was = record {
  hello = was.hello;
  device = was.device;
  between = e ∷ was.between;
  earlier = was.earlier;
  opened = ap (λ (fs : List HostEvent). e ∷ fs) was.opened;
  by_site = was.by_site;
  number = was.number;
  device_is = was.device_is;
  is_key = was.is_key;
}

-- the open link of a site as one of all links
abbrev link_at : ℕ → OpenLink → LinkId
link_at u x = record { site = u; number = x.number }

-- the link of a site was opened with the secret of its device
was_opened : (es : List HostEvent) (u : ℕ) (x : OpenLink) → IsPast es → link_of u es ≡ Some x → OpenedByKey es (link_at u x)
was_opened [] u x h is = absurd cc
was_opened (SecretChanged v digest ∷ es) u x h is =
    opened_more (SecretChanged v digest) es (link_at u x) (was_opened es u x h.1 (not_closed (nat_eq v u) (link_of u es) x is))
was_opened (DeviceClosed v ∷ es) u x h is =
    opened_more (DeviceClosed v) es (link_at u x) (was_opened es u x h.1 (not_closed (nat_eq v u) (link_of u es) x is))
was_opened (LinkClosed l ∷ es) u x h is =
    opened_more (LinkClosed l) es (link_at u x) (was_opened es u x h.1 (not_closed (nat_eq l.site u) (link_of u es) x is))
was_opened (LinkOpened hello ∷ es) u x h is = by (nat_eq hello.site u) refl is (was_opened es u x h.1)
  where
    by : (b : Bool) → nat_eq hello.site u ≡ b → cond b (option_map (link_by (links_opened es) hello) (device_of u es)) (link_of u es) ≡ Some x
        → (link_of u es ≡ Some x → OpenedByKey es (link_at u x)) → OpenedByKey (LinkOpened hello ∷ es) (link_at u x)
    by true e some rest =
        let opened = opened_by (links_opened es) hello (device_of u es) x some in
        let found = opens es hello h.0 in
        let site : hello.site ≡ u = eqb-true hello.site u e in
        record {
          hello = hello;
          device = found.device;
          between = [];
          earlier = es;
          opened = refl;
          by_site = site;
          number = sym (ap (λ (y : OpenLink). y.number) opened.link_is);
          device_is = subst (λ (v : ℕ). device_of v es ≡ Some found.device) site found.device_is;
          is_key = found.is_key;
        }
    by false e some rest = opened_more (LinkOpened hello) es (link_at u x) (rest some)
was_opened (Gave l m ∷ es) u x h is = opened_more (Gave l m) es (link_at u x) (by (nat_eq l.site u) refl is (λ (y : OpenLink) known. was_opened es u y h.1 known))
  where
    by : (b : Bool) → nat_eq l.site u ≡ b → cond b (option_map moved_on (link_of u es)) (link_of u es) ≡ Some x
        → ((y : OpenLink) → link_of u es ≡ Some y → OpenedByKey es (link_at u y)) → OpenedByKey es (link_at u x)
    by true e some rest =
        let y : OpenLink = h.0.link in
        let known = given_link es l m u h.0 e in
        let moved : Some (moved_on y) ≡ Some x = subst (λ (o : Option OpenLink). option_map moved_on o ≡ Some x) known some in
        subst (λ (z : OpenLink). OpenedByKey es (link_at u z)) (same_Some (moved_on y) x moved) (rest y known)
    by false e some rest = rest x some
was_opened (e ∷ es) u x h is = opened_more e es (link_at u x) (was_opened es u x h.1 is)

-- ---- requests

-- the host's site is the one that it began with
site_stays : (es : List HostEvent) → (host_peer es).site ≡ (first_peer es).site
site_stays [] = refl
site_stays (Began p document ∷ es) = refl
site_stays (Made by step ∷ es) = same_site (host_peer es) step (answer_of (host_peer es) step) ∙ site_stays es
site_stays (e ∷ es) = site_stays es

-- a request that the host has
abbrev Authentic : List HostEvent → Request → Type 0
Authentic es q = Contains (messages_had (first_peer es)) (Coop q) ⊎ ((q.id.site ≡ (first_peer es).site) ⊎ CameByKey es q)

-- with one more event behind which the host began with the same peer
came_more : (e : HostEvent) (es : List HostEvent) (q : Request) → CameByKey es q → CameByKey (e ∷ es) q
came_more e es q c = record {
  link = c.link;
  later = e ∷ c.later;
  before = c.before;
  came = ap (λ (fs : List HostEvent). e ∷ fs) c.came;
  of_site = c.of_site;
  still_open = c.still_open;
  by_key = c.by_key;
}

authentic_more : (e : HostEvent) (es : List HostEvent) (q : Request) → first_peer (e ∷ es) ≡ first_peer es → Authentic es q → Authentic (e ∷ es) q
authentic_more e es q same (inl start) = inl (subst (λ (p : Peer). Contains (messages_had p) (Coop q)) (sym same) start)
authentic_more e es q same (inr (inl own)) = inr (inl (own ∙ sym (ap (λ (p : Peer). p.site) same)))
authentic_more e es q same (inr (inr c)) = inr (inr (came_more e es q c))

-- a request that the host received came by its key
received_by_key : (es : List HostEvent) (by : Option LinkId) (step : Step) (q : Request) → IsPast es → MayHappen es (Made by step) → step ≡ Receive (Coop q) → CameByKey (Made by step ∷ es) q
received_by_key es None step q h may is = let own : IsTrue (is_own (Receive (Coop q))) = subst (λ (s : Step). IsTrue (is_own s)) is may in absurd cc
received_by_key es (Some l) step q h may is =
    let taken = takes es l q (subst (λ (s : Step). ask_refusal es l s ≡ None) is may) in
    let known = open_known es l taken.link taken.open_is in
    record {
      link = l;
      later = [];
      before = es;
      came = ap (λ (s : Step). Made (Some l) s ∷ es) is;
      of_site = sym taken.of_site;
      still_open = subst (λ (o : Option OpenLink). IsSome o) (sym taken.open_is) refl;
      by_key = subst (λ (n : ℕ). OpenedByKey es (record { site = l.site; number = n })) known.1 (was_opened es l.site taken.link h known.0);
    }

authentic_has : (es : List HostEvent) (q : Request) → IsPast es → Has (messages_had (host_peer es)) (Coop q) → Authentic es q
authentic_has [] q h there = absurd there
authentic_has (Began p document ∷ es) q h there = inl (Contains-from_Has (messages_had p) (Coop q) there)
authentic_has (Made by step ∷ es) q h there = from (origin (host_peer es) step (Coop q) there) (authentic_has es q h.1)
  where
    from : Origin (host_peer es) step (answer_of (host_peer es) step) (Coop q) → (Has (messages_had (host_peer es)) (Coop q) → Authentic es q) → Authentic (Made by step ∷ es) q
    from (inl old) rest = authentic_more (Made by step) es q refl (rest old)
    from (inr (inl is)) rest = inr (inr (received_by_key es by step q h.1 h.0 is))
    from (inr (inr own)) rest = inr (inl (own ∙ site_stays es))
authentic_has (e ∷ es) q h there = authentic_more e es q refl (authentic_has es q h.1 there)

pub authentic : AuthenticLaw
authentic es q h there = authentic_has es q h (Has-from_Contains (messages_had (host_peer es)) (Coop q) there)

-- ---- entries

-- an entry that the host has
abbrev Ordered : List HostEvent → Entry → Type 0
Ordered es e = Contains (messages_had (first_peer es)) (Admin e) ⊎ WasOrdered es e

ordered_more : (f : HostEvent) (es : List HostEvent) (e : Entry) → first_peer (f ∷ es) ≡ first_peer es → Ordered es e → Ordered (f ∷ es) e
ordered_more f es e same (inl start) = inl (subst (λ (p : Peer). Contains (messages_had p) (Admin e)) (sym same) start)
ordered_more f es e same (inr was) = inr (record {
  by = was.by;
  step = was.step;
  undone = was.undone;
  later = f ∷ was.later;
  before = was.before;
  came = ap (λ (fs : List HostEvent). f ∷ fs) was.came;
  owner = was.owner;
  issued = was.issued;
})

-- a message that is received issues nothing
none_issued : (p : Peer) (step : Step) (m : Message) (e : Entry) (undone : Undone) → step ≡ Receive m → answer_of p step ≡ Issued e undone → ⊥
none_issued p step m e undone is issued =
    subst IssuesNone (subst (λ (s : Step). answer_of p s ≡ Issued e undone) is issued) (received p m)

-- a step that issued an entry was an owner's
by_owner : (es : List HostEvent) (by : Option LinkId) (step : Step) (e : Entry) (undone : Undone) → MayHappen es (Made by step)
    → answer_of (host_peer es) step ≡ Issued e undone → IsByOwner es by
by_owner es None step e undone may issued = tt
by_owner es (Some l) step e undone may issued = ⊎_elim
    (λ (r : (m : Message) × (step ≡ Receive m)). absurd (none_issued (host_peer es) step r.0 e undone r.1 issued))
    (λ (owner : IsByOwner es (Some l)). owner)
    (asks es l step may)

-- an entry isn't received
not_received : (es : List HostEvent) (by : Option LinkId) (step : Step) (e : Entry) → MayHappen es (Made by step) → step ≡ Receive (Admin e) → ⊥
not_received es None step e may is = let own : IsTrue (is_own (Receive (Admin e))) = subst (λ (s : Step). IsTrue (is_own s)) is may in cc
not_received es (Some l) step e may is = no_entry es l e (subst (λ (s : Step). ask_refusal es l s ≡ None) is may)

ordered_has : (es : List HostEvent) (e : Entry) → IsPast es → Has (messages_had (host_peer es)) (Admin e) → Ordered es e
ordered_has [] e h there = absurd there
ordered_has (Began p document ∷ es) e h there = inl (Contains-from_Has (messages_had p) (Admin e) there)
ordered_has (Made by step ∷ es) e h there = from (origin (host_peer es) step (Admin e) there) (ordered_has es e h.1)
  where
    from : Origin (host_peer es) step (answer_of (host_peer es) step) (Admin e) → (Has (messages_had (host_peer es)) (Admin e) → Ordered es e) → Ordered (Made by step ∷ es) e
    from (inl old) rest = ordered_more (Made by step) es e refl (rest old)
    from (inr (inl is)) rest = absurd (not_received es by step e h.0 is)
    from (inr (inr own)) rest = inr (record {
      by = by;
      step = step;
      undone = own.0;
      later = [];
      before = es;
      came = refl;
      owner = by_owner es by step e own.0 h.0 own.1;
      issued = own.1;
    })
ordered_has (f ∷ es) e h there = ordered_more f es e refl (ordered_has es e h.1 there)

pub ordered : OrderedLaw
ordered es e h there = ordered_has es e h (Has-from_Contains (messages_had (host_peer es)) (Admin e) there)
