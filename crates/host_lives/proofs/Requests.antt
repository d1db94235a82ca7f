-- Which device each request is of.
use Rattle.std.proofs.Common.{◌≡◌, ℕ, inl, inr, true, List, [], ◌∷◌, ◌++◌, Some, None, refl, ap, sym, subst, ◌∙◌, arith}
use Rattle.std.specs.Prelude.{◌⊎◌, Contains, IsSome}
use Rattle.std.specs.declared.option.Option.{Option}
use Rattle.std.proofs.lemmas.List.{append-nil}
use Rattle.std.proofs.lemmas.List.Elements.{Contains-append_left}
use Rattle.sha2.specs.Sha256.{sha256}
use Rattle.coop_request.specs.Request.{Request}
use Rattle.edit_message.specs.declared.message.Message.{Message}
use Rattle.edit_message.specs.declared.message.Message.TheVariants.{Coop}
use Rattle.peer_step.specs.declared.step.Step.TheVariants.{Receive}
use Rattle.host_core.specs.declared.event.Hello.{Hello}
use Rattle.host_core.specs.declared.event.HostEvent.{HostEvent}
use Rattle.host_core.specs.declared.event.HostEvent.TheVariants.{Began, LinkOpened, Made}
use Rattle.host_core.specs.Past.{first_peer, host_peer, links_opened, open_link}
use Rattle.host_core.specs.Happens.{MayHappen}
use Rattle.host_core.specs.Laws.{messages_had, CameByKey, AuthenticLaw}
use Rattle.host_people.specs.declared.change.Change.{Change}
use Rattle.host_people.specs.declared.people.Holder.{Holder}
use Rattle.host_people.specs.Holders.{device_holder}
use Rattle.host_lives.specs.Lives.{LifeEvent, AtDocument, LifeEnded, changes_saved, this_life, journal_left, LeavesJournal, MayLeave, IsHeldBy, IsOpenBy, IsPeerOf, IsByFiles, AreLives}
use Rattle.host_lives.specs.Laws.{CameByDevice, IsOfDevice, KnownDeviceLaw}
use Rattle.host_lives.proofs.Lasting.{lives_before, past_of_life, holder_lasts, held_by}

-- ---- where an event of this life stands in all lives

pub record StandsAt (ls : List LifeEvent) (e : HostEvent) (before : List HostEvent) : Type 0 where
  pub after : List LifeEvent
  pub rest : List LifeEvent
  pub split : ls ≡ after ++ AtDocument e ∷ rest
  pub same : this_life rest ≡ before

stands_behind : (l : LifeEvent) (ls : List LifeEvent) (e : HostEvent) (before : List HostEvent) → StandsAt ls e before → StandsAt (l ∷ ls) e before
stands_behind l ls e before place =
    record { after = l ∷ place.after; rest = place.rest; split = ap (λ (ks : List LifeEvent). l ∷ ks) place.split; same = place.same }

none_in_none : (later : List HostEvent) (e : HostEvent) (before : List HostEvent) → [] ≡ later ++ e ∷ before → ⊥
none_in_none [] e before is = cc
none_in_none (f ∷ later) e before is = cc

stands_at : (ls : List LifeEvent) (later : List HostEvent) (e : HostEvent) (before : List HostEvent) → this_life ls ≡ later ++ e ∷ before → StandsAt ls e before
stands_at [] later e before is = absurd (none_in_none later e before is)
stands_at (AtDocument d ∷ ls) [] e before is =
    let head : d ≡ e = cc in
    record { after = []; rest = ls; split = ap (λ (f : HostEvent). AtDocument f ∷ ls) head; same = cc }
stands_at (AtDocument d ∷ ls) (f ∷ later) e before is = stands_behind (AtDocument d) ls e before (stands_at ls later e before cc)
stands_at (LifeEnded journal ∷ ls) later e before is = absurd (none_in_none later e before is)
stands_at (l ∷ ls) later e before is = stands_behind l ls e before (stands_at ls later e before is)

-- ---- the device of a link

-- where a link opens, its device is open in the people's file
pub opens_by_file : (left : List Message) (cs : List Change) (es : List HostEvent) (hello : Hello) → IsByFiles left cs es (LinkOpened hello)
    → IsOpenBy hello.secret (device_holder hello.site cs)
opens_by_file left cs [] hello by = absurd by
opens_by_file left cs (d ∷ es) hello by = by

record IsKnownBy (secret : List ℕ) (o : Option Holder) : Type 0 where
  pub holder : Holder
  pub known : o ≡ Some holder
  pub is_key : holder.digest ≡ sha256 secret
  pub was_open : holder.is_open ≡ true

known_by : (secret : List ℕ) (o : Option Holder) → IsOpenBy secret o → IsKnownBy secret o
known_by secret None is = absurd is
known_by secret (Some h) is = record { holder = h; known = refl; is_key = is.0; was_open = is.1 }

-- a request that came by its key in this life came by a device
by_device : (first : List Message) (ls : List LifeEvent) (q : Request) → AreLives first ls → CameByKey (this_life ls) q → (holder : Holder) × CameByDevice ls q holder
by_device first ls q h c =
    let key = c.by_key in
    let made = stands_at ls c.later (Made (Some c.link) (Receive (Coop q))) c.before c.came in
    let opened = stands_at made.rest key.between (LinkOpened key.hello) key.earlier (made.same ∙ key.opened) in
    let lives_then = lives_before first made.after (AtDocument (Made (Some c.link) (Receive (Coop q))) ∷ made.rest)
    (subst (λ (ks : List LifeEvent). AreLives first ks) made.split h) in
    let earlier = lives_before first opened.after (AtDocument (LinkOpened key.hello) ∷ opened.rest)
    (subst (λ (ks : List LifeEvent). AreLives first ks) opened.split lives_then.1) in
    let by_file = opens_by_file (journal_left first opened.rest) (changes_saved opened.rest) (this_life opened.rest) key.hello earlier.0.1 in
    let device = known_by key.hello.secret (device_holder key.hello.site (changes_saved opened.rest)) by_file in
    let site : key.hello.site ≡ q.id.site = key.by_site ∙ c.of_site in
    let past : c.before ≡ this_life (opened.after ++ AtDocument (LinkOpened key.hello) ∷ opened.rest) = sym made.same ∙ ap (λ (ks : List LifeEvent). this_life ks) opened.split in (
      device.holder,
      record {
        link = c.link;
        hello = key.hello;
        after = made.after;
        between = opened.after;
        before = opened.rest;
        came = made.split ∙ ap (λ (ks : List LifeEvent). made.after ++ AtDocument (Made (Some c.link) (Receive (Coop q))) ∷ ks) opened.split;
        of_site = c.of_site;
        still_open = subst (λ (es : List HostEvent). IsSome (open_link es c.link)) past c.still_open;
        number = key.number ∙ sym (ap (λ (es : List HostEvent). links_opened es) opened.same);
        by_site = site;
        known = subst (λ (u : ℕ). device_holder u (changes_saved opened.rest) ≡ Some device.holder) site device.known;
        is_key = device.is_key;
        was_open = device.was_open;
      },
    )

-- ---- the peer with which this life began

-- it is that of the file
begun : (left : List Message) (cs : List Change) (es : List HostEvent) (e : HostEvent) → MayHappen es e → IsByFiles left cs es e
    → (es ≡ []) ⊎ IsPeerOf left (first_peer es) → IsPeerOf left (first_peer (e ∷ es))
begun left cs [] (Began p document) may by before = by
begun left cs [] e may by before = absurd by
begun left cs (d ∷ es) (Began p document) may by before = absurd cc
begun left cs (d ∷ es) e may by (inl none) = absurd cc
begun left cs (d ∷ es) e may by (inr is) = is

-- unless none has begun
began_with : (first : List Message) (ls : List LifeEvent) → AreLives first ls → (this_life ls ≡ []) ⊎ IsPeerOf (journal_left first ls) (first_peer (this_life ls))
began_with first [] h = inl refl
began_with first (AtDocument e ∷ ls) h =
    inr (begun (journal_left first ls) (changes_saved ls) (this_life ls) e h.0.0 h.0.1 (began_with first ls h.1))
began_with first (LifeEnded journal ∷ ls) h = inl refl
began_with first (l ∷ ls) h = began_with first ls h.1

-- ---- where a request is from

-- it was there at first, or is of the host's own site, or came by a device
abbrev pub From : List Message → List LifeEvent → Request → Type 0
From first ls q = Contains first (Coop q) ⊎ ((q.id.site ≡ 0) ⊎ ((holder : Holder) × CameByDevice ls q holder))

-- what came by a device in some lives did in others too, if those have the same up to where it came
pub came_behind : (ls ks : List LifeEvent) (q : Request) (holder : Holder) (c : CameByDevice ls q holder) (after : List LifeEvent)
    → ks ≡ after ++ AtDocument (Made (Some c.link) (Receive (Coop q))) ∷ (c.between ++ AtDocument (LinkOpened c.hello) ∷ c.before) → CameByDevice ks q holder
came_behind ls ks q holder c after is = record {
  link = c.link;
  hello = c.hello;
  after = after;
  between = c.between;
  before = c.before;
  came = is;
  of_site = c.of_site;
  still_open = c.still_open;
  number = c.number;
  by_site = c.by_site;
  known = c.known;
  is_key = c.is_key;
  was_open = c.was_open;
}

from_before : (first : List Message) (l : LifeEvent) (ls : List LifeEvent) (q : Request) → From first ls q → From first (l ∷ ls) q
from_before first l ls q (inl there) = inl there
from_before first l ls q (inr (inl own)) = inr (inl own)
from_before first l ls q (inr (inr came)) =
    inr (inr (came.0, came_behind ls (l ∷ ls) q came.0 came.1 (l ∷ came.1.after) (ap (λ (ks : List LifeEvent). l ∷ ks) came.1.came)))

none_there : (ms : List Message) (m : Message) → ms ≡ [] → Contains ms m → ⊥
none_there [] m none there = let less = there.1 in omega arith
none_there (n ∷ ms) m none there = cc

-- what the peer of this life has integrated, where that is known of what was left
of_peer : AuthenticLaw → (first : List Message) (ls : List LifeEvent) (q : Request) → AreLives first ls → (Contains (journal_left first ls) (Coop q) → From first ls q)
    → Contains (host_peer (this_life ls)).journal (Coop q) → From first ls q
of_peer authentic first ls q h left there = by (began_with first ls h)
  where
    from : IsPeerOf (journal_left first ls) (first_peer (this_life ls))
        → Contains (messages_had (first_peer (this_life ls))) (Coop q) ⊎ ((q.id.site ≡ (first_peer (this_life ls)).site) ⊎ CameByKey (this_life ls) q)
        → From first ls q
    from began (inl at_first) =
        let none : messages_had (first_peer (this_life ls)) ≡ journal_left first ls =
        ap (λ (held : List Message). (first_peer (this_life ls)).journal ++ held) began.none_held ∙ append-nil (first_peer (this_life ls)).journal ∙ began.journal in
        left (subst (λ (ms : List Message). Contains ms (Coop q)) none at_first)
    from began (inr (inl own)) = inr (inl (own ∙ began.administrator))
    from began (inr (inr came)) = inr (inr (by_device first ls q h came))

    by : (this_life ls ≡ []) ⊎ IsPeerOf (journal_left first ls) (first_peer (this_life ls)) → From first ls q
    by (inl none) = absurd (none_there (host_peer (this_life ls)).journal (Coop q) (ap (λ (es : List HostEvent). (host_peer es).journal) none) there)
    by (inr began) = from began (authentic (this_life ls) q (past_of_life first ls h)
        (Contains-append_left (host_peer (this_life ls)).journal (host_peer (this_life ls)).held (Coop q) there))

-- what a crash leaves
of_left : AuthenticLaw → (first : List Message) (ls : List LifeEvent) (q : Request) (journal : List Message) → AreLives first ls
    → (Contains (journal_left first ls) (Coop q) → From first ls q) → MayLeave first ls journal → Contains journal (Coop q) → From first ls q
of_left authentic first ls q journal h left may there = by (this_life ls) refl may
  where
    by : (es : List HostEvent) → this_life ls ≡ es → LeavesJournal (journal_left first ls) es journal → From first ls q
    by [] is same = left (subst (λ (ms : List Message). Contains ms (Coop q)) same there)
    by (e ∷ es) is within =
        let made : Contains (host_peer (e ∷ es)).journal (Coop q) =
        subst (λ (ms : List Message). Contains ms (Coop q)) (sym within.was_made) (Contains-append_left journal within.lost (Coop q) there) in
        of_peer authentic first ls q h left (subst (λ (fs : List HostEvent). Contains (host_peer fs).journal (Coop q)) (sym is) made)

-- what was left by the last life
known_left : AuthenticLaw → (first : List Message) (ls : List LifeEvent) (q : Request) → AreLives first ls → Contains (journal_left first ls) (Coop q) → From first ls q
known_left authentic first [] q h there = inl there
known_left authentic first (LifeEnded journal ∷ ls) q h there =
    from_before first (LifeEnded journal) ls q (of_left authentic first ls q journal h.1 (known_left authentic first ls q h.1) h.0 there)
known_left authentic first (l ∷ ls) q h there = from_before first l ls q (known_left authentic first ls q h.1 there)

pub comes_from : AuthenticLaw → (first : List Message) (ls : List LifeEvent) (q : Request) (journal : List Message) → AreLives first ls → MayLeave first ls journal
    → Contains journal (Coop q) → From first ls q
comes_from authentic first ls q journal h may there = of_left authentic first ls q journal h (known_left authentic first ls q h) may there

-- ---- its device is that of the people's file ever after

still_held : (first : List Message) (later ls : List LifeEvent) (q : Request) (holder : Holder) → AreLives first (later ++ ls) → CameByDevice ls q holder
    → IsHeldBy holder (device_holder q.id.site (changes_saved (later ++ ls)))
still_held first later ls q holder h c =
    let opened : List LifeEvent = c.between ++ AtDocument (LinkOpened c.hello) ∷ c.before in
    let made : List LifeEvent = AtDocument (Made (Some c.link) (Receive (Coop q))) ∷ opened in
    let lives = lives_before first later ls h in
    let lives_then : AreLives first (c.after ++ made) = subst (λ (ks : List LifeEvent). AreLives first ks) c.came lives in
    let earlier = lives_before first c.after made lives_then in
    let at_link = holder_lasts first c.between (AtDocument (LinkOpened c.hello) ∷ c.before) q.id.site holder earlier.1 (held_by (device_holder q.id.site (changes_saved c.before)) holder c.known) in
    let at_request = holder_lasts first c.after made q.id.site holder lives_then at_link in
    holder_lasts first later ls q.id.site holder h (subst (λ (ks : List LifeEvent). IsHeldBy holder (device_holder q.id.site (changes_saved ks))) (sym c.came) at_request)

pub known_device : AuthenticLaw → KnownDeviceLaw
known_device authentic first later ls journal q h may there = by (comes_from authentic first ls q journal (lives_before first later ls h) may there)
  where
    by : From first ls q → Contains first (Coop q) ⊎ ((q.id.site ≡ 0) ⊎ IsOfDevice ls (changes_saved (later ++ ls)) q)
    by (inl at_first) = inl at_first
    by (inr (inl own)) = inr (inl own)
    by (inr (inr came)) = inr (inr (record { holder = came.0; came = came.1; still = still_held first later ls q came.0 h came.1 }))
