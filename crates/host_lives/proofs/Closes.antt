-- A device that was closed stays closed over the lives of a host.
use Rattle.std.proofs.Common.{◌≡◌, ℕ, inl, inr, Bool, true, false, cond, List, [], ◌∷◌, ◌++◌, Some, None, refl, ap, sym, subst, ◌∙◌}
use Rattle.std.specs.Prelude.{◌⊎◌, option_map, nat_eq, Contains}
use Rattle.std.specs.declared.option.Option.{Option}
use Rattle.std.specs.List.{AllByRecursion}
use Rattle.std.proofs.lemmas.Bool.{eqb-true}
use Rattle.coop_request.specs.Request.{Request}
use Rattle.edit_message.specs.declared.message.Message.{Message}
use Rattle.edit_message.specs.declared.message.Message.TheVariants.{Coop}
use Rattle.peer_step.specs.declared.step.Step.TheVariants.{Receive}
use Rattle.host_core.specs.declared.event.Device.{Device}
use Rattle.host_core.specs.declared.event.Hello.{Hello}
use Rattle.host_core.specs.declared.event.HostEvent.{HostEvent}
use Rattle.host_core.specs.declared.event.HostEvent.TheVariants.{DeviceMade, SecretChanged, DeviceClosed, LinkOpened, LinkClosed, Made, Gave, Told}
use Rattle.host_core.specs.Past.{device_of, with_digest, links_opened, link_by, moved_on, link_of, open_link}
use Rattle.host_core.specs.Happens.{MayHappen}
use Rattle.host_core.specs.Laws.{AuthenticLaw}
use Rattle.host_core.proofs.Closing.{none_either, none_mapped, none_open, none_asked, none_known}
use Rattle.host_people.specs.declared.change.Change.{Change}
use Rattle.host_people.specs.declared.people.Holder.{Holder}
use Rattle.host_people.specs.Holders.{device_holder}
use Rattle.host_lives.specs.Lives.{LifeEvent, PeopleChanged, AtDocument, CloseTold, LifeEnded, changes_saved, this_life, journal_left, IsOpenBy, IsClosedHolder, IsClosedIn, IsByFiles, MayBeNext, AreLives}
use Rattle.host_lives.specs.Laws.{CameByDevice, IsOnLinkOf, UsesSite, ClosedForGoodLaw, NothingMoreLaw}
use Rattle.host_lives.proofs.Lasting.{change_keeps_closed}
use Rattle.host_lives.proofs.Requests.{opens_by_file, From, came_behind, comes_from}

-- ---- what isn't there

-- where a device isn't there, no link of it is open
no_link : (es : List HostEvent) (u : ℕ) → device_of u es ≡ None → link_of u es ≡ None
no_link [] u none = refl
no_link (DeviceMade v d ∷ es) u none = by (nat_eq v u) none (no_link es u)
  where
    by : (b : Bool) → cond b (Some d) (device_of u es) ≡ None → (device_of u es ≡ None → link_of u es ≡ None) → link_of u es ≡ None
    by true none rest = absurd cc
    by false none rest = rest none
no_link (SecretChanged v digest ∷ es) u none = by (nat_eq v u) (device_of u es) none (no_link es u)
  where
    by : (b : Bool) (o : Option Device) → cond b (option_map (with_digest digest) o) o ≡ None → (o ≡ None → link_of u es ≡ None) → cond b None (link_of u es) ≡ None
    by true o none rest = refl
    by false o none rest = rest none
no_link (DeviceClosed v ∷ es) u none = by (nat_eq v u) none (no_link es u)
  where
    by : (b : Bool) → cond b None (device_of u es) ≡ None → (device_of u es ≡ None → link_of u es ≡ None) → cond b None (link_of u es) ≡ None
    by true none rest = refl
    by false none rest = rest none
no_link (LinkOpened hello ∷ es) u none = by (nat_eq hello.site u) (no_link es u none)
  where
    by : (b : Bool) → link_of u es ≡ None → cond b (option_map (link_by (links_opened es) hello) (device_of u es)) (link_of u es) ≡ None
    by true rest = ap (option_map (link_by (links_opened es) hello)) none
    by false rest = rest
no_link (LinkClosed l ∷ es) u none = none_either (nat_eq l.site u) (link_of u es) (no_link es u none)
no_link (Gave l m ∷ es) u none = none_mapped (nat_eq l.site u) moved_on (link_of u es) (no_link es u none)
no_link (e ∷ es) u none = no_link es u none

-- ---- a site whose device is closed in the people's file, and that has no open link

abbrev IsBarred : List LifeEvent → ℕ → Type 0
IsBarred ls u = IsClosedIn (changes_saved ls) u × (link_of u (this_life ls) ≡ None)

not_both : (secret : List ℕ) (o : Option Holder) → IsOpenBy secret o → IsClosedHolder o → ⊥
not_both secret None opens shut = opens
not_both secret (Some h) opens shut = let there : h.is_open ≡ true = opens.1 in cc

-- none opens
none_opens : (left : List Message) (cs : List Change) (es : List HostEvent) (hello : Hello) (u : ℕ) → IsByFiles left cs es (LinkOpened hello) → IsClosedIn cs u → hello.site ≡ u → ⊥
none_opens left cs es hello u by shut same =
    not_both hello.secret (device_holder hello.site cs) (opens_by_file left cs es hello by) (subst (λ (v : ℕ). IsClosedIn cs v) (sym same) shut)

still_none : (left : List Message) (cs : List Change) (es : List HostEvent) (e : HostEvent) (u : ℕ) → IsByFiles left cs es e → IsClosedIn cs u → link_of u es ≡ None → link_of u (e ∷ es) ≡ None
still_none left cs es (SecretChanged v digest) u by shut none = none_either (nat_eq v u) (link_of u es) none
still_none left cs es (DeviceClosed v) u by shut none = none_either (nat_eq v u) (link_of u es) none
still_none left cs es (LinkOpened hello) u by shut none = opened (nat_eq hello.site u) refl
  where
    opened : (b : Bool) → nat_eq hello.site u ≡ b → cond b (option_map (link_by (links_opened es) hello) (device_of u es)) (link_of u es) ≡ None
    opened true same = absurd (none_opens left cs es hello u by shut (eqb-true hello.site u same))
    opened false other = none
still_none left cs es (LinkClosed l) u by shut none = none_either (nat_eq l.site u) (link_of u es) none
still_none left cs es (Gave l m) u by shut none = none_mapped (nat_eq l.site u) moved_on (link_of u es) none
still_none left cs es e u by shut none = none

stays_barred : (first : List Message) (l : LifeEvent) (ls : List LifeEvent) (u : ℕ) → MayBeNext first ls l → IsBarred ls u → IsBarred (l ∷ ls) u
stays_barred first (PeopleChanged change) ls u may b = (change_keeps_closed change (changes_saved ls) u may b.0, b.1)
stays_barred first (AtDocument e) ls u may b = (b.0, still_none (journal_left first ls) (changes_saved ls) (this_life ls) e u may.1 b.0 b.1)
stays_barred first (CloseTold v) ls u may b = b
stays_barred first (LifeEnded journal) ls u may b = (b.0, refl)

-- nothing happens on a link of it
quiet : (left : List Message) (cs : List Change) (es : List HostEvent) (e : HostEvent) (u : ℕ) → MayHappen es e → IsByFiles left cs es e → IsClosedIn cs u → link_of u es ≡ None
    → ¬ IsOnLinkOf u e
quiet left cs es (LinkOpened hello) u may by shut none same = none_opens left cs es hello u by shut same
quiet left cs es (Made (Some l) step) u may by shut none same = none_asked es l step (none_open es u l same none) may
quiet left cs es (Gave l m) u may by shut none same =
    let missing = none_open es u l same none in
    let found = may.open_is in
    cc
quiet left cs es (Told l) u may by shut none same = none_known (open_link es l) (none_open es u l same none) may.0
quiet left cs es e u may by shut none on = on

unused : (first : List Message) (l : LifeEvent) (ls : List LifeEvent) (u : ℕ) → MayBeNext first ls l → IsBarred ls u → ¬ UsesSite u l
unused first (AtDocument e) ls u may b on = quiet (journal_left first ls) (changes_saved ls) (this_life ls) e u may.0 may.1 b.0 b.1 on
unused first l ls u may b on = on

barred_on : (first : List Message) (later earlier : List LifeEvent) (u : ℕ) → AreLives first (later ++ CloseTold u ∷ earlier)
    → IsBarred (later ++ CloseTold u ∷ earlier) u × AllByRecursion (λ l. ¬ UsesSite u l) later
barred_on first [] earlier u h = ((h.0.0, no_link (this_life earlier) u h.0.1), tt)
barred_on first (l ∷ later) earlier u h =
    let rest = barred_on first later earlier u h.1 in
    let ls : List LifeEvent = later ++ CloseTold u ∷ earlier in
    (stays_barred first l ls u h.0 rest.0, (unused first l ls u h.0 rest.0, rest.1))

pub closed_for_good : ClosedForGoodLaw
closed_for_good first later earlier u h = let all = barred_on first later earlier u h in (all.1, all.0.0)

-- ---- what came before

-- what uses a site stands behind what doesn't
stands_earlier : (u : ℕ) (later after earlier rest : List LifeEvent) (x y : LifeEvent) → later ++ x ∷ earlier ≡ after ++ y ∷ rest
    → AllByRecursion (λ l. ¬ UsesSite u l) later → ¬ UsesSite u x → UsesSite u y → (front : List LifeEvent) × (earlier ≡ front ++ y ∷ rest)
stands_earlier u [] [] earlier rest x y is all none on = let same : x ≡ y = cc in absurd (none (subst (λ (l : LifeEvent). UsesSite u l) (sym same) on))
stands_earlier u [] (k ∷ after) earlier rest x y is all none on = (after, cc)
stands_earlier u (l ∷ later) [] earlier rest x y is all none on = let same : l ≡ y = cc in absurd (all.0 (subst (λ (k : LifeEvent). UsesSite u k) (sym same) on))
stands_earlier u (l ∷ later) (k ∷ after) earlier rest x y is all none on =
    let tails : later ++ x ∷ earlier ≡ after ++ y ∷ rest = cc in
    stands_earlier u later after earlier rest x y tails all.1 none on

came_earlier : (first : List Message) (later earlier : List LifeEvent) (u : ℕ) (q : Request) (holder : Holder) → AreLives first (later ++ CloseTold u ∷ earlier) → q.id.site ≡ u
    → CameByDevice (later ++ CloseTold u ∷ earlier) q holder → CameByDevice earlier q holder
came_earlier first later earlier u q holder h site c =
    let rest : List LifeEvent = c.between ++ AtDocument (LinkOpened c.hello) ∷ c.before in
    let found = stands_earlier u later c.after earlier rest (CloseTold u) (AtDocument (Made (Some c.link) (Receive (Coop q)))) c.came
    (barred_on first later earlier u h).1 (λ none. none) (c.of_site ∙ site) in
    came_behind (later ++ CloseTold u ∷ earlier) earlier q holder c found.0 found.1

pub nothing_more : AuthenticLaw → NothingMoreLaw
nothing_more authentic first later earlier u journal q h may there site = by (comes_from authentic first (later ++ CloseTold u ∷ earlier) q journal h may there)
  where
    by : From first (later ++ CloseTold u ∷ earlier) q → Contains first (Coop q) ⊎ ((u ≡ 0) ⊎ ((holder : Holder) × CameByDevice earlier q holder))
    by (inl at_first) = inl at_first
    by (inr (inl own)) = inr (inl (sym site ∙ own))
    by (inr (inr came)) = inr (inr (came.0, came_earlier first later earlier u q came.0 h site came.1))
