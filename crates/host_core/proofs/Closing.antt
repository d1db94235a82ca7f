-- What is closed stays closed.
use Rattle.std.proofs.Common.{◌≡◌, ℕ, ◌+◌, ◌<◌, ◌≤◌, Bool, true, false, cond, List, [], ◌∷◌, ◌++◌, Some, None, refl, ap, sym, subst, ◌∙◌, arith}
use Rattle.std.specs.Prelude.{option_map, option_and_then, nat_eq, IsSome}
use Rattle.std.specs.declared.option.Option.{Option}
use Rattle.std.specs.Option.{option_map_or}
use Rattle.std.specs.List.{AllByRecursion}
use Rattle.std.proofs.lemmas.Bool.{eqb-true, eqb-false}
use Rattle.element_name.specs.Cases.{when}
use Rattle.element_name.proofs.CaseLemmas.{when-None}
use Rattle.peer_step.specs.declared.step.Step.{Step}
use Rattle.host_core.specs.declared.event.Device.{Device}
use Rattle.host_core.specs.declared.event.Hello.{Hello}
use Rattle.host_core.specs.declared.event.LinkId.{LinkId}
use Rattle.host_core.specs.declared.event.OpenLink.{OpenLink}
use Rattle.host_core.specs.declared.event.HostEvent.{HostEvent}
use Rattle.host_core.specs.declared.event.HostEvent.TheVariants.{DeviceMade, SecretChanged, DeviceClosed, LinkOpened, LinkClosed, Made, Gave, Told}
use Rattle.host_core.specs.declared.refusal.Refusal.TheVariants.{NoLink}
use Rattle.host_core.specs.Past.{devices_made, device_of, with_digest, links_opened, link_by, moved_on, link_of, open_link}
use Rattle.host_core.specs.Refusals.{hello_refusal, refusal_by, ask_refusal}
use Rattle.host_core.specs.Happens.{MayHappen, IsPast}
use Rattle.host_core.specs.Laws.{IsOfLink, ClosesLink, ClosedLaw, IsOfSite, DeviceClosedLaw}
use Rattle.host_core.proofs.Refused.{opens}

-- ---- numbers

pub same_test : (n : ℕ) → nat_eq n n ≡ true
same_test n = by (nat_eq n n) refl
  where
    by : (b : Bool) → nat_eq n n ≡ b → nat_eq n n ≡ true
    by true e = e
    by false e = absurd (eqb-false n n e refl)

other_test : (m n : ℕ) → m < n → nat_eq n m ≡ false
other_test m n less = by (nat_eq n m) refl
  where
    by : (b : Bool) → nat_eq n m ≡ b → nat_eq n m ≡ false
    by true e = let same : n ≡ m = eqb-true n m e in absurd (omega arith)
    by false e = e

-- ---- links

-- by its number a link is the one that is open at a site
abbrev numbered : ℕ → Option OpenLink → Option OpenLink
numbered n o = option_and_then (λ (x : OpenLink). when (nat_eq x.number n) x) o

-- a link was opened, and is open no more
abbrev Shut : List HostEvent → LinkId → Type 0
Shut es l = (open_link es l ≡ None) × (l.number < links_opened es)

-- where the link of its site may be closed
shut_closed : (b : Bool) (n : ℕ) (o : Option OpenLink) → numbered n o ≡ None → numbered n (cond b None o) ≡ None
shut_closed true n o h = refl
shut_closed false n o h = h

-- where a newer one may be opened
newer_opened : (n number : ℕ) (hello : Hello) (o : Option Device) → n < number → numbered n (option_map (link_by number hello) o) ≡ None
newer_opened n number hello None less = refl
newer_opened n number hello (Some d) less = ap (λ (b : Bool). when b (link_by number hello d)) (other_test n number less)

shut_opened : (b : Bool) (n number : ℕ) (hello : Hello) (d : Option Device) (o : Option OpenLink) → n < number → numbered n o ≡ None
    → numbered n (cond b (option_map (link_by number hello) d) o) ≡ None
shut_opened true n number hello d o less h = newer_opened n number hello d less
shut_opened false n number hello d o less h = h

-- where it may be given a message
moved_number : (n : ℕ) (o : Option OpenLink) → numbered n o ≡ None → numbered n (option_map moved_on o) ≡ None
moved_number n None h = refl
moved_number n (Some x) h = ap (λ (b : Bool). when b (moved_on x)) (when-None (nat_eq x.number n) x h)

shut_given : (b : Bool) (n : ℕ) (o : Option OpenLink) → numbered n o ≡ None → numbered n (cond b (option_map moved_on o) o) ≡ None
shut_given true n o h = moved_number n o h
shut_given false n o h = h

-- a link that is shut stays so
shut_stays : (e : HostEvent) (es : List HostEvent) (l : LinkId) → Shut es l → Shut (e ∷ es) l
shut_stays (SecretChanged u digest) es l s = (shut_closed (nat_eq u l.site) l.number (link_of l.site es) s.0, s.1)
shut_stays (DeviceClosed u) es l s = (shut_closed (nat_eq u l.site) l.number (link_of l.site es) s.0, s.1)
shut_stays (LinkClosed k) es l s = (shut_closed (nat_eq k.site l.site) l.number (link_of l.site es) s.0, s.1)
shut_stays (LinkOpened hello) es l s =
    (shut_opened (nat_eq hello.site l.site) l.number (links_opened es) hello (device_of l.site es) (link_of l.site es) s.1 s.0, let less = s.1 in omega arith)
shut_stays (Gave k m) es l s = (shut_given (nat_eq k.site l.site) l.number (link_of l.site es) s.0, s.1)
shut_stays e es l s = s

-- what is there isn't missing
pub none_known : (o : Option OpenLink) → o ≡ None → IsSome o → ⊥
none_known None none known = absurd cc
none_known (Some x) none known = absurd cc

-- nothing is asked for by a link that isn't open
pub none_asked : (es : List HostEvent) (l : LinkId) (step : Step) → open_link es l ≡ None → ask_refusal es l step ≡ None → ⊥
none_asked es l step none may =
    let refused : Some NoLink ≡ None = subst (λ (o : Option OpenLink). option_map_or (λ (x : OpenLink). refusal_by es l.site x step) o (Some NoLink) ≡ None) none may in
    cc

-- nothing of it happens
shut_quiet : (e : HostEvent) (es : List HostEvent) (l : LinkId) → MayHappen es e → Shut es l → ¬ IsOfLink l e
shut_quiet (Made (Some k) step) es l may s same = none_asked es l step s.0 (subst (λ (j : LinkId). ask_refusal es j step ≡ None) same may)
shut_quiet (Gave k m) es l may s same =
    let known : open_link es l ≡ Some may.link = subst (λ (j : LinkId). open_link es j ≡ Some may.link) same may.open_is in
    let none = s.0 in
    cc
shut_quiet (Told k) es l may s same =
    let known : IsSome (open_link es l) = subst (λ (j : LinkId). IsSome (open_link es j)) same may.0 in
    none_known (open_link es l) s.0 known
shut_quiet e es l may s of = of

-- an event that closes a link shuts it
closes_shuts : (e : HostEvent) (es : List HostEvent) (l : LinkId) → l.number < links_opened es → ClosesLink l e → Shut (e ∷ es) l
closes_shuts (LinkClosed k) es l less same =
    let site : nat_eq k.site l.site ≡ true = ap (λ (j : LinkId). nat_eq j.site l.site) same ∙ same_test l.site in
    (ap (λ (b : Bool). numbered l.number (cond b None (link_of l.site es))) site, less)
closes_shuts (LinkOpened hello) es l less same =
    let site : nat_eq hello.site l.site ≡ true = ap (λ (u : ℕ). nat_eq u l.site) same ∙ same_test l.site in (
      ap (λ (b : Bool). numbered l.number (cond b (option_map (link_by (links_opened es) hello) (device_of l.site es)) (link_of l.site es))) site
          ∙ newer_opened l.number (links_opened es) hello (device_of l.site es) less,
      omega arith,
    )
closes_shuts (SecretChanged u digest) es l less same =
    let site : nat_eq u l.site ≡ true = ap (λ (v : ℕ). nat_eq v l.site) same ∙ same_test l.site in
    (ap (λ (b : Bool). numbered l.number (cond b None (link_of l.site es))) site, less)
closes_shuts (DeviceClosed u) es l less same =
    let site : nat_eq u l.site ≡ true = ap (λ (v : ℕ). nat_eq v l.site) same ∙ same_test l.site in
    (ap (λ (b : Bool). numbered l.number (cond b None (link_of l.site es))) site, less)
closes_shuts e es l less closes = absurd closes

closed_all : (later earlier : List HostEvent) (e : HostEvent) (l : LinkId) → IsPast (later ++ e ∷ earlier) → l.number < links_opened earlier → ClosesLink l e
    → Shut (later ++ e ∷ earlier) l × AllByRecursion (λ f. ¬ IsOfLink l f) later
closed_all [] earlier e l h less closes = (closes_shuts e earlier l less closes, tt)
closed_all (f ∷ later) earlier e l h less closes =
    let rest = closed_all later earlier e l h.1 less closes in
    (shut_stays f (later ++ e ∷ earlier) l rest.0, (shut_quiet f (later ++ e ∷ earlier) l h.0 rest.0, rest.1))

pub closed : ClosedLaw
closed later earlier e l h less closes = (closed_all later earlier e l h less closes).1

-- ---- devices

-- a device was made, and is closed
pub record Gone (es : List HostEvent) (u : ℕ) : Type 0 where
  pub device : device_of u es ≡ None
  pub link : link_of u es ≡ None
  pub made : u ≤ devices_made es

-- a device that is there was made
device_made : (es : List HostEvent) (u : ℕ) (d : Device) → IsPast es → device_of u es ≡ Some d → u ≤ devices_made es
device_made [] u d h is = absurd cc
device_made (DeviceMade v e ∷ es) u d h is = by (nat_eq v u) refl is (device_made es u d h.1)
  where
    by : (b : Bool) → nat_eq v u ≡ b → cond b (Some e) (device_of u es) ≡ Some d → (device_of u es ≡ Some d → u ≤ devices_made es) → u ≤ devices_made es + 1
    by true same some rest = let site : v ≡ u = eqb-true v u same in let new : v ≡ devices_made es + 1 = h.0.0 in omega arith
    by false same some rest = let old : u ≤ devices_made es = rest some in omega arith
device_made (SecretChanged v digest ∷ es) u d h is = by (nat_eq v u) (device_of u es) is (λ (e : Device) same. device_made es u e h.1 same)
  where
    by : (b : Bool) (o : Option Device) → cond b (option_map (with_digest digest) o) o ≡ Some d → ((e : Device) → o ≡ Some e → u ≤ devices_made es) → u ≤ devices_made es
    by true None some rest = absurd cc
    by false None some rest = absurd cc
    by true (Some e) some rest = rest e refl
    by false (Some e) some rest = rest e refl
device_made (DeviceClosed v ∷ es) u d h is = by (nat_eq v u) is (device_made es u d h.1)
  where
    by : (b : Bool) → cond b None (device_of u es) ≡ Some d → (device_of u es ≡ Some d → u ≤ devices_made es) → u ≤ devices_made es
    by true some rest = absurd cc
    by false some rest = rest some
device_made (e ∷ es) u d h is = device_made es u d h.1 is

-- what isn't there changes nothing where it is closed, changed or given a message
pub none_either : {A : Type 0} (b : Bool) (o : Option A) → o ≡ None → cond b None o ≡ None
none_either true o h = refl
none_either false o h = h

pub none_mapped : {A : Type 0} (b : Bool) (f : A → A) (o : Option A) → o ≡ None → cond b (option_map f o) o ≡ None
none_mapped true f o h = ap (option_map f) h
none_mapped false f o h = h

-- no link is opened by a device that is closed
none_opened : (es : List HostEvent) (u : ℕ) (hello : Hello) → device_of u es ≡ None → hello_refusal es hello ≡ None → hello.site ≡ u → ⊥
none_opened es u hello none may same =
    let found = opens es hello may in
    let there : device_of u es ≡ Some found.device = subst (λ (v : ℕ). device_of v es ≡ Some found.device) same found.device_is in
    cc

-- a device that is gone stays so
gone_stays : (e : HostEvent) (es : List HostEvent) (u : ℕ) → MayHappen es e → Gone es u → Gone (e ∷ es) u
gone_stays (DeviceMade v d) es u may g =
    let old = g.made in
    let new = may.0 in
    let other : nat_eq v u ≡ false = other_test u v (omega arith) in
    record { device = ap (λ (b : Bool). cond b (Some d) (device_of u es)) other ∙ g.device; link = g.link; made = omega arith }
gone_stays (SecretChanged v digest) es u may g = record {
  device = none_mapped (nat_eq v u) (with_digest digest) (device_of u es) g.device;
  link = none_either (nat_eq v u) (link_of u es) g.link;
  made = g.made;
}
gone_stays (DeviceClosed v) es u may g =
    record { device = none_either (nat_eq v u) (device_of u es) g.device; link = none_either (nat_eq v u) (link_of u es) g.link; made = g.made }
gone_stays (LinkOpened hello) es u may g = record {
  device = g.device;
  link = by (nat_eq hello.site u) refl;
  made = g.made;
}
  where
    by : (b : Bool) → nat_eq hello.site u ≡ b → cond b (option_map (link_by (links_opened es) hello) (device_of u es)) (link_of u es) ≡ None
    by true same = absurd (none_opened es u hello g.device may (eqb-true hello.site u same))
    by false same = g.link
gone_stays (LinkClosed l) es u may g = record { device = g.device; link = none_either (nat_eq l.site u) (link_of u es) g.link; made = g.made }
gone_stays (Gave l m) es u may g = record { device = g.device; link = none_mapped (nat_eq l.site u) moved_on (link_of u es) g.link; made = g.made }
gone_stays e es u may g = record { device = g.device; link = g.link; made = g.made }

-- no link is open at a site that has none
pub none_open : (es : List HostEvent) (u : ℕ) (l : LinkId) → l.site ≡ u → link_of u es ≡ None → open_link es l ≡ None
none_open es u l same none = ap (numbered l.number) (subst (λ (v : ℕ). link_of v es ≡ None) (sym same) none)

-- nothing of its site happens
gone_quiet : (e : HostEvent) (es : List HostEvent) (u : ℕ) → MayHappen es e → Gone es u → ¬ IsOfSite u e
gone_quiet (DeviceMade v d) es u may g same = let old = g.made in let new = may.0 in omega arith
gone_quiet (LinkOpened hello) es u may g same = none_opened es u hello g.device may same
gone_quiet (Made (Some l) step) es u may g same = none_asked es l step (none_open es u l same g.link) may
gone_quiet (Gave l m) es u may g same =
    let none : open_link es l ≡ None = none_open es u l same g.link in
    let some = may.open_is in
    cc
gone_quiet (Told l) es u may g same = none_known (open_link es l) (none_open es u l same g.link) may.0
gone_quiet e es u may g of = of

-- a device that is closed is gone
closed_gone : (es : List HostEvent) (u : ℕ) → IsPast (DeviceClosed u ∷ es) → Gone (DeviceClosed u ∷ es) u
closed_gone es u h = record {
  device = ap (λ (b : Bool). cond b None (device_of u es)) (same_test u);
  link = ap (λ (b : Bool). cond b None (link_of u es)) (same_test u);
  made = by (device_of u es) refl h.0;
}
  where
    by : (o : Option Device) → device_of u es ≡ o → IsSome o → u ≤ devices_made es
    by None is some = absurd cc
    by (Some d) is some = device_made es u d h.1 is

gone_all : (later earlier : List HostEvent) (u : ℕ) → IsPast (later ++ DeviceClosed u ∷ earlier)
    → Gone (later ++ DeviceClosed u ∷ earlier) u × AllByRecursion (λ f. ¬ IsOfSite u f) later
gone_all [] earlier u h = (closed_gone earlier u h, tt)
gone_all (f ∷ later) earlier u h =
    let rest = gone_all later earlier u h.1 in
    let es : List HostEvent = later ++ DeviceClosed u ∷ earlier in
    (gone_stays f es u h.0 rest.0, (gone_quiet f es u h.0 rest.0, rest.1))

pub device_closed : DeviceClosedLaw
device_closed later earlier u h = (gone_all later earlier u h).1
