-- What a link was given, in order.
use Rattle.std.proofs.Common.{◌≡◌, ℕ, ◌+◌, ◌<◌, ◌≤◌, Bool, true, false, cond, List, [], ◌∷◌, ◌++◌, length, take, Some, None, refl, ap, sym, subst, ◌∙◌, arith, append_assoc}
use Rattle.std.specs.Prelude.{option_map, slice_get, nat_eq}
use Rattle.std.specs.declared.option.Option.{Option}
use Rattle.std.proofs.lemmas.Bool.{eqb-true}
use Rattle.std.proofs.lemmas.List.{append-nil, take-append-le, take_at}
use Rattle.std.proofs.lemmas.Option.{same_Some}
use Rattle.edit_message.specs.declared.message.Message.{Message}
use Rattle.peer_core.specs.Answers.{answer_of}
use Rattle.peer_core.proofs.AfterLemmas.{journal_grows}
use Rattle.peer_core.proofs.BeginningLemmas.{Begins, take_one_more}
use Rattle.host_core.specs.declared.event.Device.{Device}
use Rattle.host_core.specs.declared.event.Hello.{Hello}
use Rattle.host_core.specs.declared.event.LinkId.{LinkId}
use Rattle.host_core.specs.declared.event.OpenLink.{OpenLink}
use Rattle.host_core.specs.declared.event.HostEvent.{HostEvent}
use Rattle.host_core.specs.declared.event.HostEvent.TheVariants.{Began, SecretChanged, DeviceClosed, LinkOpened, LinkClosed, Made, Saved, Gave}
use Rattle.host_core.specs.Past.{host_peer, saved_journal, device_of, links_opened, link_by, moved_on, link_of, given_to}
use Rattle.host_core.specs.Happens.{GivesItem}
use Rattle.host_core.specs.Laws.{InOrder, InOrderLaw, AllGivenLaw}
use Rattle.host_core.proofs.Refused.{open_known, opens}
use Rattle.host_core.proofs.Saving.{beginning, short_saved}

-- ---- which link is open

-- a link that is open where one may have been closed was open before
pub not_closed : (b : Bool) (o : Option OpenLink) (x : OpenLink) → cond b None o ≡ Some x → o ≡ Some x
not_closed true o x h = absurd cc
not_closed false o x h = h

-- the link that a device opens
pub record IsOpenedBy (number : ℕ) (hello : Hello) (o : Option Device) (x : OpenLink) : Type 0 where
  pub device : Device
  pub device_is : o ≡ Some device
  pub link_is : link_by number hello device ≡ x

pub opened_by : (number : ℕ) (hello : Hello) (o : Option Device) (x : OpenLink) → option_map (link_by number hello) o ≡ Some x → IsOpenedBy number hello o x
opened_by number hello None x h = absurd cc
opened_by number hello (Some d) x h = record { device = d; device_is = refl; link_is = same_Some (link_by number hello d) x h }

-- the link that is given an item is that of its site
pub given_link : (es : List HostEvent) (l : LinkId) (m : Message) (u : ℕ) (gives : GivesItem es l m) → nat_eq l.site u ≡ true → link_of u es ≡ Some gives.link
given_link es l m u gives same =
    subst (λ (v : ℕ). link_of v es ≡ Some gives.link) (eqb-true l.site u same) (open_known es l gives.link gives.open_is).0

-- ---- in order

-- a new link stands where it begins
pub opened_in_order : (J S : List Message) (from : ℕ) → from ≤ length S → InOrder J S [] from from
opened_in_order J S from behind = record { behind = omega arith; within = behind; order = append-nil (take from J) }

-- a link stays in order where the journal grows
pub grown_in_order : (J K S given : List Message) (from mark : ℕ) → Begins J K → length S ≤ length J → InOrder J S given from mark → InOrder K S given from mark
grown_in_order J K S given from mark grown short old =
    let a = old.behind in
    let b = old.within in
    subst (λ (L : List Message). InOrder L S given from mark) (sym grown.1) (record {
      behind = old.behind;
      within = old.within;
      order = ap (λ (T : List Message). T ++ given) (take-append-le from J grown.0 (omega arith)) ∙ old.order ∙ sym (take-append-le mark J grown.0 (omega arith));
    })

-- and where more is saved
pub saved_in_order : (J S T given : List Message) (from mark : ℕ) → length S ≤ length T → InOrder J S given from mark → InOrder J T given from mark
saved_in_order J S T given from mark longer old = let b = old.within in record { behind = old.behind; within = omega arith; order = old.order }

-- a link that is given the next message
pub given_in_order : (J S given : List Message) (m : Message) (from mark : ℕ) → slice_get J mark ≡ Some m → mark < length S
    → InOrder J S given from mark → InOrder J S (given ++ m ∷ []) from (mark + 1)
given_in_order J S given m from mark next saved old =
    let a = old.behind in
    record {
      behind = omega arith;
      within = omega arith;
      order = sym (append_assoc (take from J) given (m ∷ []))
          ∙ ap (λ (T : List Message). T ++ m ∷ []) old.order
          ∙ sym (take_one_more J mark m next);
    }

-- where its mark is at the end of what is saved it has all of that
pub whole_in_order : (J S given : List Message) (from mark : ℕ) → Begins S J → length S ≤ mark → InOrder J S given from mark → take from J ++ given ≡ S
whole_in_order J S given from mark front whole order =
    let within = order.within in
    order.order ∙ ap (take mark) front.1 ∙ take_at S front.0 mark (omega arith)

-- what the link of a site was given is in order
abbrev StandsInOrder : List HostEvent → List Message → OpenLink → Type 0
StandsInOrder es given x = InOrder (host_peer es).journal (saved_journal es) given x.from x.mark

pub in_order : InOrderLaw
in_order [] u x h is = absurd cc
in_order (Began p document ∷ es) u x h is = let bad : link_of u [] ≡ Some x = subst (λ (fs : List HostEvent). link_of u fs ≡ Some x) h.0 is in absurd cc
in_order (SecretChanged v digest ∷ es) u x h is = in_order es u x h.1 (not_closed (nat_eq v u) (link_of u es) x is)
in_order (DeviceClosed v ∷ es) u x h is = in_order es u x h.1 (not_closed (nat_eq v u) (link_of u es) x is)
in_order (LinkClosed l ∷ es) u x h is = in_order es u x h.1 (not_closed (nat_eq l.site u) (link_of u es) x is)
in_order (LinkOpened hello ∷ es) u x h is = by (nat_eq hello.site u) is (in_order es u x h.1)
  where
    by : (b : Bool) → cond b (option_map (link_by (links_opened es) hello) (device_of u es)) (link_of u es) ≡ Some x
        → (link_of u es ≡ Some x → StandsInOrder es (given_to u es) x)
        → StandsInOrder es (cond b [] (given_to u es)) x
    by true some rest =
        let opened = opened_by (links_opened es) hello (device_of u es) x some in
        let found = opens es hello h.0 in
        subst (StandsInOrder es []) opened.link_is (opened_in_order (host_peer es).journal (saved_journal es) hello.from found.behind)
    by false some rest = rest some
in_order (Made by step ∷ es) u x h is =
    grown_in_order (host_peer es).journal (host_peer (Made by step ∷ es)).journal (saved_journal es) (given_to u es) x.from x.mark
    (journal_grows (host_peer es) step (answer_of (host_peer es) step)) (short_saved es h.1) (in_order es u x h.1 is)
in_order (Saved ∷ es) u x h is =
    saved_in_order (host_peer es).journal (saved_journal es) (host_peer es).journal (given_to u es) x.from x.mark (short_saved es h.1) (in_order es u x h.1 is)
in_order (Gave l m ∷ es) u x h is = by (nat_eq l.site u) refl is (λ (y : OpenLink) known. in_order es u y h.1 known)
  where
    by : (b : Bool) → nat_eq l.site u ≡ b → cond b (option_map moved_on (link_of u es)) (link_of u es) ≡ Some x
        → ((y : OpenLink) → link_of u es ≡ Some y → StandsInOrder es (given_to u es) y)
        → StandsInOrder es (cond b (given_to u es ++ m ∷ []) (given_to u es)) x
    by true e some rest =
        let known = given_link es l m u h.0 e in
        subst (StandsInOrder es (given_to u es ++ m ∷ []))
        (same_Some (moved_on h.0.link) x (subst (λ (o : Option OpenLink). option_map moved_on o ≡ Some x) known some))
        (given_in_order (host_peer es).journal (saved_journal es) (given_to u es) m h.0.link.from h.0.link.mark h.0.next h.0.saved (rest h.0.link known))
    by false e some rest = rest x some
in_order (e ∷ es) u x h is = in_order es u x h.1 is

-- ---- all of it

pub all_given : AllGivenLaw
all_given es u x h is whole =
    whole_in_order (host_peer es).journal (saved_journal es) (given_to u es) x.from x.mark (beginning es h) whole (in_order es u x h is)
