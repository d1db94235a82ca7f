-- What lasts over the lives of a host.
use Rattle.std.proofs.Common.{◌≡◌, ℕ, Bool, true, false, cond, List, [], ◌∷◌, ◌++◌, Some, None, refl, sym, subst}
use Rattle.std.specs.Prelude.{option_map, nat_eq}
use Rattle.std.specs.declared.option.Option.{Option}
use Rattle.std.proofs.lemmas.Bool.{eqb-true}
use Rattle.edit_message.specs.declared.message.Message.{Message}
use Rattle.host_core.specs.Happens.{IsPast}
use Rattle.host_core.proofs.Saving.{held_before}
use Rattle.host_people.specs.declared.change.Change.{Change}
use Rattle.host_people.specs.declared.change.Change.TheVariants.{Joined, Left}
use Rattle.host_people.specs.declared.people.Holder.{Holder}
use Rattle.host_people.specs.Holders.{closed_holder, device_holder}
use Rattle.host_lives.specs.Lives.{LifeEvent, PeopleChanged, AtDocument, LifeEnded, changes_saved, this_life, IsHeldBy, IsClosedHolder, IsClosedIn, GivesNewSite, MayBeNext, AreLives}
use Rattle.host_lives.specs.Laws.{OneDeviceLaw}

-- ---- lives

-- what was before is lives too
pub lives_before : (first : List Message) (more ls : List LifeEvent) → AreLives first (more ++ ls) → AreLives first ls
lives_before first more ls h = held_before (λ (ks : List LifeEvent). AreLives first ks) (λ (l : LifeEvent) (ks : List LifeEvent) lives. lives.1) more ls h

-- what has happened in this life is a past
pub past_of_life : (first : List Message) (ls : List LifeEvent) → AreLives first ls → IsPast (this_life ls)
past_of_life first [] h = tt
past_of_life first (AtDocument e ∷ ls) h = (h.0.0, past_of_life first ls h.1)
past_of_life first (LifeEnded journal ∷ ls) h = tt
past_of_life first (l ∷ ls) h = past_of_life first ls h.1

-- ---- who holds a device

-- who may have been closed is the same
pub closed_keeps : (b : Bool) (o : Option Holder) (holder : Holder) → IsHeldBy holder o → IsHeldBy holder (cond b (option_map closed_holder o) o)
closed_keeps true None holder has = has
closed_keeps true (Some h) holder has = has
closed_keeps false o holder has = has

-- where nobody is, another may come
joined_keeps : (b : Bool) (new o : Option Holder) (holder : Holder) → (b ≡ true → o ≡ None) → IsHeldBy holder o → IsHeldBy holder (cond b new o)
joined_keeps true new None holder none has = absurd has
joined_keeps true new (Some h) holder none has = let no : Some h ≡ None = none refl in absurd cc
joined_keeps false new o holder none has = has

change_keeps : (change : Change) (cs : List Change) (u : ℕ) (holder : Holder) → GivesNewSite cs change → IsHeldBy holder (device_holder u cs)
    → IsHeldBy holder (device_holder u (change ∷ cs))
change_keeps (Joined s person digest) cs u holder new has =
    joined_keeps (nat_eq s u) (Some (record { person = person; digest = digest; is_open = true })) (device_holder u cs) holder
    (λ (same : nat_eq s u ≡ true). subst (λ (v : ℕ). device_holder v cs ≡ None) (eqb-true s u same) new) has
change_keeps (Left s) cs u holder new has = closed_keeps (nat_eq s u) (device_holder u cs) holder has
change_keeps change cs u holder new has = has

holder_stays : (first : List Message) (l : LifeEvent) (ls : List LifeEvent) (u : ℕ) (holder : Holder) → MayBeNext first ls l → IsHeldBy holder (device_holder u (changes_saved ls))
    → IsHeldBy holder (device_holder u (changes_saved (l ∷ ls)))
holder_stays first (PeopleChanged change) ls u holder may has = change_keeps change (changes_saved ls) u holder may has
holder_stays first l ls u holder may has = has

pub holder_lasts : (first : List Message) (more ls : List LifeEvent) (u : ℕ) (holder : Holder) → AreLives first (more ++ ls) → IsHeldBy holder (device_holder u (changes_saved ls))
    → IsHeldBy holder (device_holder u (changes_saved (more ++ ls)))
holder_lasts first [] ls u holder h has = has
holder_lasts first (l ∷ more) ls u holder h has = holder_stays first l (more ++ ls) u holder h.0 (holder_lasts first more ls u holder h.1 has)

-- who is known is himself
pub held_by : (o : Option Holder) (holder : Holder) → o ≡ Some holder → IsHeldBy holder o
held_by o holder is = subst (λ (p : Option Holder). IsHeldBy holder p) (sym is) (refl, refl)

pub one_device : OneDeviceLaw
one_device first later ls u holder h is = holder_lasts first later ls u holder h (held_by (device_holder u (changes_saved ls)) holder is)

-- ---- a device that is closed

closes_keep : (b : Bool) (o : Option Holder) → IsClosedHolder o → IsClosedHolder (cond b (option_map closed_holder o) o)
closes_keep true None shut = shut
closes_keep true (Some h) shut = refl
closes_keep false o shut = shut

joined_keeps_closed : (b : Bool) (new o : Option Holder) → (b ≡ true → o ≡ None) → IsClosedHolder o → IsClosedHolder (cond b new o)
joined_keeps_closed true new None none shut = absurd shut
joined_keeps_closed true new (Some h) none shut = let no : Some h ≡ None = none refl in absurd cc
joined_keeps_closed false new o none shut = shut

pub change_keeps_closed : (change : Change) (cs : List Change) (u : ℕ) → GivesNewSite cs change → IsClosedIn cs u → IsClosedIn (change ∷ cs) u
change_keeps_closed (Joined s person digest) cs u new shut =
    joined_keeps_closed (nat_eq s u) (Some (record { person = person; digest = digest; is_open = true })) (device_holder u cs)
    (λ (same : nat_eq s u ≡ true). subst (λ (v : ℕ). device_holder v cs ≡ None) (eqb-true s u same) new) shut
change_keeps_closed (Left s) cs u new shut = closes_keep (nat_eq s u) (device_holder u cs) shut
change_keeps_closed change cs u new shut = shut
