-- What the people's file records, by its bytes.
use Rattle.std.proofs.Common.{◌≡◌, ℕ, inl, inr, Bool, true, false, cond, List, [], ◌∷◌, ◌++◌, Some, None, refl, ap, subst, ◌∙◌, arith}
use Rattle.std.specs.Prelude.{◌⊎◌, option_map, nat_eq, Contains}
use Rattle.std.specs.declared.option.Option.{Option}
use Rattle.std.proofs.lemmas.Bool.{eqb-true}
use Rattle.std.proofs.lemmas.List.Elements.{Contains-append_left, Contains-append_right}
use Rattle.edit_message.specs.declared.message.Message.TheVariants.{Coop}
use Rattle.peer_step.specs.declared.step.Step.{Step}
use Rattle.peer_store.specs.Steps.{replay_of}
use Rattle.peer_store.specs.Store.{StandsFor}
use Rattle.host_core.specs.Laws.{AuthenticLaw}
use Rattle.host_people.specs.declared.change.Change.{Change}
use Rattle.host_people.specs.declared.change.Change.TheVariants.{Joined, Left}
use Rattle.host_people.specs.declared.people.Holder.{Holder}
use Rattle.host_people.specs.Bodies.{change_body, change_bodies}
use Rattle.host_people.specs.Holders.{closed_holder, device_holder}
use Rattle.host_lives.specs.Lives.{LifeEvent, CloseTold, changes_saved, IsHeldBy, IsClosedHolder, IsClosedIn}
use Rattle.host_lives.specs.Files.{IsPeopleFile, RecordsChange}
use Rattle.host_lives.specs.Laws.{IsOfDevice, RecordedDeviceLaw, RecordedCloseLaw}
use Rattle.host_lives.proofs.Requests.{known_device}
use Rattle.host_lives.proofs.Closes.{closed_for_good}

-- one more change stands behind the others
behind : (cs : List Change) (change : Change) → Contains (change_bodies (change ∷ cs)) (change_body change)
behind cs change = Contains-append_right (change_bodies cs) (change_body change ∷ []) (change_body change) (0, omega arith, refl)

before : (cs : List Change) (change : Change) (body : List ℕ) → Contains (change_bodies cs) body → Contains (change_bodies (change ∷ cs)) body
before cs change body there = Contains-append_left (change_bodies cs) (change_body change ∷ []) body there

-- who holds a device that may have been closed held it before
held_before : (b : Bool) (o : Option Holder) (holder : Holder) → IsHeldBy holder (cond b (option_map closed_holder o) o) → IsHeldBy holder o
held_before true None holder has = has
held_before true (Some h) holder has = has
held_before false o holder has = has

-- a device that is known was made
made_among : (cs : List Change) (u : ℕ) (holder : Holder) → IsHeldBy holder (device_holder u cs) → Contains (change_bodies cs) (change_body (Joined u holder.person holder.digest))
made_among [] u holder has = absurd has
made_among (Joined s person digest ∷ cs) u holder has = by (nat_eq s u) refl has (made_among cs u holder)
  where
    by : (b : Bool) → nat_eq s u ≡ b → IsHeldBy holder (cond b (Some (record { person = person; digest = digest; is_open = true })) (device_holder u cs))
        → (IsHeldBy holder (device_holder u cs) → Contains (change_bodies cs) (change_body (Joined u holder.person holder.digest)))
        → Contains (change_bodies (Joined s person digest ∷ cs)) (change_body (Joined u holder.person holder.digest))
    by true same new rest =
        let site : s ≡ u = eqb-true s u same in
        let body : change_body (Joined s person digest) ≡ change_body (Joined u holder.person holder.digest) =
        ap (λ (v : ℕ). change_body (Joined v person digest)) site
        ∙ ap (λ (p : ℕ). change_body (Joined u p digest)) new.0
        ∙ ap (λ (d : List ℕ). change_body (Joined u holder.person d)) new.1 in
        subst (λ (bytes : List ℕ). Contains (change_bodies (Joined s person digest ∷ cs)) bytes) body (behind cs (Joined s person digest))
    by false other old rest = before cs (Joined s person digest) (change_body (Joined u holder.person holder.digest)) (rest old)
made_among (Left s ∷ cs) u holder has =
    before cs (Left s) (change_body (Joined u holder.person holder.digest)) (made_among cs u holder (held_before (nat_eq s u) (device_holder u cs) holder has))
made_among (change ∷ cs) u holder has = before cs change (change_body (Joined u holder.person holder.digest)) (made_among cs u holder has)

-- and one that is closed was closed
closed_among : (cs : List Change) (u : ℕ) → IsClosedIn cs u → Contains (change_bodies cs) (change_body (Left u))
closed_among [] u shut = absurd shut
closed_among (Joined s person digest ∷ cs) u shut = by (nat_eq s u) shut (closed_among cs u)
  where
    by : (b : Bool) → IsClosedHolder (cond b (Some (record { person = person; digest = digest; is_open = true })) (device_holder u cs))
        → (IsClosedIn cs u → Contains (change_bodies cs) (change_body (Left u))) → Contains (change_bodies (Joined s person digest ∷ cs)) (change_body (Left u))
    by true new rest = absurd cc
    by false old rest = before cs (Joined s person digest) (change_body (Left u)) (rest old)
closed_among (Left s ∷ cs) u shut = by (nat_eq s u) refl shut (closed_among cs u)
  where
    by : (b : Bool) → nat_eq s u ≡ b → IsClosedHolder (cond b (option_map closed_holder (device_holder u cs)) (device_holder u cs))
        → (IsClosedIn cs u → Contains (change_bodies cs) (change_body (Left u))) → Contains (change_bodies (Left s ∷ cs)) (change_body (Left u))
    by true same new rest =
        subst (λ (v : ℕ). Contains (change_bodies (Left s ∷ cs)) (change_body (Left v))) (eqb-true s u same) (behind cs (Left s))
    by false other old rest = before cs (Left s) (change_body (Left u)) (rest old)
closed_among (change ∷ cs) u shut = before cs change (change_body (Left u)) (closed_among cs u shut)

-- a change whose body is among those of the people's file is recorded in it
recorded : (ls : List LifeEvent) (file : List ℕ) (change : Change) → IsPeopleFile ls file → Contains (change_bodies (changes_saved ls)) (change_body change) → RecordsChange change file
recorded ls file change has among = record { bodies = change_bodies (changes_saved ls); has = has; among = among }

pub recorded_device : AuthenticLaw → ((site : ℕ) (file : List ℕ) (first second : List Step) → StandsFor site first file → StandsFor site second file → first ≡ second) → RecordedDeviceLaw
recorded_device authentic one_list first later ls people document steps q h has left stands there =
    by (known_device authentic first later ls (replay_of 0 left.steps).journal q h left.may_be
    (subst (λ (ss : List Step). Contains (replay_of 0 ss).journal (Coop q)) (one_list 0 document steps left.steps stands left.stands) there))
  where
    by : Contains first (Coop q) ⊎ ((q.id.site ≡ 0) ⊎ IsOfDevice ls (changes_saved (later ++ ls)) q)
        → Contains first (Coop q) ⊎ ((q.id.site ≡ 0) ⊎ ((person : ℕ) × (digest : List ℕ) × RecordsChange (Joined q.id.site person digest) people))
    by (inl at_first) = inl at_first
    by (inr (inl own)) = inr (inl own)
    by (inr (inr of)) = inr (inr (
      of.holder.person,
      of.holder.digest,
      recorded (later ++ ls) people (Joined q.id.site of.holder.person of.holder.digest) has (made_among (changes_saved (later ++ ls)) q.id.site of.holder of.still),
    ))

pub recorded_close : RecordedCloseLaw
recorded_close first later earlier u people h has =
    let ls : List LifeEvent = later ++ CloseTold u ∷ earlier in
    recorded ls people (Left u) has (closed_among (changes_saved ls) u (closed_for_good first later earlier u h).1)
