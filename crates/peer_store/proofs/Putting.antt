-- What a crash may leave of a store, over a call.
use Rattle.std.proofs.Common.{◌≡◌, ◌⊎◌, inl, inr, ⊎_elim, ℕ, ◌+◌, ◌≤◌, ◌<◌, ◌^◌, Bool, true, false, not, List, [], ◌∷◌, ◌++◌, length, refl, sym, ◌∙◌, ap, subst, arith, length-append, Option, Some, None, Result, Ok, Err, IfSome}
use Rattle.std.specs.Prelude.{nat_lt}
use Rattle.std.specs.Int.{w16, to_be_bytes}
use Rattle.std.proofs.lemmas.Bool.{and_cases, ltb-false, both_ways, not-false}
use Rattle.element_name.specs.Cases.{when, first_of}
use Rattle.std.proofs.lemmas.List.{append-nil}
use Rattle.peer_disk.specs.Disk.{Only, LeavesOnly}
use Rattle.peer_disk.proofs.Moments.{started, weakened}
use Rattle.peer_disk.specs.Records.{records, record_of, HasNoneIfAny}
use Rattle.peer_disk.proofs.Appending.{records-push}
use Rattle.peer_disk.proofs.Bodies.{none_in_four}
use Rattle.peer_step.specs.declared.step.Step.{Step}
use Rattle.peer_step.specs.declared.answer.Answer.{Answer}
use Rattle.peer_core.specs.Peer.{Peer, front}
use Rattle.peer_store.specs.Body.{IsBody}
use Rattle.peer_core.specs.After.{peer_after}
use Rattle.peer_store.specs.declared.limits.TheConstants.{MAX_GATE}
use Rattle.peer_store.specs.declared.fault.StoreFault.{StoreFault}
use Rattle.peer_store.specs.declared.fault.StoreFault.TheVariants.{DiskFault, NotAStore, Spent, StoreFull, NoMemory}
use Rattle.peer_store.specs.Faults.{refusal_of, IsLeftBy, IsNotMadeFor, IsUnsavedBy}
use Rattle.peer_store.specs.Steps.{changes, if_changing, is_look}
use Rattle.peer_store.specs.Store.{StandsWithOrWithout, StandsForNoneIfAny, Saved, IsSaved, HasGate, FitsInFile, IsKeptIn, finds_no_gate}
use Rattle.peer_store.proofs.Changes.{looks_change_nothing}
use Rattle.peer_store.proofs.Saving.{none_if_any, if_it_stays, leaves_steps}

-- a step that changes nothing leaves what is saved
pub saved_still : (site : ℕ) (steps : List Step) (old now : Saved) (step : Step) (seen : Option (List ℕ)) (may_leave : List ℕ → Type 0) → changes old.peer step ≡ false → now ≡ old → IsSaved site steps old seen may_leave
    → IsSaved site (steps ++ if_changing old.peer step) now seen may_leave
saved_still site steps old now step seen may_leave quiet same kept =
    subst (λ more. IsSaved site (steps ++ more) now seen may_leave) (sym (if_it_stays old.peer step quiet))
    (subst (λ s. IsSaved site s now seen may_leave) (sym (append-nil steps)) (subst (λ s. IsSaved site steps s seen may_leave) (sym same) kept))

module _ {D : Type 0} (moment : D → ℕ) (left_since : D → ℕ → List ℕ → Type 0) (may_leave : D → List ℕ → Type 0) (seen : D → Option (List ℕ)) where
  abbrev OnlyNow : Type 0
  OnlyNow = (disk : D) (left : List ℕ) → left_since disk (moment disk) left → may_leave disk left

  -- where no call was made, a crash leaves the steps
  pub nothing_called : OnlyNow → (disk : D) (site : ℕ) (steps more : List Step) (saved : Saved) → IsSaved site steps saved (seen disk) (may_leave disk)
      → LeavesOnly moment left_since disk disk (StandsWithOrWithout site steps more)
  nothing_called only_now disk site steps more saved kept =
      started moment left_since disk (StandsWithOrWithout site steps more) (λ left since. inl (leaves_steps site steps saved (seen disk) (may_leave disk) kept left (only_now disk left since)))

  -- where no call was made, an empty disk stays empty, which is no store
  pub none_made : OnlyNow → (disk : D) (site : ℕ) → Only [] (may_leave disk) → LeavesOnly moment left_since disk disk (StandsForNoneIfAny site)
  none_made only_now disk site only =
      started moment left_since disk (StandsForNoneIfAny site) (λ left since. none_if_any site left (none_in_four site left (omega (arith, ap length (only left (only_now disk left since))))))

  -- where a file of no bodies was made, it leaves no store, or one of no steps
  pub file_made : (old new : D) (site : ℕ) → LeavesOnly moment left_since old new (HasNoneIfAny site) → LeavesOnly moment left_since old new (StandsForNoneIfAny site)
  file_made old new site leaves = weakened moment left_since old new (HasNoneIfAny site) (StandsForNoneIfAny site) leaves (none_if_any site)

-- ---- refusals

first_refusal : (spent full : Bool) (fault : StoreFault) → first_of (when spent Spent ∷ when full StoreFull ∷ []) ≡ Some fault → (fault ≡ Spent) ⊎ (fault ≡ StoreFull)
first_refusal true full fault is = inl (cc is)
first_refusal false true fault is = inr (cc is)
first_refusal false false fault is = absurd (cc is)

no_refusal : (spent full : Bool) → first_of (when spent Spent ∷ when full StoreFull ∷ []) ≡ None → full ≡ false
no_refusal true full none = absurd (cc none)
no_refusal false true none = absurd (cc none)
no_refusal false false none = refl

-- a step that is refused isn't made for that
pub refused_for : (saved : Saved) (step : Step) (fault : StoreFault) → refusal_of saved step ≡ Some fault → IsNotMadeFor fault (refusal_of saved step)
refused_for saved step fault refused = ⊎_elim
    (λ (is : fault ≡ Spent). subst (λ f. IsNotMadeFor f (refusal_of saved step)) (sym is) (refused ∙ ap Some is))
    (λ (is : fault ≡ StoreFull). subst (λ f. IsNotMadeFor f (refusal_of saved step)) (sym is) (refused ∙ ap Some is))
    (first_refusal saved.spent (finds_no_gate saved step) fault refused)

-- a step that was made wasn't refused
pub not_refused : (saved : Saved) (step : Step) (answer : Answer) → IfSome (refusal_of saved step) (λ fault. Ok answer ≡ Err fault) → refusal_of saved step ≡ None
not_refused saved step answer = by (refusal_of saved step)
  where
    by : (refusal : Option StoreFault) → IfSome refusal (λ (fault : StoreFault). Ok answer ≡ Err fault) → refusal ≡ None
    by None is = refl
    by (Some fault) is = absurd (cc is)

pub none_refused : (saved : Saved) (step : Step) (result : Result Answer StoreFault) → refusal_of saved step ≡ None → IfSome (refusal_of saved step) (λ fault. result ≡ Err fault)
none_refused saved step result none = subst (λ (o : Option StoreFault). IfSome o (λ (fault : StoreFault). result ≡ Err fault)) (sym none) tt

-- where a step isn't made for a fault, a put leaves all as it was
pub step_refused : {D : Type 0} (saved : Saved) (step : Step) (fault : StoreFault) (disk : D) → IsNotMadeFor fault (refusal_of saved step) → IsLeftBy fault step saved saved disk disk
step_refused saved step DiskFault disk is = absurd (never saved.spent (finds_no_gate saved step) DiskFault is (λ e. cc) (λ e. cc))
  where
    never : (spent full : Bool) (fault : StoreFault) → first_of (when spent Spent ∷ when full StoreFull ∷ []) ≡ Some fault → (fault ≡ Spent → ⊥) → (fault ≡ StoreFull → ⊥) → ⊥
    never spent full fault is one other = ⊎_elim one other (first_refusal spent full fault is)
step_refused saved step (NotAStore offset) disk is = ⊎_elim (λ (e : NotAStore offset ≡ Spent). absurd (cc e)) (λ (e : NotAStore offset ≡ StoreFull). absurd (cc e)) (first_refusal saved.spent (finds_no_gate saved step) (NotAStore offset) is)
step_refused saved step Spent disk is = (is, refl, refl)
step_refused saved step StoreFull disk is = (is, refl, refl)
step_refused saved step NoMemory disk is = (is, refl, refl)

-- where the step was made and its save gave up, it was for the disk
pub save_failed : {D : Type 0} (old middle new : Saved) (step : Step) (fault : StoreFault) (before now : D) → refusal_of old step ≡ None → middle.peer ≡ peer_after old.peer step → middle.spent ≡ false → middle.safe ≡ old.safe
    → IsUnsavedBy fault middle new before now → IsLeftBy fault step old new before now
save_failed old middle new step DiskFault before now none peer unspent safe is = (none, ap (λ (s : Saved). s.peer) is ∙ peer, ap (λ (s : Saved). s.spent) is, ap (λ (s : Saved). s.safe) is ∙ safe)
save_failed old middle new step (NotAStore offset) before now none peer unspent safe is = absurd is
save_failed old middle new step Spent before now none peer unspent safe is = absurd (both_ways middle.spent unspent is.0)
save_failed old middle new step StoreFull before now none peer unspent safe is = absurd is
save_failed old middle new step NoMemory before now none peer unspent safe is = absurd is

-- ---- room

-- records end where a number of 64 bits tells it
pub ends_within : (place : ℕ) (unsaved : List (List ℕ)) → place < 2 ^ 64 → FitsInFile place unsaved → place + length (records unsaved) < 2 ^ 64
ends_within place [] fits room = omega (arith, fits)
ends_within place (body ∷ bodies) fits room = omega (arith, room (λ e. cc))

-- a step that changes the peer, and isn't refused, finds the last gate within the limit
finds_room : (saved : Saved) (step : Step) → refusal_of saved step ≡ None → changes saved.peer step ≡ true → saved.place ≤ MAX_GATE
finds_room saved step none turns = ⊎_elim
    (λ (within : nat_lt MAX_GATE saved.place ≡ false). ltb-false MAX_GATE saved.place within)
    (λ (looks : not (is_look step) ≡ false). absurd (both_ways (changes saved.peer step) (looks_change_nothing saved.peer step (not-false (is_look step) looks)) turns))
    (and_cases (nat_lt MAX_GATE saved.place) (not (is_look step)) (no_refusal saved.spent (finds_no_gate saved step) none))

-- and so there is room behind its body
pub still_room : (saved : Saved) (step : Step) (place : ℕ) (new : List (List ℕ)) → saved.place ≡ place + length (records saved.unsaved) → refusal_of saved step ≡ None → FitsInFile place saved.unsaved
    → (changes saved.peer step ≡ true → IsKeptIn saved.unsaved new saved.peer step) → (changes saved.peer step ≡ false → new ≡ saved.unsaved)
    → ((version : ℕ) (s : Step) (bytes : List ℕ) → IsBody version s bytes → length bytes ≤ 281) → FitsInFile place new
still_room saved step place new there none room kept same short = by (changes saved.peer step) refl
  where
    grown : IsKeptIn saved.unsaved new saved.peer step → saved.place ≤ MAX_GATE → FitsInFile place new
    grown one within some =
        omega (
          arith,
          within,
          there,
          short (front saved.peer + 1) step one.body one.spells,
          ap (λ (l : List (List ℕ)). length (records l)) one.behind,
          ap length (records-push saved.unsaved one.body),
          length-append (records saved.unsaved) (record_of one.body),
          length-append (to_be_bytes w16 (length one.body)) one.body,
        )

    by : (turns : Bool) → changes saved.peer step ≡ turns → FitsInFile place new
    by true turns = grown (kept turns) (finds_room saved step none turns)
    by false quiet = subst (FitsInFile place) (sym (same quiet)) room

-- a body makes the records longer
pub longer : (old new : List (List ℕ)) (p : Peer) (step : Step) → IsKeptIn old new p step → length (records old) < length (records new)
longer old new p step kept =
    omega (arith, ap (λ (l : List (List ℕ)). length (records l)) kept.behind, ap length (records-push old kept.body), length-append (records old) (record_of kept.body))

-- ---- gates

-- the gate that the unsaved records begin at
pub gate_there : (place : ℕ) (unsaved : List (List ℕ)) (saved : Saved) (seen : Option (List ℕ)) → saved.place ≡ place + length (records unsaved) → saved.unsaved ≡ unsaved → HasGate saved seen
    → IfSome seen (λ file. place < length file)
gate_there place unsaved saved None there same gate = tt
gate_there place unsaved saved (Some file) there same gate = omega (arith, gate, there, ap (λ (l : List (List ℕ)). length (records l)) same)

pub gate_so : (place : ℕ) (saved : Saved) (seen : Option (List ℕ)) → saved.place ≡ place + length (records saved.unsaved) → IfSome seen (λ file. place < length file) → HasGate saved seen
gate_so place saved None there gate = tt
gate_so place saved (Some file) there gate = omega (arith, gate, there)
