-- What a put leaves of a run.
use Rattle.std.proofs.Common.{◌≡◌, ◌⊎◌, inl, inr, ℕ, ◌≤◌, Bool, true, false, List, [], ◌∷◌, ◌++◌, Option, Some, None, Result, Ok, Err, IfSome, IfErr, OnErr, take, refl, sym, ap, ◌∙◌, subst, append-nil}
use Rattle.std.specs.Io.KnownBytes.{Appends}
use Rattle.std.proofs.KnownBytes.{Appends-nil}
use Rattle.element_name.specs.Cases.{when, first_of}
use Rattle.line_engine.specs.Output.{Begins}
use Rattle.line_engine.proofs.Bytes.{begun_none, begun_prefix}
use Rattle.peer_disk.specs.Disk.{LeavesOnly}
use Rattle.peer_step.specs.declared.step.Step.{Step}
use Rattle.peer_step.specs.declared.answer.Answer.{Answer}
use Rattle.peer_core.specs.Answers.{answer_of}
use Rattle.peer_core.specs.After.{peer_after}
use Rattle.peer_store.specs.declared.fault.StoreFault.{StoreFault}
use Rattle.peer_store.specs.declared.fault.StoreFault.TheVariants as faults
use Rattle.peer_store.specs.Steps.{if_changing}
use Rattle.peer_store.specs.Store.{StandsWithOrWithout, Saved, IsSaved, finds_no_gate}
use Rattle.peer_store.specs.Faults.{refusal_of, IsLeftBy}
use Rattle.line_spelling.specs.Answers.{answer_line}
use Rattle.form_keep.specs.declared.stopped.Stopped.{Stopped}
use Rattle.form_keep.specs.declared.stopped.Stopped.TheVariants.{WriteFault, NoMemory}
use Rattle.form_keep.specs.Stopping.{stop_of_fault}
use Rattle.form_keep.specs.Replies.{replies_from}
use Rattle.form_keep.specs.Keeping.{DiskHas, AreKept, IsCutShort, AnswerStops}
use Rattle.form_keep.proofs.Steps.{none_kept, one_kept}

-- ---- whether a put is refused

-- a put that was answered found room
pub room_found : (old : Saved) (step : Step) (answer : Answer) → IfSome (refusal_of old step) (λ fault. Ok answer ≡ Err fault) → finds_no_gate old step ≡ false
room_found old step answer = by old.spent (finds_no_gate old step)
  where
    by : (spent full : Bool) → IfSome (first_of (when spent faults.Spent ∷ when full faults.StoreFull ∷ [])) (λ (fault : StoreFault). Ok answer ≡ Err fault) → full ≡ false
    by true full h = absurd cc
    by false true h = absurd cc
    by false false h = refl

pub not_spent : (old : Saved) (step : Step) → old.spent ≡ false → refusal_of old step ≡ Some faults.Spent → ⊥
not_spent old step = by old.spent (finds_no_gate old step)
  where
    by : (spent full : Bool) → spent ≡ false → first_of (when spent faults.Spent ∷ when full faults.StoreFull ∷ []) ≡ Some faults.Spent → ⊥
    by true full e h = cc
    by false true e h = cc
    by false false e h = cc

pub is_full : (old : Saved) (step : Step) → old.spent ≡ false → refusal_of old step ≡ Some faults.StoreFull → finds_no_gate old step ≡ true
is_full old step = by old.spent (finds_no_gate old step)
  where
    by : (spent full : Bool) → spent ≡ false → first_of (when spent faults.Spent ∷ when full faults.StoreFull ∷ []) ≡ Some faults.StoreFull → full ≡ true
    by true full e h = absurd cc
    by false true e h = refl
    by false false e h = absurd cc

-- ---- a step that isn't answered

module _ {D : Type 0} (seen : D → Option (List ℕ)) (may_leave : D → List ℕ → Type 0) (moment : D → ℕ) (left_since : D → ℕ → List ℕ → Type 0)
    (seen_may_stay : (disk : D) → IfSome (seen disk) (λ file. may_leave disk file))
    (counts_now : (disk : D) (time : ℕ) (left : List ℕ) → time ≤ moment disk → may_leave disk left → left_since disk time left)
    (old new : Saved) (step : Step) (before now : D) (sink : Option (List ℕ)) where
  same_disk : now ≡ before → new ≡ old → (site : ℕ) (kept : List Step) → IsSaved site kept old (seen before) (may_leave before) → IsSaved site kept new (seen now) (may_leave now)
  same_disk same store site kept saved =
      subst (λ (d : D). IsSaved site kept new (seen d) (may_leave d)) (sym same) (subst (λ (s : Saved). IsSaved site kept s (seen before) (may_leave before)) (sym store) saved)

  -- each crash leaves the steps from before it, with it or without, and so does a read
  torn : ((site : ℕ) (kept : List Step) → IsSaved site kept old (seen before) (may_leave before) → LeavesOnly moment left_since before now (StandsWithOrWithout site kept (if_changing old.peer step)))
      → (site : ℕ) (kept : List Step) → IsSaved site kept old (seen before) (may_leave before) → DiskHas (StandsWithOrWithout site kept (if_changing old.peer step)) (seen now) (may_leave now)
  torn leaves site kept saved = record { seen_has = read (seen now) (seen_may_stay now); crash_has = crash }
    where
      crash : (left : List ℕ) → may_leave now left → StandsWithOrWithout site kept (if_changing old.peer step) left
      crash left may = let l = leaves site kept saved in l.each left (counts_now now (moment before) left l.later may)

      read : (o : Option (List ℕ)) → IfSome o (λ file. may_leave now file) → IfSome o (StandsWithOrWithout site kept (if_changing old.peer step))
      read None h = tt
      read (Some file) h = crash file h

  pub put_stops : (fault : StoreFault) → old.spent ≡ false → IsLeftBy fault step old new before now
      → ((site : ℕ) (kept : List Step) → IsSaved site kept old (seen before) (may_leave before) → LeavesOnly moment left_since before now (StandsWithOrWithout site kept (if_changing old.peer step)))
      → AnswerStops (stop_of_fault fault) old new step sink sink (seen before) (seen now) (may_leave before) (may_leave now)
  put_stops faults.DiskFault unspent left leaves = (refl, torn leaves)
  put_stops (faults.NotAStore offset) unspent left leaves = absurd left
  put_stops faults.Spent unspent left leaves = absurd (not_spent old step unspent left.0)
  put_stops faults.StoreFull unspent left leaves =
      (refl, is_full old step unspent left.0, none_kept old new (seen before) (seen now) (may_leave before) (may_leave now) left.1 unspent (same_disk left.2 left.1))
  put_stops faults.NoMemory unspent left leaves = record {
    made = [];
    at_most = inl refl;
    kept = none_kept old new (seen before) (seen now) (may_leave before) (may_leave now) left.1 unspent (same_disk left.2 left.1);
    part = ([], begun_none [], Appends-nil sink);
  }

module _ (old new : Saved) (step : Step) (sink_old sink_new a b : Option (List ℕ)) (before now : List ℕ → Type 0) (kept : AreKept old new (step ∷ []) a b before now) where
  -- a part of the answer's line was written
  pub said_part : (part : List ℕ) → Begins part (replies_from old.peer (step ∷ [])) → Appends sink_old sink_new part → IsCutShort old new step sink_old sink_new a b before now
  said_part part begins appends = record { made = step ∷ []; at_most = inr refl; kept = kept; part = (part, begins, appends) }

  pub part_stops : (stopped : Stopped) → (stopped ≡ WriteFault) ⊎ (stopped ≡ NoMemory) → (part : List ℕ) × Begins part (replies_from old.peer (step ∷ [])) × Appends sink_old sink_new part
      → AnswerStops stopped old new step sink_old sink_new a b before now
  part_stops stopped (inl e) h = subst (λ (s : Stopped). AnswerStops s old new step sink_old sink_new a b before now) (sym e) (said_part h.0 h.1 h.2)
  part_stops stopped (inr e) h = subst (λ (s : Stopped). AnswerStops s old new step sink_old sink_new a b before now) (sym e) (said_part h.0 h.1 h.2)

  pub lines_stop : {T : Type 0} (r : Result T Stopped) (line : List ℕ) → line ≡ replies_from old.peer (step ∷ []) → OnErr r ((n : ℕ) × Appends sink_old sink_new (take n line))
      → IfErr r (λ stopped. (stopped ≡ WriteFault) ⊎ (stopped ≡ NoMemory)) → IfErr r (λ stopped. AnswerStops stopped old new step sink_old sink_new a b before now)
  lines_stop (Ok x) line is h k = tt
  lines_stop (Err stopped) line is h k = part_stops stopped k (take h.0 line, begun_prefix line [] (replies_from old.peer (step ∷ [])) h.0 (sym is ∙ sym (append-nil line)), h.1)

-- a put that was answered keeps its step
pub put_kept : (old new : Saved) (step : Step) (answer : Answer) (a b : Option (List ℕ)) (before now : List ℕ → Type 0) → new.peer ≡ peer_after old.peer step → new.spent ≡ false
    → IfSome (refusal_of old step) (λ fault. Ok answer ≡ Err fault)
    → ((site : ℕ) (kept : List Step) → IsSaved site kept old a before → IsSaved site (kept ++ if_changing old.peer step) new b now) → AreKept old new (step ∷ []) a b before now
put_kept old new step answer a b before now after unspent refused keeps = one_kept old new step a b before now after unspent (room_found old step answer refused) keeps

-- the line of an answer is the reply to its step
pub line_is : (old : Saved) (step : Step) (answer : Answer) (line : List ℕ) → answer ≡ answer_of old.peer step → line ≡ answer_line None answer → line ≡ replies_from old.peer (step ∷ [])
line_is old step answer line answered is = is ∙ ap (λ (x : Answer). answer_line None x) answered ∙ sym (append-nil (answer_line None (answer_of old.peer step)))
