-- What a store leaves of a journal.
use Rattle.std.proofs.Common.{◌≡◌, ℕ, inl, inr, Bool, true, false, List, [], ◌∷◌, ◌++◌, length, Some, None, refl, ap, sym, subst, ◌∙◌, append_assoc, arith}
use Rattle.std.specs.Prelude.{fold, IfSome, IsSome, is_some, Result, Ok, Err, OnOk, OnErr, IfOk}
use Rattle.std.proofs.Math.Logic.{∥∥₁_elim, ∥∥₁_map, ∥∥₁_prop}
use Rattle.std.proofs.lemmas.Grind.{merely}
use Rattle.peer_store.specs.declared.fault.StoreFault.{StoreFault}
use Rattle.std.specs.declared.option.Option.{Option}
use Rattle.std.proofs.lemmas.List.{append-nil}
use Rattle.std.proofs.lemmas.List.Sums.{fold-append}
use Rattle.edit_message.specs.declared.message.Message.{Message}
use Rattle.peer_step.specs.declared.step.Step.{Step}
use Rattle.peer_disk.specs.Records.{records, gate_place}
use Rattle.peer_core.specs.Peer.{Peer}
use Rattle.peer_core.specs.Answers.{answer_of}
use Rattle.peer_core.specs.After.{peer_after}
use Rattle.peer_store.specs.Steps.{replay_of, if_changing}
use Rattle.peer_store.specs.Store.{KeptAs, StandsFor, StandsWithOrWithout, Saved, IsSaved, IsAhead, IsOnDisk}
use Rattle.peer_core.proofs.AfterLemmas.{journal_grows}
use Rattle.host_store.specs.Kept.{StandsWithin, KeepsJournal, IsHeld, IsHeldIfTold}

-- a store stands for one list of steps
abbrev pub OneList : Type 0
OneList = (site : ℕ) (file : List ℕ) (first second : List Step) → StandsFor site first file → StandsFor site second file → first ≡ second

-- a journal begins with these messages
abbrev pub Begins : List Message → List Message → Type 0
Begins first journal = (others : List Message) × (journal ≡ first ++ others)

-- it grows with the steps
grown_by : (p : Peer) (steps : List Step) (first : List Message) → Begins first p.journal → Begins first (fold peer_after p steps).journal
grown_by p [] first h = h
grown_by p (step ∷ steps) first h =
    let grown = journal_grows p step (answer_of p step) in
    grown_by (peer_after p step) steps first
    (h.0 ++ grown.0, grown.1 ∙ ap (λ (J : List Message). J ++ grown.0) h.1 ∙ append_assoc first h.0 grown.0)

-- with itself
begins_itself : (journal : List Message) → Begins journal journal
begins_itself journal = ([], sym (append-nil journal))

-- and after a step with what it was
pub begins_after_step : (old new : Saved) (step : Step) → new.peer ≡ peer_after old.peer step → Begins old.peer.journal new.peer.journal
begins_after_step old new step after = subst (λ (p : Peer). Begins old.peer.journal p.journal) (sym after) (journal_grows old.peer step (answer_of old.peer step))

-- what the clauses of a save say where it went well
abbrev pub Saves : Saved → Saved → Option (List ℕ) → Option (List ℕ) → (List ℕ → Type 0) → (List ℕ → Type 0) → Type 0
Saves old new before now may may_now = (site : ℕ) (steps more : List Step) → IsAhead site steps more old → IsOnDisk site steps before may → IsSaved site (steps ++ more) new now may_now

-- and of the files that are left, however it went
abbrev pub Leaves : Saved → Option (List ℕ) → (List ℕ → Type 0) → (List ℕ → Type 0) → Type 0
Leaves old before may may_now = (site : ℕ) (steps more : List Step) → IsAhead site steps more old → IsOnDisk site steps before may → (file : List ℕ) → may_now file → StandsWithOrWithout site steps more file

-- a store is spent after a step as it was before
pub step_spent : {A : Type 0} (result : Result A StoreFault) (old new : Saved) (failed : Bool) → OnOk result (new.spent ≡ false) → OnErr result (new ≡ old) → old.spent ≡ failed → failed ≡ false
    → new.spent ≡ failed
step_spent (Ok x) old new failed ok err is unspent = ok ∙ sym unspent
step_spent (Err fault) old new failed ok err is unspent = ap (λ (s : Saved). s.spent) err ∙ is

-- what a test says of what the disk told
was_told : {A : Type 0} (o : Option A) → is_some o ∷ [] ≡ true ∷ [] → IsSome o
was_told None is = absurd cc
was_told (Some x) is = search (arith)

-- ---- the store of a site

module _ (site : ℕ) where
  grown_replay : (steps more : List Step) (first : List Message) → Begins first (replay_of site steps).journal → Begins first (replay_of site (steps ++ more)).journal
  grown_replay steps more first h =
      subst (λ (p : Peer). Begins first p.journal) (sym (fold-append peer_after (replay_of site []) steps more)) (grown_by (replay_of site steps) more first h)

  -- what is left with these steps, or with more of them, which were all that were made
  leaves_either : (steps more : List Step) (first : List Message) (file : List ℕ) → Begins first (replay_of site steps).journal → StandsWithOrWithout site steps more file
      → StandsWithin site first (replay_of site (steps ++ more)).journal file
  leaves_either steps more first file h (inl without) =
      let lost = grown_replay steps more (replay_of site steps).journal (begins_itself (replay_of site steps).journal) in
      record { steps = steps; stands = without; within = record { more = h.0; lost = lost.0; has_saved = h.1; was_made = lost.1 } }
  leaves_either steps more first file h (inr with) =
      let g = grown_replay steps more first h in
      let whole = begins_itself (replay_of site (steps ++ more)).journal in
      record { steps = steps ++ more; stands = with; within = record { more = g.0; lost = whole.0; has_saved = g.1; was_made = whole.1 } }

  -- what was made may become more
  more_made : (saved made now : List Message) (file : List ℕ) → Begins made now → StandsWithin site saved made file → StandsWithin site saved now file
  more_made saved made now file grown h = record {
    steps = h.steps;
    stands = h.stands;
    within = record {
      more = h.within.more;
      lost = h.within.lost ++ grown.0;
      has_saved = h.within.has_saved;
      was_made = grown.1 ∙ ap (λ (J : List Message). J ++ grown.0) h.within.was_made ∙ append_assoc (replay_of site h.steps).journal h.within.lost grown.0;
    };
  }

  pub keeps_more : (told : List Bool) (may_leave : List ℕ → Type 0) (made now saved : List Message) → Begins made now → KeepsJournal site told may_leave made saved
      → KeepsJournal site told may_leave now saved
  keeps_more told may_leave made now saved grown keeps is file there = ∥∥₁_map (keeps is file there) (more_made saved made now file grown)

  -- ---- a disk that has these steps

  module _ (steps : List Step) (seen : Option (List ℕ)) (may_leave : List ℕ → Type 0) (has : IsOnDisk site steps seen may_leave) where
    -- each file that is left stands for them
    stands_for : (file : List ℕ) → may_leave file → StandsFor site steps file
    stands_for file left = subst (StandsFor site steps) (sym (has.keeps.durable file left)) (record { bodies = has.bodies; spelled = has.spelled; has = has.keeps.has })

    -- what is kept of the journal is a beginning of that of the steps
    kept_begins : OneList → (first made : List Message) → StandsWithin site first made has.keeps.file → StandsFor site steps has.keeps.file → Begins first (replay_of site steps).journal
    kept_begins one first made left stands =
        let same : left.steps ≡ steps = one site has.keeps.file left.steps steps left.stands stands in
        subst (λ (s : List Step). Begins first (replay_of site s).journal) same (left.within.more, left.within.has_saved)

    -- the file that the disk tells may be left
    may_be_left : IfSome seen (λ file. may_leave file) → may_leave has.keeps.file
    may_be_left may = subst (λ (o : Option (List ℕ)). IfSome o (λ f. may_leave f)) has.keeps.told may

  -- ---- a store that is saved

  module _ (steps : List Step) (saved : Saved) (seen : Option (List ℕ)) (may_leave : List ℕ → Type 0) (kept : IsSaved site steps saved seen may_leave) where
    on_disk : IsOnDisk site steps seen may_leave
    on_disk = record {
      bodies = kept.bodies;
      spelled = kept.spelled;
      keeps = record { file = kept.keeps.file; told = kept.keeps.told; has = kept.keeps.has; durable = kept.keeps.durable; place_is = refl };
    }

    pub saved_held : IsHeld site saved seen may_leave
    saved_held = record {
      steps = steps;
      more = [];
      ahead = record {
        bodies = kept.bodies;
        spelled = kept.spelled;
        unsaved = subst (KeptAs (replay_of site steps) []) (sym kept.none) tt;
        place_is =
            let none : length (records saved.unsaved) ≡ 0 = ap (λ (bodies : List (List ℕ)). length (records bodies)) kept.none in
            let place : saved.place ≡ gate_place kept.bodies = kept.keeps.place_is in
            omega arith;
        peer_is = kept.peer_is;
        safe_is = kept.safe_is ∙ ap (λ (p : Peer). length p.journal) kept.peer_is;
      };
      disk = on_disk;
    }

    -- its whole journal is kept, and nothing else
    pub saved_keeps : (file : List ℕ) → may_leave file → StandsWithin site saved.peer.journal saved.peer.journal file
    saved_keeps file left = record {
      steps = steps;
      stands = stands_for steps seen may_leave on_disk file left;
      within = record {
        more = [];
        lost = [];
        has_saved = ap (λ (p : Peer). p.journal) (sym kept.peer_is) ∙ sym (append-nil saved.peer.journal);
        was_made = ap (λ (p : Peer). p.journal) kept.peer_is ∙ sym (append-nil (replay_of site steps).journal);
      };
    }

  -- ---- a new keeper

  -- what the clauses of an opening say, of what the disk told before
  abbrev pub SavedIfSeen : Option (List ℕ) → Saved → Option (List ℕ) → (List ℕ → Type 0) → Type 0
  SavedIfSeen before saved seen may_leave = IsSome before → (steps : List Step) × IsSaved site steps saved seen may_leave

  pub new_held : (before : Option (List ℕ)) (saved : Saved) (seen : Option (List ℕ)) (may_leave : List ℕ → Type 0) → SavedIfSeen before saved seen may_leave
      → IsHeldIfTold site (is_some before ∷ []) saved seen may_leave
  new_held before saved seen may_leave h is unspent = let kept = h (was_told before is) in saved_held kept.0 saved seen may_leave kept.1

  pub new_keeps : (before : Option (List ℕ)) (saved : Saved) (seen : Option (List ℕ)) (may_leave : List ℕ → Type 0) → SavedIfSeen before saved seen may_leave
      → KeepsJournal site (is_some before ∷ []) may_leave saved.peer.journal saved.peer.journal
  new_keeps before saved seen may_leave h is file left = let kept = h (was_told before is) in merely (saved_keeps kept.0 saved seen may_leave kept.1 file left)

  -- ---- a save

  pub save_holds : (told : List Bool) (old new : Saved) (before now : Option (List ℕ)) (may may_now : List ℕ → Type 0) → old.spent ≡ false → Saves old new before now may may_now
      → IsHeldIfTold site told old before may → IsHeldIfTold site told new now may_now
  save_holds told old new before now may may_now unspent saves held is _ =
      let h = held is unspent in
      saved_held (h.steps ++ h.more) new now may_now (saves site h.steps h.more h.ahead h.disk)

  pub save_keeps_all : (told : List Bool) (old new : Saved) (before now : Option (List ℕ)) (may may_now : List ℕ → Type 0) → old.spent ≡ false → Saves old new before now may may_now
      → ∥ IsHeldIfTold site told old before may ∥₁ → KeepsJournal site told may_now new.peer.journal new.peer.journal
  save_keeps_all told old new before now may may_now unspent saves held is file there =
      ∥∥₁_map held (λ (there_held : IsHeldIfTold site told old before may).
      let h = there_held is unspent in
      saved_keeps (h.steps ++ h.more) new now may_now (saves site h.steps h.more h.ahead h.disk) file there)

  -- all steps that were made are those that the disk has and those that it lacks
  made_is : (steps more : List Step) (saved : Saved) → IsAhead site steps more saved → saved.peer ≡ replay_of site (steps ++ more)
  made_is steps more saved ahead = ahead.peer_is ∙ sym (fold-append peer_after (replay_of site []) steps more)

  pub save_keeps : OneList → (told : List Bool) (old new : Saved) (before : Option (List ℕ)) (may may_now : List ℕ → Type 0) (first : List Message) → old.spent ≡ false → new.peer ≡ old.peer
      → Leaves old before may may_now → IfSome before (λ file. may file) → ∥ IsHeldIfTold site told old before may ∥₁ → KeepsJournal site told may old.peer.journal first
      → KeepsJournal site told may_now new.peer.journal first
  save_keeps one told old new before may may_now first unspent peer leaves left held keeps is file there =
      ∥∥₁_elim held ∥∥₁_prop (λ (there_held : IsHeldIfTold site told old before may).
      let h = there_held is unspent in
      let now : may h.disk.keeps.file = may_be_left h.steps before may h.disk left in
      let stands : StandsFor site h.steps h.disk.keeps.file = stands_for h.steps before may h.disk h.disk.keeps.file now in
      let made : replay_of site (h.steps ++ h.more) ≡ new.peer = sym (peer ∙ made_is h.steps h.more old h.ahead) in
      ∥∥₁_map (keeps is h.disk.keeps.file now) (λ (kept : StandsWithin site first old.peer.journal h.disk.keeps.file).
      subst (λ (p : Peer). StandsWithin site first p.journal file) made
      (leaves_either h.steps h.more first file (kept_begins h.steps before may h.disk one first old.peer.journal kept stands) (leaves site h.steps h.more h.ahead h.disk file there))))

  -- ---- a step

  pub step_held : {A : Type 0} (result : Result A StoreFault) (told : List Bool) (old new : Saved) (step : Step) (seen : Option (List ℕ)) (may_leave : List ℕ → Type 0)
      → OnOk result ((site : ℕ) (steps more : List Step) → IsAhead site steps more old → IsAhead site steps (more ++ if_changing old.peer step) new) → OnErr result (new ≡ old) → old.spent ≡ false
      → IsHeldIfTold site told old seen may_leave → IsHeldIfTold site told new seen may_leave
  step_held (Ok x) told old new step seen may_leave ok err unspent held is _ =
      let h = held is unspent in
      record { steps = h.steps; more = h.more ++ if_changing old.peer step; ahead = ok site h.steps h.more h.ahead; disk = h.disk }
  step_held (Err fault) told old new step seen may_leave ok err unspent held is _ = subst (λ (s : Saved). IsHeld site s seen may_leave) (sym err) (held is unspent)

  -- ---- an opening

  -- a new store, on a disk of which the length was asked before
  pub made_saved : (result : Result Saved StoreFault) (before now seen : Option (List ℕ)) (may_leave : List ℕ → Type 0) → now ≡ before
      → IfOk result (λ saved. IsSome now → IsSaved site [] saved seen may_leave) → IfOk result (λ saved. SavedIfSeen before saved seen may_leave)
  made_saved (Ok saved) before now seen may_leave same made = λ some. ([], made (subst IsSome (sym same) some))
  made_saved (Err fault) before now seen may_leave same made = tt
