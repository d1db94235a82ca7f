-- A peer that is ahead of its store, and what a crash may leave of it.
use Rattle.std.proofs.Common.{◌≡◌, inl, inr, ⊎_elim, ℕ, ◌+◌, Bool, true, false, List, [], ◌∷◌, ◌++◌, length, take, refl, sym, ◌∙◌, ap, subst, arith, append_assoc, append-nil, Option}
use Rattle.std.specs.Prelude.{fold}
use Rattle.std.proofs.lemmas.List.{take_at}
use Rattle.std.proofs.lemmas.List.Sums.{fold_push, fold-append}
use Rattle.peer_disk.specs.Disk.{LeavesOnly}
use Rattle.peer_disk.proofs.Moments.{started, weakened}
use Rattle.peer_disk.specs.Records.{records, gate_place, HasBodies, Keeps, IsBeforeOrAll}
use Rattle.edit_message.specs.declared.message.Message.{Message}
use Rattle.peer_step.specs.declared.step.Step.{Step}
use Rattle.peer_core.specs.Peer.{Peer, fresh_peer}
use Rattle.peer_core.specs.Answers.{answer_of}
use Rattle.peer_core.specs.After.{peer_after}
use Rattle.peer_core.proofs.AfterLemmas.{journal_grows}
use Rattle.peer_store.specs.Steps.{replay_of, changes, if_changing}
use Rattle.peer_store.specs.Store.{IsBodyFor, KeptAs, StandsFor, StandsWithOrWithout, Saved, IsSaved, IsOnDisk, IsAhead, HasMessages, safe_messages, IsKeptIn}
use Rattle.peer_store.proofs.Changes.{unchanged}
use Rattle.peer_store.proofs.Saving.{kept_append, kept_push, if_it_changes, if_it_stays}

-- ---- a journal is only added to

abbrev Grows : List Message → List Message → Type 0
Grows old new = (others : List Message) × (new ≡ old ++ others)

grows : (p : Peer) (steps : List Step) → Grows p.journal (fold peer_after p steps).journal
grows p [] = ([], sym (append-nil p.journal))
grows p (step ∷ steps) =
    let one = journal_grows p step (answer_of p step) in
    let more = grows (peer_after p step) steps in
    (one.0 ++ more.0, more.1 ∙ ap (λ (l : List Message). l ++ more.0) one.1 ∙ append_assoc p.journal one.0 more.0)

-- so a file that stands for steps and then more has the messages of the first
pub messages_stay : (site : ℕ) (steps more : List Step) (file : List ℕ) → StandsFor site (steps ++ more) file → HasMessages site (replay_of site steps).journal file
messages_stay site steps more file stands = record {
  steps = steps ++ more;
  stands = stands;
  others = (grows (replay_of site steps) more).0;
  journal_is = ap (λ (p : Peer). p.journal) (fold-append peer_after (fresh_peer site) steps more) ∙ (grows (replay_of site steps) more).1;
}

-- ---- a saved peer is ahead by no step, and its steps are on the disk

module _ (site : ℕ) (steps : List Step) (saved : Saved) (seen : Option (List ℕ)) (may_leave : List ℕ → Type 0) (is : IsSaved site steps saved seen may_leave) where
  pub none_ahead : IsAhead site steps [] saved
  none_ahead = record {
    bodies = is.bodies;
    spelled = is.spelled;
    unsaved = subst (KeptAs (replay_of site steps) []) (sym is.none) tt;
    place_is = omega (arith, is.keeps.place_is, ap (λ (l : List (List ℕ)). length (records l)) is.none);
    peer_is = is.peer_is;
    safe_is = is.safe_is ∙ ap (λ (p : Peer). length p.journal) is.peer_is;
  }

  pub is_on_disk : IsOnDisk site steps seen may_leave
  is_on_disk = record { bodies = is.bodies; spelled = is.spelled; keeps = subst (λ (n : ℕ). Keeps site is.bodies n seen may_leave) is.keeps.place_is is.keeps }

-- steps have one list of bodies
one_spelling : (p : Peer) (steps : List Step) (bodies others : List (List ℕ)) → KeptAs p steps bodies → KeptAs p steps others → bodies ≡ others
one_spelling p [] [] [] kept other = refl
one_spelling p [] [] (o ∷ others) kept other = absurd other
one_spelling p [] (b ∷ bodies) others kept other = absurd kept
one_spelling p (s ∷ steps) [] others kept other = absurd kept
one_spelling p (s ∷ steps) (b ∷ bodies) [] kept other = absurd other
one_spelling p (s ∷ steps) (b ∷ bodies) (o ∷ others) kept other =
    let body : b ≡ o = kept.0.spelled ∙ sym other.0.spelled in
    λ i. body i ∷ one_spelling (peer_after p s) steps bodies others kept.2 other.2 i

-- no bodies are those of no steps
none_of_none : (p : Peer) (steps : List Step) (bodies : List (List ℕ)) → bodies ≡ [] → KeptAs p steps bodies → steps ≡ []
none_of_none p [] bodies none kept = refl
none_of_none p (step ∷ steps) [] none kept = absurd kept
none_of_none p (step ∷ steps) (body ∷ bodies) none kept = absurd (cc none)

module _ (site : ℕ) (steps more : List Step) (saved : Saved) (is : IsAhead site steps more saved) where
  -- ---- a step more in memory

  module _ (now : Saved) (step : Step) (gate : ℕ) (there : saved.place ≡ gate + length (records saved.unsaved)) (next : now.place ≡ gate + length (records now.unsaved))
      (peer_is : now.peer ≡ peer_after saved.peer step) (safe_is : now.safe ≡ saved.safe) where
    -- that changes the peer
    one_ahead : changes saved.peer step ≡ true → IsKeptIn saved.unsaved now.unsaved saved.peer step → IsAhead site steps (more ++ if_changing saved.peer step) now
    one_ahead turns kept = subst (λ (l : List Step). IsAhead site steps (more ++ l) now) (sym (if_it_changes saved.peer step turns)) (record {
      bodies = is.bodies;
      spelled = is.spelled;
      unsaved = subst (KeptAs (replay_of site steps) (more ++ step ∷ [])) (sym kept.behind)
          (kept_push (replay_of site steps) more saved.unsaved step kept.body is.unsaved (subst (λ (p : Peer). IsBodyFor p step kept.body) is.peer_is kept.spells)
          (subst (λ (p : Peer). changes p step ≡ true) is.peer_is turns));
      place_is = omega (arith, there, next, is.place_is);
      peer_is = peer_is ∙ ap (λ (p : Peer). peer_after p step) is.peer_is ∙ sym (fold_push peer_after (replay_of site steps) more step);
      safe_is = safe_is ∙ is.safe_is;
    })

    -- that doesn't
    still_ahead : changes saved.peer step ≡ false → now.unsaved ≡ saved.unsaved → IsAhead site steps (more ++ if_changing saved.peer step) now
    still_ahead quiet same = subst (λ (l : List Step). IsAhead site steps l now) (sym (ap (λ (l : List Step). more ++ l) (if_it_stays saved.peer step quiet) ∙ append-nil more)) (record {
      bodies = is.bodies;
      spelled = is.spelled;
      unsaved = subst (KeptAs (replay_of site steps) more) (sym same) is.unsaved;
      place_is = omega (arith, there, next, is.place_is);
      peer_is = peer_is ∙ unchanged saved.peer step quiet ∙ is.peer_is;
      safe_is = safe_is ∙ is.safe_is;
    })

    pub after_step : (changes saved.peer step ≡ true → IsKeptIn saved.unsaved now.unsaved saved.peer step) → (changes saved.peer step ≡ false → now.unsaved ≡ saved.unsaved)
        → IsAhead site steps (more ++ if_changing saved.peer step) now
    after_step kept same = by (changes saved.peer step) refl
      where
        by : (turns : Bool) → changes saved.peer step ≡ turns → IsAhead site steps (more ++ if_changing saved.peer step) now
        by true turns = one_ahead turns (kept turns)
        by false quiet = still_ahead quiet (same quiet)

  -- ---- what files have

  abbrev saved_peer : Peer
  saved_peer = replay_of site steps

  -- the messages that are saved are those of the steps that are
  safe_are : safe_messages saved ≡ saved_peer.journal
  safe_are =
      (λ i. take (is.safe_is i) ((ap (λ (p : Peer). p.journal) is.peer_is ∙ (grows saved_peer more).1) i))
      ∙ take_at saved_peer.journal (grows saved_peer more).0 (length saved_peer.journal) refl

  -- a file that stands for these steps, and perhaps then for the others, has them
  pub has_either : (file : List ℕ) → StandsWithOrWithout site steps more file → HasMessages site (safe_messages saved) file
  has_either file either =
      subst (λ (l : List Message). HasMessages site l file) (sym safe_are)
      (⊎_elim
      (λ (those : StandsFor site steps file). messages_stay site steps [] file (subst (λ (l : List Step). StandsFor site l file) (sym (append-nil steps)) those))
      (λ (all : StandsFor site (steps ++ more) file). messages_stay site steps more file all)
      either)

  -- ---- all are saved

  module _ (seen : Option (List ℕ)) (may_leave : List ℕ → Type 0) (on : IsOnDisk site steps seen may_leave) where
    same_bodies : on.bodies ≡ is.bodies
    same_bodies = one_spelling (fresh_peer site) steps on.bodies is.bodies on.spelled is.spelled

    -- a crash before leaves the steps
    pub crash_stands : (left : List ℕ) → may_leave left → StandsWithOrWithout site steps more left
    crash_stands left may = inl (record { bodies = on.bodies; spelled = on.spelled; has = subst (HasBodies site on.bodies) (sym (on.keeps.durable left may)) on.keeps.has })

    pub keeps_there : (gate : ℕ) → saved.place ≡ gate + length (records saved.unsaved) → Keeps site is.bodies gate seen may_leave
    keeps_there gate there =
        let same : gate_place is.bodies ≡ gate = omega (arith, there, is.place_is) in
        subst (λ (n : ℕ). Keeps site is.bodies n seen may_leave) same (subst (λ (l : List (List ℕ)). Keeps site l (gate_place l) seen may_leave) same_bodies on.keeps)

    -- where none are unsaved
    pub none_saved : saved.unsaved ≡ [] → IsSaved site (steps ++ more) saved seen may_leave
    none_saved none =
        let no_more : more ≡ [] = none_of_none (replay_of site steps) more saved.unsaved none is.unsaved in
        let peer_is : saved.peer ≡ replay_of site steps = is.peer_is ∙ ap (λ (l : List Step). fold peer_after (replay_of site steps) l) no_more in
        subst (λ (l : List Step). IsSaved site l saved seen may_leave) (sym (ap (λ (l : List Step). steps ++ l) no_more ∙ append-nil steps)) (record {
          bodies = is.bodies;
          spelled = is.spelled;
          keeps = keeps_there saved.place (omega (arith, ap (λ (l : List (List ℕ)). length (records l)) none));
          peer_is = peer_is;
          none = none;
          safe_is = is.safe_is ∙ ap (λ (p : Peer). length p.journal) (sym peer_is);
        })

  all_spelled : KeptAs (fresh_peer site) (steps ++ more) (is.bodies ++ saved.unsaved)
  all_spelled = kept_append (fresh_peer site) steps more is.bodies saved.unsaved is.spelled is.unsaved

  -- a file with the bodies, and all unsaved ones or none, stands for the steps with all others or none
  pub stands_so : (left : List ℕ) → IsBeforeOrAll site is.bodies saved.unsaved left → StandsWithOrWithout site steps more left
  stands_so left either = ⊎_elim
      (λ (before : HasBodies site is.bodies left). inl (record { bodies = is.bodies; spelled = is.spelled; has = before }))
      (λ (after : HasBodies site (is.bodies ++ saved.unsaved) left). inr (record { bodies = is.bodies ++ saved.unsaved; spelled = all_spelled; has = after }))
      either

  pub all_saved : (now : Saved) (seen_now : Option (List ℕ)) (may_now : List ℕ → Type 0) → now.peer ≡ saved.peer → now.unsaved ≡ [] → now.safe ≡ length now.peer.journal
      → Keeps site (is.bodies ++ saved.unsaved) now.place seen_now may_now → IsSaved site (steps ++ more) now seen_now may_now
  all_saved now seen_now may_now peer_is none safe_is keeps = record {
    bodies = is.bodies ++ saved.unsaved;
    spelled = all_spelled;
    keeps = keeps;
    peer_is = peer_is ∙ is.peer_is ∙ sym (fold-append peer_after (fresh_peer site) steps more);
    none = none;
    safe_is = safe_is;
  }

module _ {D : Type 0} (moment : D → ℕ) (left_since : D → ℕ → List ℕ → Type 0) (may_leave : D → List ℕ → Type 0) (seen : D → Option (List ℕ))
    (site : ℕ) (steps more : List Step) (saved : Saved) (is : IsAhead site steps more saved) (old : D) (on : IsOnDisk site steps (seen old) (may_leave old)) where
  -- where no call was made, a crash leaves the steps
  pub nothing_saved : ((disk : D) (left : List ℕ) → left_since disk (moment disk) left → may_leave disk left) → LeavesOnly moment left_since old old (StandsWithOrWithout site steps more)
  nothing_saved only_now = started moment left_since old (StandsWithOrWithout site steps more) (λ left since. crash_stands site steps more saved is (seen old) (may_leave old) on left (only_now old left since))

  -- where the records were put, it leaves the steps, with all others or none
  pub records_put : (new : D) (gate : ℕ) → saved.place ≡ gate + length (records saved.unsaved)
      → ((site : ℕ) (bodies : List (List ℕ)) → Keeps site bodies gate (seen old) (may_leave old) → LeavesOnly moment left_since old new (IsBeforeOrAll site bodies saved.unsaved))
      → LeavesOnly moment left_since old new (StandsWithOrWithout site steps more)
  records_put new gate there leaves =
      weakened moment left_since old new (IsBeforeOrAll site is.bodies saved.unsaved) (StandsWithOrWithout site steps more)
      (leaves site is.bodies (keeps_there site steps more saved is (seen old) (may_leave old) on gate there)) (stands_so site steps more saved is)

  -- so it is where the place and what is unsaved are told of what is seen as the same
  pub inside_put : (new : D) (inside : Saved) (gate : ℕ) → inside ≡ saved → inside.place ≡ gate + length (records inside.unsaved)
      → ((site : ℕ) (bodies : List (List ℕ)) → Keeps site bodies gate (seen old) (may_leave old) → LeavesOnly moment left_since old new (IsBeforeOrAll site bodies inside.unsaved))
      → LeavesOnly moment left_since old new (StandsWithOrWithout site steps more)
  inside_put new inside gate same there leaves =
      records_put new gate (subst (λ (s : Saved). s.place ≡ gate + length (records s.unsaved)) same there)
      (subst (λ (s : Saved). (site : ℕ) (bodies : List (List ℕ)) → Keeps site bodies gate (seen old) (may_leave old) → LeavesOnly moment left_since old new (IsBeforeOrAll site bodies s.unsaved)) same leaves)

  -- and so the messages that were saved
  pub messages_left : (new : D) → LeavesOnly moment left_since old new (StandsWithOrWithout site steps more) → LeavesOnly moment left_since old new (HasMessages site (safe_messages saved))
  messages_left new leaves = weakened moment left_since old new (StandsWithOrWithout site steps more) (HasMessages site (safe_messages saved)) leaves (has_either site steps more saved is)
