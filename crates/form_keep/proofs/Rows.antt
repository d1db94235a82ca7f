-- How far a run came, from what was read, kept and written.
use Rattle.std.proofs.Common.{◌≡◌, ◌≢◌, ◌⊎◌, inl, inr, ⊎_elim, ℕ, List, [], ◌∷◌, ◌++◌, Option, Some, None, refl, sym, ap, ◌∙◌, subst, append_assoc, append-nil, IfSome, IsSome}
use Rattle.std.specs.Io.KnownBytes.{Appends}
use Rattle.std.proofs.KnownBytes.{Appends-nil, Appends-trans, Consumes-nil}
use Rattle.line_engine.specs.declared.status.Status.{Status}
use Rattle.line_engine.specs.Status.{IsSinkFail}
use Rattle.line_engine.specs.Output.{Output, Begins}
use Rattle.line_engine.specs.Engine.{Told, Says}
use Rattle.line_engine.proofs.Bytes.{left_known, told_read, begun_all}
use Rattle.peer_step.specs.declared.step.Step.{Step}
use Rattle.peer_core.specs.Peer.{Peer}
use Rattle.peer_store.specs.Steps.{replay_of, if_changing}
use Rattle.peer_store.specs.Store.{StandsFor, StandsWithOrWithout, Saved, IsSaved}
use Rattle.report_text.specs.Closing.{closing_lines}
use Rattle.line_input.specs.declared.reading.InputEnd.{InputEnd}
use Rattle.line_input.specs.declared.reading.InputEnd.TheVariants as ends
use Rattle.line_input.specs.Steps.{steps_of}
use Rattle.form_keep.specs.declared.stopped.Stopped.{Stopped}
use Rattle.form_keep.specs.declared.stopped.Stopped.TheVariants.{BadLine, TooLong, ReadFault, WriteFault, NoMemory, DiskFault, BadStore, StoreFull}
use Rattle.form_keep.specs.declared.reader.StepReader.{StepReader}
use Rattle.form_keep.specs.Reader.{StepsRead, StepsEnd, StepsStop}
use Rattle.form_keep.specs.Replies.{replies_from, changing_from}
use Rattle.form_keep.specs.Keeping.{DiskHas, AtEntry, OpenedStore, OpenStops, AreKept, IsCutShort, AnswerStops}
use Rattle.form_keep.specs.Run.{closing_output, stop_output, HasMade, ComesTo, ComesFor, RanKeep, replies_of, IsStored}
use Rattle.form_keep.proofs.Reading.{begun}
use Rattle.form_keep.proofs.Steps.{replies_more, room_is, more_kept}

-- what is saved is on the disk
disk_has : (site : ℕ) (steps : List Step) (saved : Saved) (seen : Option (List ℕ)) (may_leave : List ℕ → Type 0) → IsSaved site steps saved seen may_leave → DiskHas (StandsFor site steps) seen may_leave
disk_has site steps saved seen may_leave is = record {
  seen_has = subst (λ (o : Option (List ℕ)). IfSome o (StandsFor site steps)) (sym is.keeps.told) stands;
  crash_has = λ left may. subst (StandsFor site steps) (sym (is.keeps.durable left may)) stands;
}
  where
    stands : StandsFor site steps is.keeps.file
    stands = record { bodies = is.bodies; spelled = is.spelled; has = is.keeps.has }

begins_by : (site : ℕ) (entry : Option (List ℕ)) (kept : List Step) (old : Saved) (seen : Option (List ℕ)) (may_leave : List ℕ → Type 0) → IfSome entry (AtEntry site kept)
    → (IsSome entry → IsSaved site kept old seen may_leave) → IfSome entry (λ file. AtEntry site kept file × (old.peer ≡ replay_of site kept))
begins_by site None kept old seen may_leave begins saved = tt
begins_by site (Some file) kept old seen may_leave begins saved = (begins, (saved refl).peer_is)

module _ (site : ℕ) (entry : Option (List ℕ)) (old : Saved) (seen_old : Option (List ℕ)) (may_old : List ℕ → Type 0) (opened : OpenedStore site entry old seen_old may_old) where
  module _ (now : Saved) (made : List Step) (seen : Option (List ℕ)) (may : List ℕ → Type 0) (kept : AreKept old now made seen_old seen may_old may) where
    abbrev run_of : (input : List ℕ) (others : List Step) → steps_of input ≡ made ++ others → HasMade site entry input
    run_of input others first = record {
      kept = opened.kept;
      start = old.peer;
      begins = begins_by site entry opened.kept old seen_old may_old opened.begins opened.saved;
      made = made;
      others = others;
      steps_are = first;
      room = λ told. kept.room site opened.kept (opened.saved told);
    }

    saved_now : IsSome entry → IsSaved site (opened.kept ++ changing_from old.peer made) now seen may
    saved_now told = kept.keeps site opened.kept (opened.saved told)

    stored : IsSome entry → DiskHas (StandsFor site (opened.kept ++ changing_from old.peer made)) seen may
    stored told = disk_has site (opened.kept ++ changing_from old.peer made) now seen may (saved_now told)

    module _ (left_old left_new sink_old sink_new : Option (List ℕ)) (said : Appends sink_old sink_new (replies_from old.peer made)) where
      -- reading ended so, all answers were written, and these lines are due
      due : (out : Output) (end : InputEnd) (e : StepsEnd left_old left_new made end)
          → ComesTo out.status out.written site entry e.input (replies_from old.peer made) left_old left_new seen may → ComesFor out site entry left_old left_new sink_old sink_new seen may
      due out end e comes = record { input = e.input; told = e.ends.told; answered = replies_from old.peer made; appends = said; comes = comes }

      -- they are those of all steps
      abbrev all_made : (end : InputEnd) (e : StepsEnd left_old left_new made end) → end ≢ ends.ReadFault → end ≢ ends.NoMemory → HasMade site entry e.input
      all_made end e read memory = run_of e.input [] (sym (e.ends.lists read memory) ∙ sym (append-nil made))

      -- the input ended
      pub row_whole : StepsEnd left_old left_new made ends.Whole
          → ComesFor (closing_output (closing_lines now.peer)) site entry left_old left_new sink_old sink_new seen may
      row_whole e = due (closing_output (closing_lines now.peer)) ends.Whole e (
        all_made ends.Whole e (λ x. cc) (λ x. cc),
        sym (e.ends.ends (λ x. cc) (λ x. cc)),
        refl,
        e.ends.at_end refl,
        refl,
        ap closing_lines kept.after,
        stored,
      )

      -- reading stopped
      pub row_stop : (stopped : Stopped) → StepsStop left_old left_new made stopped → ComesFor (stop_output stopped) site entry left_old left_new sink_old sink_new seen may
      row_stop (BadLine number) e = due (stop_output (BadLine number)) (ends.BadLine number) e (
        all_made (ends.BadLine number) e (λ x. cc) (λ x. cc),
        (number, sym (e.ends.ends (λ x. cc) (λ x. cc)), refl),
        refl,
        refl,
        stored,
      )
      row_stop TooLong e = due (stop_output TooLong) ends.TooLong e (
        all_made ends.TooLong e (λ x. cc) (λ x. cc),
        sym (e.ends.ends (λ x. cc) (λ x. cc)),
        refl,
        refl,
        refl,
        stored,
      )
      row_stop ReadFault e = due (stop_output ReadFault) ends.ReadFault e (run_of e.input e.others e.first, e.ends.read_fault refl, refl, refl, stored)
      row_stop NoMemory e = due (stop_output NoMemory) ends.NoMemory e (refl, inr (run_of e.input e.others e.first, begun_all (replies_from old.peer made), stored))
      row_stop WriteFault e = absurd e
      row_stop DiskFault e = absurd e
      row_stop (BadStore offset) e = absurd e
      row_stop StoreFull e = absurd e

  -- ---- the answer to one more step stops

  module _ (mid : Saved) (made : List Step) (seen_mid : Option (List ℕ)) (may_mid : List ℕ → Type 0) (kept : AreKept old mid made seen_old seen_mid may_old may_mid)
      (left_old left_new sink_old sink_mid : Option (List ℕ)) (said : Appends sink_old sink_mid (replies_from old.peer made))
      (step : Step) (r : StepReader) (so_far : StepsRead left_old left_new r (made ++ step ∷ []))
      (new : Saved) (seen sink_new : Option (List ℕ)) (may : List ℕ → Type 0) where
    abbrev started : (bytes : List ℕ) × Told left_old bytes × ((others : List Step) × (steps_of bytes ≡ (made ++ step ∷ []) ++ others))
    started = begun left_old left_new r (made ++ step ∷ []) so_far

    next_is : steps_of started.0 ≡ made ++ step ∷ started.2.0
    next_is = started.2.1 ∙ append_assoc made (step ∷ []) started.2.0

    same_sink : sink_new ≡ sink_mid → Appends sink_old sink_new (replies_from old.peer made)
    same_sink same = subst (λ (s : Option (List ℕ)). Appends sink_old s (replies_from old.peer made)) (sym same) said

    -- the run up to where it was cut short
    cut_first : (more : List Step) → (more ≡ []) ⊎ (more ≡ step ∷ []) → (others : List Step) × (steps_of started.0 ≡ (made ++ more) ++ others)
    cut_first more (inl none) = (
      step ∷ started.2.0,
      next_is ∙ ap (λ (l : List Step). l ++ step ∷ started.2.0) (sym (append-nil made)) ∙ ap (λ (l : List Step). (made ++ l) ++ step ∷ started.2.0) (sym none),
    )
    cut_first more (inr one) = (started.2.0, started.2.1 ∙ ap (λ (l : List Step). (made ++ l) ++ started.2.0) (sym one))

    module _ (cut : IsCutShort mid new step sink_mid sink_new seen_mid seen may_mid may) where
      whole : AreKept old new (made ++ cut.made) seen_old seen may_old may
      whole = more_kept old mid new made cut.made seen_old seen_mid seen may_old may_mid may kept cut.kept

      begun_by : Begins (replies_from old.peer made ++ cut.part.0) (replies_from old.peer (made ++ cut.made))
      begun_by = (
        cut.part.1.0,
        sym (replies_more old.peer mid.peer made cut.made kept.after) ∙ ap (λ (l : List ℕ). replies_from old.peer made ++ l) cut.part.1.1
            ∙ sym (append_assoc (replies_from old.peer made) cut.part.0 cut.part.1.0),
      )

      row_cut : (out : Output) → ((run : HasMade site entry started.0) → Begins (replies_from old.peer made ++ cut.part.0) (replies_of run) → IsStored run seen may
          → ComesTo out.status out.written site entry started.0 (replies_from old.peer made ++ cut.part.0) left_old left_new seen may)
          → ComesFor out site entry left_old left_new sink_old sink_new seen may
      row_cut out comes = record {
        input = started.0;
        told = started.1;
        answered = replies_from old.peer made ++ cut.part.0;
        appends = Appends-trans sink_old sink_mid sink_new (replies_from old.peer made) cut.part.0 said cut.part.2;
        comes = comes (run_of new (made ++ cut.made) seen may whole started.0 (cut_first cut.made cut.at_most).0 (cut_first cut.made cut.at_most).1) begun_by
            (stored new (made ++ cut.made) seen may whole);
      }

    -- the step isn't answered, and these lines are due
    unanswered : (out : Output) → sink_new ≡ sink_mid → ComesTo out.status out.written site entry started.0 (replies_from old.peer made) left_old left_new seen may
        → ComesFor out site entry left_old left_new sink_old sink_new seen may
    unanswered out same comes = record { input = started.0; told = started.1; answered = replies_from old.peer made; appends = same_sink same; comes = comes }

    pub row_one : (stopped : Stopped) → AnswerStops stopped mid new step sink_mid sink_new seen_mid seen may_mid may → ComesFor (stop_output stopped) site entry left_old left_new sink_old sink_new seen may
    row_one DiskFault h = unanswered (stop_output DiskFault) h.0 (
      refl,
      inr (
        run_of mid made seen_mid may_mid kept started.0 (step ∷ started.2.0) next_is,
        refl,
        (
          step,
          started.2.0,
          refl,
          λ told. subst (λ (p : Peer). DiskHas (StandsWithOrWithout site (opened.kept ++ changing_from old.peer made) (if_changing p step)) seen may) kept.after
              (h.1 site (opened.kept ++ changing_from old.peer made) (saved_now mid made seen_mid may_mid kept told)),
        ),
      ),
    )
    row_one StoreFull h = unanswered (stop_output StoreFull) h.0 (
      run_of mid made seen_mid may_mid kept started.0 (step ∷ started.2.0) next_is,
      (
        step,
        started.2.0,
        refl,
        λ told. room_is site (opened.kept ++ changing_from old.peer made) mid seen_mid may_mid step (saved_now mid made seen_mid may_mid kept told) ∙ h.1,
      ),
      refl,
      refl,
      stored new made seen may (subst (λ (l : List Step). AreKept old new l seen_old seen may_old may) (append-nil made)
          (more_kept old mid new made [] seen_old seen_mid seen may_old may_mid may kept h.2)),
    )
    row_one WriteFault h = row_cut h (stop_output WriteFault) (λ run begins has. (refl, inr (run, begins, has)))
    row_one NoMemory h = row_cut h (stop_output NoMemory) (λ run begins has. (refl, inr (run, begins, has)))
    row_one (BadLine number) h = absurd h
    row_one TooLong h = absurd h
    row_one ReadFault h = absurd h
    row_one (BadStore offset) h = absurd h

-- nothing was read or answered, and these lines are due
row_unread : (site : ℕ) (entry left sink seen : Option (List ℕ)) (may : List ℕ → Type 0) (out : Output) → ComesTo out.status out.written site entry (left_known left) [] left left seen may
    → ComesFor out site entry left left sink sink seen may
row_unread site entry left sink seen may out comes = record {
  input = left_known left;
  told = told_read left left [] (Consumes-nil left);
  answered = [];
  appends = Appends-nil sink;
  comes = comes;
}

-- nothing is said
pub row_none : (site : ℕ) (entry left sink seen : Option (List ℕ)) (may : List ℕ → Type 0) → ComesFor (stop_output NoMemory) site entry left left sink sink seen may
row_none site entry left sink seen may = row_unread site entry left sink seen may (stop_output NoMemory) (refl, inl refl)

-- a store wasn't opened
pub row_unopened : (site : ℕ) (entry left sink seen : Option (List ℕ)) (may : List ℕ → Type 0) (stopped : Stopped) → OpenStops stopped site entry
    → ComesFor (stop_output stopped) site entry left left sink sink seen may
row_unopened site entry left sink seen may DiskFault h = row_unread site entry left sink seen may (stop_output DiskFault) (refl, inl refl)
row_unopened site entry left sink seen may (BadStore offset) h = row_unread site entry left sink seen may (stop_output (BadStore offset)) (refl, (offset, refl, h))
row_unopened site entry left sink seen may NoMemory h = row_none site entry left sink seen may
row_unopened site entry left sink seen may (BadLine number) h = absurd h
row_unopened site entry left sink seen may TooLong h = absurd h
row_unopened site entry left sink seen may ReadFault h = absurd h
row_unopened site entry left sink seen may WriteFault h = absurd h
row_unopened site entry left sink seen may StoreFull h = absurd h

-- ---- the end of a run

-- memory was wanting for the closing lines
row_unclosed : (site : ℕ) (entry left_old left_new sink_old sink_new seen : Option (List ℕ)) (may : List ℕ → Type 0) (closing : List ℕ)
    → ComesFor (closing_output closing) site entry left_old left_new sink_old sink_new seen may → ComesFor (stop_output NoMemory) site entry left_old left_new sink_old sink_new seen may
row_unclosed site entry left_old left_new sink_old sink_new seen may closing come = record {
  input = come.input;
  told = come.told;
  answered = come.answered;
  appends = come.appends;
  comes = (refl, inr (come.comes.0, subst (λ (l : List ℕ). Begins come.answered l) come.comes.4 (begun_all come.answered), come.comes.6));
}

-- the closing lines were made of a disk and a store that stayed
module _ {D : Type 0} (seen_of : D → Option (List ℕ)) (may_of : D → List ℕ → Type 0) (before now : D) (same : now ≡ before) (site : ℕ) (entry left_old left_new sink_old sink_new : Option (List ℕ))
    (closing : List ℕ) (come : ComesFor (closing_output closing) site entry left_old left_new sink_old sink_new (seen_of before) (may_of before)) where
  here : ComesFor (closing_output closing) site entry left_old left_new sink_old sink_new (seen_of now) (may_of now)
  here = subst (λ (d : D). ComesFor (closing_output closing) site entry left_old left_new sink_old sink_new (seen_of d) (may_of d)) (sym same) come

  pub closed : (lines : List ℕ) → lines ≡ closing → ComesFor (closing_output lines) site entry left_old left_new sink_old sink_new (seen_of now) (may_of now)
  closed lines is = subst (λ (l : List ℕ). ComesFor (closing_output l) site entry left_old left_new sink_old sink_new (seen_of now) (may_of now)) (sym is) here

  pub unclosed : (stopped : Stopped) → stopped ≡ NoMemory → ComesFor (stop_output stopped) site entry left_old left_new sink_old sink_new (seen_of now) (may_of now)
  unclosed stopped is = subst (λ (s : Stopped). ComesFor (stop_output s) site entry left_old left_new sink_old sink_new (seen_of now) (may_of now)) (sym is)
      (row_unclosed site entry left_old left_new sink_old sink_new (seen_of now) (may_of now) closing here)

-- the last lines were written, or the sink failed in them
pub ran_by : (out : Output) (site : ℕ) (entry left_old left_new sink_old sink_mid sink_new seen : Option (List ℕ)) (may : List ℕ → Type 0) (status : Status)
    → ComesFor out site entry left_old left_new sink_old sink_mid seen may → (written : List ℕ) × Says sink_mid sink_new status out written
    → (input : List ℕ) × RanKeep site entry left_old left_new sink_old sink_new seen may status input
ran_by out site entry left_old left_new sink_old sink_mid sink_new seen may status come says = (
  come.input,
  record {
    told = come.told;
    answered = come.answered;
    last = says.0;
    appends = Appends-trans sink_old sink_mid sink_new come.answered says.0 come.appends says.1.appends;
    due = out;
    comes = come.comes;
    given = ⊎_elim (λ (e : out ≡ record { written = says.0; status = status }). inl e) (λ (failed : IsSinkFail status). inr (failed, says.1.ends.begun)) says.1.given;
  },
)
