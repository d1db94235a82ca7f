-- Reading, from the engine's run.
use Rattle.std.proofs.Common.{◌≡◌, ◌≢◌, ℕ, ◌+◌, Bool, true, false, List, [], ◌++◌, Option, Some, None, length, refl, sym, ap, ◌∙◌, subst, arith}
use Rattle.std.specs.Prelude.{IsTrue}
use Rattle.edit_io.specs.Causes.{next_count}
use Rattle.line_engine.specs.declared.status.Status.{Status}
use Rattle.line_engine.specs.declared.status.Status.TheVariants.{Done, Usage, BadInput, ReadFault, WriteFault, LinkFault, NoMemory, TooLong, NotShown, DiskFault, BadStore, StoreFull}
use Rattle.line_engine.specs.Output.{Output, is_whole}
use Rattle.line_engine.specs.Input.{is_cut, parts_of}
use Rattle.line_engine.specs.Engine.{Told, RanLines, StatusCause}
use Rattle.peer_step.specs.declared.step.Step.{Step}
use Rattle.line_input.specs.declared.reading.InputEnd.{InputEnd}
use Rattle.line_input.specs.declared.reading.InputEnd.TheVariants as ends
use Rattle.line_input.specs.Steps.{first_bad, input_lines, steps_of, end_at, end_of, whole_lines, ReadSteps, EndCause}
use Rattle.line_input.specs.Turn.{step_line_turn, step_line_closing, IsReadingStatus, end_after}
use Rattle.line_input.proofs.Lines.{world_is, output_at, output_is, bad_number, none_bad}

-- an output, by its bytes and status
abbrev out_with : List ℕ → Status → Output
out_with written status = record { written = written; status = status }

-- the statuses of outputs
status_at : (cut : Bool) (bad : Option ℕ) (w : List ℕ) (status : Status) → output_at cut bad ≡ out_with w status → IsReadingStatus status
status_at cut (Some k) w status e = subst IsReadingStatus (ap (λ (o : Output). o.status) e) tt
status_at true None w status e = subst IsReadingStatus (ap (λ (o : Output). o.status) e) tt
status_at false None w status e = subst IsReadingStatus (ap (λ (o : Output). o.status) e) tt

-- and the ends that they tell of
end_by : (cut : Bool) (bad : Option ℕ) (good : ℕ) (w : List ℕ) (status : Status) → ((k : ℕ) → bad ≡ Some k → k ≡ good + 1) → output_at cut bad ≡ out_with w status → end_after status good ≡ end_at cut bad
end_by cut (Some k) good w status number e =
    let is : BadInput ≡ status = ap (λ (o : Output). o.status) e in
    subst (λ (s : Status). end_after s good ≡ ends.BadLine k) is (ap ends.BadLine (sym (number k refl)))
end_by true None good w status number e =
    let is : TooLong ≡ status = ap (λ (o : Output). o.status) e in
    subst (λ (s : Status). end_after s good ≡ ends.TooLong) is refl
end_by false None good w status number e =
    let is : Done ≡ status = ap (λ (o : Output). o.status) e in
    subst (λ (s : Status). end_after s good ≡ ends.Whole) is refl

-- ---- what an input whose reading ended with a whole status leaves

module _ (l r : Option (List ℕ)) (steps : List Step) (status : Status) (input w : List ℕ) (ran : RanLines step_line_turn step_line_closing [] steps l r None None status input w) (whole : IsTrue (is_whole status)) where
  written : output_at (is_cut input) (first_bad 1 (input_lines input)) ≡ out_with w status
  written = sym (output_is (is_cut input) 1 [] (input_lines input)) ∙ ran.ends.whole whole

  lists : steps ≡ steps_of input
  lists = ran.leaves whole ∙ world_is [] (input_lines input)

  ended : end_after status (length steps) ≡ end_of input
  ended =
      end_by (is_cut input) (first_bad 1 (input_lines input)) (length steps) w status
      (λ k e. bad_number 1 k (input_lines input) e ∙ ap (λ (xs : List Step). length xs + 1) (sym lists)) written

  -- what was read of an input, where its source didn't fail and memory wasn't wanting, but not all of it was read
  partly_read : end_after status (length steps) ≢ ends.Whole → end_after status (length steps) ≢ ends.NoMemory → end_after status (length steps) ≢ ends.ReadFault
      → ReadSteps l r input steps (end_after status (length steps))
  partly_read early memory source =
      let same = lists in
      record {
        told = ran.told;
        ends = λ a b. ended;
        lists = λ a b. same;
        begins = λ e. absurd (memory e);
        at_end = λ e. absurd (early e);
        read_fault = λ e. absurd (source e);
      }

  reading : IsReadingStatus status
  reading = status_at (is_cut input) (first_bad 1 (input_lines input)) w status written

-- reading ended for want of memory, and no step is told of
untold : (l r : Option (List ℕ)) (input : List ℕ) (told_steps : List Step) → told_steps ≡ [] → Told l input → ReadSteps l r input told_steps ends.NoMemory
untold l r input told_steps none told = record {
  told = told;
  ends = λ a b. absurd (b refl);
  lists = λ a b. absurd (b refl);
  begins = λ e. (steps_of input, ap (λ (xs : List Step). xs ++ steps_of input) none);
  at_end = λ e. cc;
  read_fault = λ e. cc;
}

-- the steps that are told of, by how reading ended: none for want of memory, and else those that were read
record AreTold (read told : List Step) (end : InputEnd) : Type 0 where
  none : end ≡ ends.NoMemory → told ≡ []
  all : end ≢ ends.NoMemory → told ≡ read

module _ (l r : Option (List ℕ)) (steps told_steps : List Step) where
  all_told : (input : List ℕ) (end : InputEnd) → ReadSteps l r input steps end → told_steps ≡ steps → ReadSteps l r input told_steps end
  all_told input end read same = subst (λ (xs : List Step). ReadSteps l r input xs end) (sym same) read

  read_so : (status : Status) (input w : List ℕ) → RanLines step_line_turn step_line_closing [] steps l r None None status input w
      → AreTold steps told_steps (end_after status (length steps)) → ReadSteps l r input told_steps (end_after status (length steps))
  read_so Done input w ran are_told = all_told input ends.Whole (record {
    told = ran.told;
    ends = λ a b. ended l r steps Done input w ran refl;
    lists = λ a b. lists l r steps Done input w ran refl;
    begins = λ e. cc;
    at_end = λ e. ran.at_end refl;
    read_fault = λ e. cc;
  }) (are_told.all (λ e. cc))
  read_so BadInput input w ran are_told = all_told input (ends.BadLine (length steps + 1)) (partly_read l r steps BadInput input w ran refl (λ e. cc) (λ e. cc) (λ e. cc)) (are_told.all (λ e. cc))
  read_so TooLong input w ran are_told = all_told input ends.TooLong (partly_read l r steps TooLong input w ran refl (λ e. cc) (λ e. cc) (λ e. cc)) (are_told.all (λ e. cc))
  read_so ReadFault input w ran are_told = all_told input ends.ReadFault (record {
    told = ran.told;
    ends = λ a b. absurd (a refl);
    lists = λ a b. absurd (a refl);
    begins = λ e. cc;
    at_end = λ e. cc;
    read_fault = λ e. let f = ran.read_fault refl in (f.0, f.1, f.2, none_bad 1 [] (parts_of f.0) w f.3, f.4 ∙ world_is [] (whole_lines f.0));
  }) (are_told.all (λ e. cc))
  read_so NoMemory input w ran are_told = untold l r input told_steps (are_told.none refl) ran.told
  read_so Usage input w ran are_told = untold l r input told_steps (are_told.none refl) ran.told
  read_so WriteFault input w ran are_told = untold l r input told_steps (are_told.none refl) ran.told
  read_so LinkFault input w ran are_told = untold l r input told_steps (are_told.none refl) ran.told
  read_so NotShown input w ran are_told = untold l r input told_steps (are_told.none refl) ran.told
  read_so DiskFault input w ran are_told = untold l r input told_steps (are_told.none refl) ran.told
  read_so BadStore input w ran are_told = untold l r input told_steps (are_told.none refl) ran.told
  read_so StoreFull input w ran are_told = untold l r input told_steps (are_told.none refl) ran.told

-- ---- which statuses reading gives

is_reading : (l r : Option (List ℕ)) (steps : List Step) (status : Status) (input w : List ℕ) → RanLines step_line_turn step_line_closing [] steps l r None None status input w
    → StatusCause 0 0 status WriteFault → IsReadingStatus status
is_reading l r steps Done input w ran cause = tt
is_reading l r steps BadInput input w ran cause = tt
is_reading l r steps TooLong input w ran cause = tt
is_reading l r steps ReadFault input w ran cause = tt
is_reading l r steps NoMemory input w ran cause = tt
is_reading l r steps WriteFault input w ran cause = let rose : 0 ≡ next_count 0 = cause.rose refl in absurd (omega arith)
is_reading l r steps Usage input w ran cause = reading l r steps Usage input w ran refl
is_reading l r steps LinkFault input w ran cause = reading l r steps LinkFault input w ran refl
is_reading l r steps NotShown input w ran cause = reading l r steps NotShown input w ran refl
is_reading l r steps DiskFault input w ran cause = reading l r steps DiskFault input w ran refl
is_reading l r steps BadStore input w ran cause = reading l r steps BadStore input w ran refl
is_reading l r steps StoreFull input w ran cause = reading l r steps StoreFull input w ran refl

-- ---- the call, from its parts

module _ (l r : Option (List ℕ)) (first lines steps : List Step) (status : Status) (good : ℕ) (fresh : first ≡ []) (handed : steps ≡ lines) (counted : good ≡ length steps)
    (run : (input : List ℕ) × (w : List ℕ) × RanLines step_line_turn step_line_closing first lines l r None None status input w) where
  ran : RanLines step_line_turn step_line_closing [] steps l r None None status run.0 run.1
  ran =
      subst (λ (xs : List Step). RanLines step_line_turn step_line_closing [] xs l r None None status run.0 run.1) (sym handed)
      (subst (λ (xs : List Step). RanLines step_line_turn step_line_closing xs lines l r None None status run.0 run.1) fresh run.2)

  pub gives_status : StatusCause 0 0 status WriteFault → IsReadingStatus status
  gives_status cause = is_reading l r steps status run.0 run.1 ran cause

  pub gives_steps : (end : InputEnd) (told_steps : List Step) → end ≡ end_after status good → (end ≡ ends.NoMemory → told_steps ≡ []) → (end ≢ ends.NoMemory → told_steps ≡ steps)
      → (input : List ℕ) × ReadSteps l r input told_steps end
  gives_steps end told_steps is none all =
      let at : end ≡ end_after status (length steps) = is ∙ ap (end_after status) counted in
      let are_told : AreTold steps told_steps (end_after status (length steps)) = subst (AreTold steps told_steps) at (record { none = none; all = all }) in
      (run.0, subst (ReadSteps l r run.0 told_steps) (sym at) (read_so l r steps told_steps status run.0 run.1 ran are_told))

-- ---- causes

caused_else : (before now good : ℕ) (status : Status) → status ≢ ReadFault → end_after status good ≢ ends.ReadFault → StatusCause before now status ReadFault → EndCause before now (end_after status good)
caused_else before now good status other no_fault c = record { later = c.later; rose = λ e. absurd (no_fault e); stayed = λ h. c.stayed other }

caused_so : (before now good : ℕ) (status : Status) → StatusCause before now status ReadFault → EndCause before now (end_after status good)
caused_so before now good ReadFault c = record { later = c.later; rose = λ e. c.rose refl; stayed = λ h. absurd (h refl) }
caused_so before now good Done c = caused_else before now good Done (λ e. cc) (λ e. cc) c
caused_so before now good BadInput c = caused_else before now good BadInput (λ e. cc) (λ e. cc) c
caused_so before now good TooLong c = caused_else before now good TooLong (λ e. cc) (λ e. cc) c
caused_so before now good NoMemory c = caused_else before now good NoMemory (λ e. cc) (λ e. cc) c
caused_so before now good Usage c = caused_else before now good Usage (λ e. cc) (λ e. cc) c
caused_so before now good WriteFault c = caused_else before now good WriteFault (λ e. cc) (λ e. cc) c
caused_so before now good LinkFault c = caused_else before now good LinkFault (λ e. cc) (λ e. cc) c
caused_so before now good NotShown c = caused_else before now good NotShown (λ e. cc) (λ e. cc) c
caused_so before now good DiskFault c = caused_else before now good DiskFault (λ e. cc) (λ e. cc) c
caused_so before now good BadStore c = caused_else before now good BadStore (λ e. cc) (λ e. cc) c
caused_so before now good StoreFull c = caused_else before now good StoreFull (λ e. cc) (λ e. cc) c

pub gives_cause : (before now good : ℕ) (status : Status) (end : InputEnd) → end ≡ end_after status good → StatusCause before now status ReadFault → EndCause before now end
gives_cause before now good status end is c = subst (EndCause before now) (sym is) (caused_so before now good status c)
