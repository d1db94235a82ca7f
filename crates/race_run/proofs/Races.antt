-- The run of the form, from its two parts.
use Rattle.std.proofs.Common.{◌≡◌, ◌≢◌, ℕ, List, [], refl, sym, ap, ◌∙◌, subst, inr}
use Rattle.std.specs.declared.option.Option.{Option}
use Rattle.std.proofs.KnownBytes.{Appends-nil}
use Rattle.line_engine.specs.declared.status.Status.{Status}
use Rattle.line_engine.specs.declared.status.Status.TheVariants.{Done, ReadFault, WriteFault, NoMemory}
use Rattle.line_engine.specs.Input.{is_cut, counted_bytes}
use Rattle.line_engine.specs.Engine.{RanLines, Says, StatusCause}
use Rattle.peer_step.specs.declared.step.Step.{Step}
use Rattle.peer_lock.specs.declared.call.Call.{Call}
use Rattle.report_run.specs.Report.{report, report_output}
use Rattle.race_run.specs.Lists.{WorkLists, no_work, list_turn, list_closing, lists_of}
use Rattle.race_run.specs.Race.{IsRaceOf}
use Rattle.race_run.specs.Form.{IsRaceOn, RanRace, race_output}
use Rattle.race_run.proofs.Phases.{ran_short, ran_said, silent_by, still_caused, said_not_read}
use Rattle.race_run.proofs.InTurn.{in_turn, is_race}

-- ---- no memory for the race

pub nothing_said : (site : ℕ) (xs ys zs : List Step) (a : Option (List ℕ))
    → (run : List Call) × (w : List ℕ) × IsRaceOf xs ys zs run × Says a a NoMemory (report_output site run) w
nothing_said site xs ys zs a =
    let run = in_turn xs ys zs in (
      run,
      [],
      is_race xs ys zs,
      record { appends = Appends-nil a; ends = record { whole = λ t. cc; begun = (report site run, refl) }; given = inr (inr refl) },
    )

-- the lists were handed over, and the run is theirs
pub handed : (xs ys zs : List Step) (l : WorkLists) (run : List Call) → xs ≡ l.edits → ys ≡ l.arrivals → zs ≡ l.operations → IsRaceOf xs ys zs run → IsRaceOf l.edits l.arrivals l.operations run
handed xs ys zs l run p q r is = record { editor = is.editor ∙ p; receiver = is.receiver ∙ q; administrator = is.administrator ∙ r; others = is.others }

-- what was said of a history's site was said of this one
pub said_of : (site of : ℕ) (run : List Call) (a b : Option (List ℕ)) (status : Status) → of ≡ site
    → (w : List ℕ) × Says a b status (report_output of run) w → (w : List ℕ) × Says a b status (report_output site run) w
said_of site of run a b status is said = subst (λ (n : ℕ). (w : List ℕ) × Says a b status (report_output n run) w) is said

-- ---- the whole form

-- reading ended otherwise than with Done
pub raced_short : (site : ℕ) (lists : WorkLists) (l r a b : Option (List ℕ)) (status : Status) → status ≢ Done
    → (input : List ℕ) × (w : List ℕ) × RanLines list_turn list_closing no_work lists l r a b status input w
    → (input : List ℕ) × (w : List ℕ) × (run : List Call) × RanRace site l r a b status input w run
raced_short site lists l r a b status other (input, w, ran) =
    let of = lists_of input in
    let run = in_turn of.edits of.arrivals of.operations in
    let whole = ran_short (report site run) lists l r a b status input w other ran in
    (input, w, run, record { ran = whole; race = is_race of.edits of.arrivals of.operations; silent = silent_by (race_output site run) l r a b status input w whole })

-- the lists were raced, and the run was reported
pub raced : (site : ℕ) (lists : WorkLists) (l r a b c : Option (List ℕ)) (read status : Status) → read ≡ Done
    → (input : List ℕ) × (w : List ℕ) × RanLines list_turn list_closing no_work lists l r a b read input w
    → (run : List Call) × (w : List ℕ) × IsRaceOf lists.edits lists.arrivals lists.operations run × Says b c status (report_output site run) w
    → (input : List ℕ) × (w : List ℕ) × (run : List Call) × RanRace site l r a c status input w run
raced site lists l r a b c read status done (input, v, ran) (run, w, race, says) =
    let now : RanLines list_turn list_closing no_work lists l r a b Done input v = subst (λ (s : Status). RanLines list_turn list_closing no_work lists l r a b s input v) done ran in
    let whole = ran_said (report site run) lists l r a b c status input v w now says in
    let of : lists ≡ lists_of input = now.leaves refl in
    (input, w, run, record { ran = whole; race = subst (λ (x : WorkLists). IsRaceOf x.edits x.arrivals x.operations run) of race; silent = silent_by (race_output site run) l r a c status input w whole })

-- ---- causes

pub read_caused : (site before now : ℕ) (b c : Option (List ℕ)) (read status : Status) (xs ys zs : List Step) → read ≡ Done → StatusCause before now read ReadFault
    → (run : List Call) × (w : List ℕ) × IsRaceOf xs ys zs run × Says b c status (report_output site run) w → StatusCause before now status ReadFault
read_caused site before now b c read status xs ys zs done cause (run, w, race, says) =
    still_caused before now status (subst (λ (s : Status). StatusCause before now s ReadFault) done cause) (said_not_read b c status (report site run) w says)

pub write_caused : (before between now : ℕ) (read status : Status) → read ≡ Done → StatusCause before between read WriteFault → StatusCause between now status WriteFault → StatusCause before now status WriteFault
write_caused before between now read status done first next =
    let stays : between ≡ before = first.stayed (λ e. let clash : Done ≡ WriteFault = sym done ∙ e in cc) in
    subst (λ (n : ℕ). StatusCause n now status WriteFault) stays next
