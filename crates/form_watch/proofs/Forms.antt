-- What a watch writes, from its parts.
use Rattle.std.proofs.Common.{◌≡◌, ℕ, zero, suc, ◌≤◌, List, [], ◌∷◌, ◌++◌, length, map, replicate, inl, inr, refl, sym, ap, ◌∙◌, subst, arith, le_refl}
use Rattle.std.specs.Prelude.{flat_map}
use Rattle.std.specs.List.{All}
use Rattle.std.specs.declared.option.Option.{Option}
use Rattle.std.proofs.lemmas.List.{length-map, length-replicate}
use Rattle.std.proofs.lemmas.List.Elements.{All-nil, All-cons, All-replicate}
use Rattle.std.proofs.KnownBytes.{Appends-nil}
use Rattle.line_engine.specs.declared.status.Status.{Status}
use Rattle.line_engine.specs.declared.status.Status.TheVariants as status
use Rattle.line_engine.specs.Output.{Output}
use Rattle.line_engine.specs.Engine.{Says}
use Rattle.peer_step.specs.declared.step.Step.{Step}
use Rattle.peer_lock.specs.declared.call.Call.{Call}
use Rattle.peer_lock.specs.Run.{Recorded, recorded}
use Rattle.line_input.specs.declared.reading.InputEnd.{InputEnd}
use Rattle.line_input.specs.declared.reading.InputEnd.TheVariants.{Whole, BadLine, TooLong, ReadFault}
use Rattle.line_input.specs.Steps.{ReadSteps, EndCause}
use Rattle.report_run.specs.Report.{report}
use Rattle.screen_read.specs.Pages.{PageText}
use Rattle.screen_read.specs.Screen.{ArePagesOf}
use Rattle.form_watch.specs.Run.{watch_run}
use Rattle.form_watch.specs.Reads.{page_line, page_line_after, NeverFalls, AreReads}
use Rattle.form_watch.specs.Workers.{told_page, AreReadPages}
use Rattle.form_watch.specs.Watch.{done_with, watch_text, end_output, watch_end, WroteWatch, Watches}

-- ---- what was read, by how many steps each read saw

abbrev steps_in : List PageText → List ℕ
steps_in ps = map (λ (p : PageText). p.steps) ps

within_run : (site : ℕ) (run : List Call) (ps : List PageText) → ArePagesOf site run ps → All (λ (n : ℕ). n ≤ length run) (steps_in ps)
within_run site run [] of = All-nil (λ (n : ℕ). n ≤ length run)
within_run site run (p ∷ ps) of = All-cons (λ (n : ℕ). n ≤ length run) p.steps (steps_in ps) of.0.0 (within_run site run ps of.1)

lines_are : (site : ℕ) (run : List Call) (ps : List PageText) → ArePagesOf site run ps → flat_map page_line ps ≡ flat_map (page_line_after site run) (steps_in ps)
lines_are site run [] of = refl
lines_are site run (p ∷ ps) of =
    ap (λ (x : PageText). page_line x ++ flat_map page_line ps) of.0.1 ∙ ap (λ (l : List ℕ). page_line_after site run p.steps ++ l) (lines_are site run ps of.1)

-- a watch that was run
pub watched_wrote : (site reads : ℕ) (steps : List Step) (history : Recorded) (pages : List PageText) (newest : PageText) (a b : Option (List ℕ)) (s : Status)
    → history ≡ recorded site (watch_run steps) → AreReadPages site reads history.run pages newest
    → (w : List ℕ) × Says a b s (done_with (report history.site history.run ++ flat_map page_line (map (told_page newest) pages))) w → WroteWatch site reads steps Whole a b s
watched_wrote site reads steps history pages newest a b s of are (w, says) =
    let run : List Call = history.run in
    let is : run ≡ watch_run steps = ap (λ (r : Recorded). r.run) of in
    let bounded : List PageText = map (told_page newest) pages in
    let seen : List ℕ = steps_in bounded in
    let text : report history.site run ++ flat_map page_line bounded ≡ watch_text site steps seen
    = ap (λ (r : Recorded). report r.site run ++ flat_map page_line bounded) of ∙ ap (λ (l : List ℕ). report site run ++ l) (lines_are site run bounded are.of_run) ∙ ap (λ (r : List Call). report site r ++ flat_map (page_line_after site r) seen) is in
    let reads_are : AreReads reads run seen = record {
      many = length-map bounded (λ (p : PageText). p.steps) ∙ length-map pages (told_page newest) ∙ are.many;
      rising = are.rising;
      within = within_run site run bounded are.of_run;
    } in
    record {
      seen = seen;
      written = w;
      are_reads = subst (λ (r : List Call). AreReads reads r seen) is reads_are;
      says = subst (λ (l : List ℕ). Says a b s (done_with l) w) text says;
    }

-- ---- where nothing was run

zeros_rise : (n : ℕ) → NeverFalls (replicate n 0)
zeros_rise zero = tt
zeros_rise (suc zero) = tt
zeros_rise (suc (suc n)) = (le_refl 0, zeros_rise (suc n))

some_reads : (reads : ℕ) (run : List Call) → AreReads reads run (replicate reads 0)
some_reads reads run = record {
  many = length-replicate reads 0;
  rising = zeros_rise reads;
  within = All-replicate (λ (n : ℕ). n ≤ length run) reads 0 (omega arith);
}

-- what is written of an input that ended so holds of any reads
said_wrote : (site reads : ℕ) (steps : List Step) (end : InputEnd) (a b : Option (List ℕ)) (s : Status)
    → (w : List ℕ) × Says a b s (end_output (watch_text site steps (replicate reads 0)) end) w → WroteWatch site reads steps end a b s
said_wrote site reads steps end a b s (w, says) = record { seen = replicate reads 0; written = w; are_reads = some_reads reads (watch_run steps); says = says }

-- memory was wanting
pub nothing_wrote : (site reads : ℕ) (steps : List Step) (end : InputEnd) (a : Option (List ℕ)) → WroteWatch site reads steps end a a status.NoMemory
nothing_wrote site reads steps end a =
    let out : Output = end_output (watch_text site steps (replicate reads 0)) end in
    said_wrote site reads steps end a a status.NoMemory ([], record { appends = Appends-nil a; ends = record { whole = λ t. absurd (cc); begun = (out.written, refl) }; given = inr (inr refl) })

-- reading failed
pub fault_wrote : (site reads : ℕ) (steps : List Step) (a : Option (List ℕ)) → WroteWatch site reads steps ReadFault a a status.ReadFault
fault_wrote site reads steps a = said_wrote site reads steps ReadFault a a status.ReadFault ([], record { appends = Appends-nil a; ends = record { whole = λ t. refl; begun = ([], refl) }; given = inl refl })

pub bad_wrote : (site reads : ℕ) (steps : List Step) (k : ℕ) (a b : Option (List ℕ)) (s : Status) → (w : List ℕ) × Says a b s (end_output [] (BadLine k)) w → WroteWatch site reads steps (BadLine k) a b s
bad_wrote site reads steps k a b s says = said_wrote site reads steps (BadLine k) a b s says

pub long_wrote : (site reads : ℕ) (steps : List Step) (a b : Option (List ℕ)) (s : Status) → (w : List ℕ) × Says a b s (end_output [] TooLong) w → WroteWatch site reads steps TooLong a b s
long_wrote site reads steps a b s says = said_wrote site reads steps TooLong a b s says

-- ---- the form

pub form_wrote : (site reads : ℕ) (l r : Option (List ℕ)) (f f' : ℕ) (a b : Option (List ℕ)) (s : Status) (steps given : List Step) (end shown case : InputEnd) (many : ℕ)
    → (input : List ℕ) × ReadSteps l r input steps end → EndCause f f' end → given ≡ steps → many ≡ length steps → shown ≡ watch_end many end → shown ≡ case → WroteWatch site reads given case a b s
    → (input : List ℕ) × (xs : List Step) × (e : InputEnd) × ReadSteps l r input xs e × EndCause f f' e × Watches site reads xs e a b s
form_wrote site reads l r f f' a b s steps given end shown case many (input, read) cause same counted is here wrote =
    let ended : case ≡ watch_end (length steps) end = sym here ∙ is ∙ ap (λ (n : ℕ). watch_end n end) counted in
    (input, steps, end, read, cause, subst (λ (e : InputEnd). WroteWatch site reads steps e a b s) ended (subst (λ (xs : List Step). WroteWatch site reads xs case a b s) same wrote))
