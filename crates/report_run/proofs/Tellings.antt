-- How lines that are told fit together.
use Rattle.std.proofs.Common.{◌≡◌, ℕ, suc, ◌+◌, ◌<◌, ◌≤◌, List, [], ◌∷◌, ◌++◌, length, drop, drop-cons, get_or, Some, None, Ok, Err, ◌⊎◌, inl, inr, refl, sym, ap, ◌∙◌, subst, append_assoc, append-nil, arith}
use Rattle.std.specs.Prelude.{slice_get, option_map}
use Rattle.std.proofs.lemmas.Option.{slice_get_within, slice_get_cases, get_or_from_slice_get}
use Rattle.std.specs.declared.option.Option.{Option}
use Rattle.std.specs.declared.result.Result.{Result}
use Rattle.std.specs.Io.KnownBytes.{Appends}
use Rattle.std.proofs.lemmas.List.{drop_all}
use Rattle.std.proofs.KnownBytes.{Appends-trans}
use Rattle.line_engine.specs.declared.status.Status.{Status}
use Rattle.line_engine.specs.declared.status.Status.TheVariants.{Done}
use Rattle.line_engine.specs.Status.{IsSinkFail}
use Rattle.line_engine.specs.Output.{Output, Begins, Ends}
use Rattle.line_engine.specs.Engine.{Says}
use Rattle.peer_step.specs.declared.step.Step.{Step}
use Rattle.peer_core.specs.Peer.{Peer, fresh_peer}
use Rattle.peer_core.specs.After.{peer_after}
use Rattle.peer_lock.specs.declared.call.Call.{Call}
use Rattle.peer_lock.specs.Run.{call, caller_at, StepAt, peer_after_run}
use Rattle.report_text.specs.Closing.{closing_lines}
use Rattle.report_run.specs.Report.{run_line, call_line, call_lines, report_from, report}
use Rattle.report_run.specs.Telling.{Tells}

-- a report that was begun
abbrev whole : List ℕ → Output
whole lines = record { written = lines; status = Done }

-- some, and then more
pub tells_then : {T : Type 0} (a b c : Option (List ℕ)) (xs ys : List ℕ) (r : Result T Status) → Appends a b xs → Tells b c ys r → Tells a c (xs ++ ys) r
tells_then a b c xs ys (Ok x) first next = Appends-trans a b c xs ys first next
tells_then a b c xs ys (Err status) first next =
    (xs ++ next.0, Appends-trans a b c xs next.0 first next.1, (next.2.0, ap (λ (l : List ℕ). xs ++ l) next.2.1 ∙ sym (append_assoc xs next.0 next.2.0)), next.3)

-- some, and what was to come isn't told
pub tells_short : (a b : Option (List ℕ)) (xs ys : List ℕ) (status : Status) → (w : List ℕ) × Appends a b w × Begins w xs × IsSinkFail status → (w : List ℕ) × Appends a b w × Begins w (xs ++ ys) × IsSinkFail status
tells_short a b xs ys status t = (t.0, t.1, (t.2.0 ++ ys, ap (λ (l : List ℕ). l ++ ys) t.2.1 ∙ append_assoc t.0 t.2.0 ys), t.3)

-- what was told in the end
pub says_all : (a b : Option (List ℕ)) (lines : List ℕ) → Appends a b lines → (w : List ℕ) × Says a b Done (whole lines) w
says_all a b lines all = (lines, record { appends = all; ends = record { whole = λ t. refl; begun = ([], sym (append-nil lines)) }; given = inl refl })

not_whole : (status : Status) → IsSinkFail status → (out : Output) (w : List ℕ) → Begins w out.written → Ends status w out
not_whole status (inl e) out w begun = subst (λ (s : Status). Ends s w out) (sym e) (record { whole = λ t. cc; begun = begun })
not_whole status (inr e) out w begun = subst (λ (s : Status). Ends s w out) (sym e) (record { whole = λ t. cc; begun = begun })

pub says_part : (a b : Option (List ℕ)) (status : Status) (lines : List ℕ) → (written : List ℕ) × Appends a b written × Begins written lines × IsSinkFail status
    → (w : List ℕ) × Says a b status (whole lines) w
says_part a b status lines t = (t.0, record { appends = t.1; ends = not_whole status t.3 (whole lines) t.0 t.2; given = inr t.3 })

-- ---- the steps of a run, one after the other

-- the run from a step on
call_from : (run : List Call) (i : ℕ) (caller : ℕ) (step : Step) → Some caller ≡ caller_at run i → StepAt run i step → drop i run ≡ call caller step ∷ drop (i + 1) run
call_from run i caller step at is =
    let (c, here, same) = is in
    let who : Some caller ≡ Some c.caller = at ∙ ap (λ (o : Option Call). option_map (λ (d : Call). d.caller) o) here in
    let by : caller ≡ c.caller = cc in
    let one : c ≡ call caller step = ap (λ (n : ℕ). call n c.step) (sym by) ∙ ap (call caller) same in
    drop_at run i c here ∙ ap (λ (d : Call). d ∷ drop (i + 1) run) one
  where
    drop_at : (run : List Call) (i : ℕ) (c : Call) → slice_get run i ≡ Some c → drop i run ≡ c ∷ drop (i + 1) run
    drop_at run i c here =
        let next : suc i ≡ i + 1 = omega arith in
        drop-cons run i c (slice_get_within run i c here) ∙ ap (λ (y : Call). y ∷ drop (suc i) run) (get_or_from_slice_get run i c c here)
        ∙ ap (λ (n : ℕ). c ∷ drop n run) next

-- there is a step at each place
pub some_call : (run : List Call) (i : ℕ) → i < length run → None ≡ caller_at run i → ⊥
some_call run i lt none = by (slice_get_cases run i)
  where
    by : (slice_get run i ≡ slice_get run i) × (((c : Call) × (i < length run) × (slice_get run i ≡ Some c) × (get_or run i c ≡ c)) ⊎ ((length run ≤ i) × (slice_get run i ≡ None))) → ⊥
    by (same, inl h) = let found : None ≡ Some h.0.caller = none ∙ ap (λ (o : Option Call). option_map (λ (d : Call). d.caller) o) h.2 in cc
    by (same, inr h) = omega (arith, h.0)

module _ (a b : Option (List ℕ)) (start p : Peer) (run : List Call) (i caller : ℕ) (step : Step) (before out : List ℕ)
    (at : Some caller ≡ caller_at run i) (is : StepAt run i step)
    (told : (said : List ℕ) × Appends a b said × (before ++ call_lines start run ≡ (said ++ out) ++ call_lines p (drop i run))) where
  cut : drop i run ≡ call caller step ∷ drop (i + 1) run
  cut = call_from run i caller step at is

  split : before ++ call_lines start run ≡ told.0 ++ ((out ++ call_line p (call caller step)) ++ call_lines (peer_after p step) (drop (i + 1) run))
  split =
      let line : List ℕ = call_line p (call caller step) in
      let later : List ℕ = call_lines (peer_after p step) (drop (i + 1) run) in
      told.2 ∙ ap (λ (l : List Call). (told.0 ++ out) ++ call_lines p l) cut
      ∙ append_assoc told.0 out (line ++ later) ∙ ap (λ (l : List ℕ). told.0 ++ l) (sym (append_assoc out line later))

  -- its line was gathered
  pub one_told : (c : Option (List ℕ)) (q : Peer) (left : List ℕ) → q ≡ peer_after p step
      → (more : List ℕ) × Appends b c more × (out ++ call_line p (call caller step) ≡ more ++ left)
      → (said : List ℕ) × Appends a c said × (before ++ call_lines start run ≡ (said ++ left) ++ call_lines q (drop (i + 1) run))
  one_told c q left after t =
      let later : List ℕ = call_lines (peer_after p step) (drop (i + 1) run) in (
        told.0 ++ t.0,
        Appends-trans a b c told.0 t.0 told.1 t.1,
        split ∙ ap (λ (l : List ℕ). told.0 ++ (l ++ later)) t.2
            ∙ sym (append_assoc told.0 (t.0 ++ left) later) ∙ ap (λ (l : List ℕ). l ++ later) (sym (append_assoc told.0 t.0 left))
            ∙ ap (λ (r : Peer). ((told.0 ++ t.0) ++ left) ++ call_lines r (drop (i + 1) run)) (sym after),
      )

  -- its line wasn't
  pub one_short : (c : Option (List ℕ)) (status : Status) → (w : List ℕ) × Appends b c w × Begins w (out ++ call_line p (call caller step)) × IsSinkFail status
      → (w : List ℕ) × Appends a c w × Begins w (before ++ call_lines start run) × IsSinkFail status
  one_short c status t =
      let later : List ℕ = call_lines (peer_after p step) (drop (i + 1) run) in (
        told.0 ++ t.0,
        Appends-trans a b c told.0 t.0 told.1 t.1,
        (t.2.0 ++ later, split ∙ ap (λ (l : List ℕ). told.0 ++ (l ++ later)) t.2.1 ∙ ap (λ (l : List ℕ). told.0 ++ l) (append_assoc t.0 t.2.0 later) ∙ sym (append_assoc told.0 t.0 (t.2.0 ++ later))),
        t.3,
      )

  pub peer_on : (q last : Peer) → q ≡ peer_after p step → peer_after_run p (drop i run) ≡ last → peer_after_run q (drop (i + 1) run) ≡ last
  peer_on q last after so_far =
      ap (λ (r : Peer). peer_after_run r (drop (i + 1) run)) after ∙ sym (ap (peer_after_run p) cut) ∙ so_far

-- ---- and to the end of them

pub all_told : (a b : Option (List ℕ)) (start p : Peer) (run : List Call) (i : ℕ) (before out : List ℕ) → length run ≤ i
    → (said : List ℕ) × Appends a b said × (before ++ call_lines start run ≡ (said ++ out) ++ call_lines p (drop i run))
    → (said : List ℕ) × Appends a b said × (before ++ call_lines start run ≡ said ++ out)
all_told a b start p run i before out past told =
    (told.0, told.1, told.2 ∙ ap (λ (l : List Call). (told.0 ++ out) ++ call_lines p l) (drop_all i run past) ∙ append-nil (told.0 ++ out))

pub peer_last : (p last : Peer) (run : List Call) (i : ℕ) → length run ≤ i → peer_after_run p (drop i run) ≡ last → p ≡ last
peer_last p last run i past so_far = sym (ap (peer_after_run p) (drop_all i run past)) ∙ so_far

-- ---- the parts of a report, one after the other

-- what an empty buffer has once a line was appended
pub only_line : (old out line : List ℕ) → old ≡ [] → out ≡ old ++ line → out ≡ line
only_line old out line none grown = grown ∙ ap (λ (l : List ℕ). l ++ line) none

-- the parts of a report, by what they are told of
module _ (n : ℕ) (run : List Call) (p : Peer) (head : List ℕ) (first : head ≡ run_line n) (size : n ≡ length run) where
  whole_report : (q : Peer) → q ≡ peer_after_run p run → (head ++ call_lines p run) ++ closing_lines q ≡ report_from p run
  whole_report q last =
      append_assoc head (call_lines p run) (closing_lines q)
      ∙ ap (λ (l : List ℕ). l ++ (call_lines p run ++ closing_lines q)) first
      ∙ ap (λ (m : ℕ). run_line m ++ (call_lines p run ++ closing_lines q)) size
      ∙ ap (λ (x : Peer). run_line (length run) ++ (call_lines p run ++ closing_lines x)) last

  pub calls_short : (a b : Option (List ℕ)) (status : Status) → (w : List ℕ) × Appends a b w × Begins w (head ++ call_lines p run) × IsSinkFail status
      → (w : List ℕ) × Appends a b w × Begins w (report_from p run) × IsSinkFail status
  calls_short a b status t =
      let last : Peer = peer_after_run p run in
      subst (λ (l : List ℕ). (w : List ℕ) × Appends a b w × Begins w l × IsSinkFail status) (whole_report last refl)
      (tells_short a b (head ++ call_lines p run) (closing_lines last) status t)

  pub all_parts : {T : Type 0} (a b c : Option (List ℕ)) (q : Peer) (out : List ℕ) (r : Result T Status) → q ≡ peer_after_run p run
      → (said : List ℕ) × Appends a b said × (head ++ call_lines p run ≡ said ++ out) → Tells b c (out ++ closing_lines q) r → Tells a c (report_from p run) r
  all_parts a b c q out r last t next =
      let closing : List ℕ = closing_lines q in
      let whole : t.0 ++ (out ++ closing) ≡ report_from p run
      = sym (append_assoc t.0 out closing) ∙ ap (λ (l : List ℕ). l ++ closing) (sym t.2) ∙ whole_report q last in
      subst (λ (l : List ℕ). Tells a c l r) whole (tells_then a b c t.0 (out ++ closing) r t.1 next)

-- the report from a peer that is fresh is that of its site
pub from_fresh : {T : Type 0} (a b : Option (List ℕ)) (site : ℕ) (p : Peer) (run : List Call) (r : Result T Status) → p ≡ fresh_peer site → Tells a b (report_from p run) r
    → Tells a b (report site run) r
from_fresh a b site p run r fresh told = subst (λ (x : Peer). Tells a b (report_from x run) r) fresh told
