-- How many lines of a course are edits.
use Rattle.std.proofs.Common.{◌≡◌, ℕ, zero, suc, ◌+◌, ◌-◌, ◌*◌, ◌<◌, ◌≤◌, Bool, true, false, cond, List, [], ◌∷◌, ◌++◌, length, filter, refl, arith}
use Rattle.std.specs.Prelude.{◌%◌, ◌==◌, min, nat_lt, if◌then◌else◌}
use Rattle.std.proofs.lemmas.Bool.{ltb-true}
use Rattle.policy_book.specs.declared.op.AdminOp.TheVariants.{AddAuth, DelAuth}
use Rattle.peer_step.specs.declared.step.Step.TheVariants.{Administer, ValidateNext}
use Rattle.replay_net.specs.declared.line.Line.{Line}
use Rattle.replay_net.specs.declared.line.Line.TheVariants.{Local}
use Rattle.edit_make.specs.declared.limits.TheConstants.{PEERS, ROUND_EDITS}
use Rattle.edit_make.specs.Draws.{drawn}
use Rattle.edit_make.specs.Laws.{is_edit_line}
use Rattle.edit_make.specs.Schedule.{Moment, Course, after_draws, after_line, lines_then, full_auth, give_lines, opening_lines, operation_step, operation_draws, operation_then, next_edit, draws_of, edit_line, edit_then, edits_then}
use Rattle.edit_make.specs.Schedule.{settle, delivery, was_quiet, settles_then, settled_then, delivery_then, issued_since, deliveries_then, round_then, rounds_then, round_count, rounds_of, made_lines}
use Rattle.edit_make.proofs.Numbers.{given_numbers}

-- how many of the lines are edits
abbrev pub edits_in : List Line → ℕ
edits_in lines = length (filter is_edit_line lines)

-- a course with so many
abbrev pub HasEdits : ℕ → Course → Type 0
HasEdits n course = (m : Moment) → edits_in (course m) ≡ n

-- ---- lines

-- a line that is no edit
no_edit : (line : Line) (lines : List Line) → is_edit_line line ≡ false → edits_in (line ∷ lines) ≡ edits_in lines
no_edit line lines h = rw h refl

-- lines without edits, and then a course
none_then : (lines : List Line) (n : ℕ) (course : Course) → edits_in lines ≡ 0 → HasEdits n course → HasEdits n (lines_then lines course)
none_then [] n course none rest m = rest m
none_then (line ∷ lines) n course none rest m = by (is_edit_line line) none (λ fewer. none_then lines n course fewer rest (after_line line m))
  where
    by : (b : Bool) → length (cond b (line ∷ filter is_edit_line lines) (filter is_edit_line lines)) ≡ 0
        → (edits_in lines ≡ 0 → edits_in (lines_then lines course (after_line line m)) ≡ n)
        → length (cond b (line ∷ filter is_edit_line (lines_then lines course (after_line line m))) (filter is_edit_line (lines_then lines course (after_line line m)))) ≡ n
    by true none later = absurd (omega (arith, none))
    by false none later = later none

gives_none : (peer : ℕ) (numbers : List ℕ) (lines : List Line) → edits_in (give_lines peer numbers ++ lines) ≡ edits_in lines
gives_none peer [] lines = refl
gives_none peer (number ∷ numbers) lines = gives_none peer numbers lines

operation_is_none : (j x : ℕ) → is_edit_line (Local 0 (operation_step j x)) ≡ false
operation_is_none j x = by (j % 4 == 1) (j % 4 == 3)
  where
    by : (first third : Bool) → is_edit_line (Local 0 (if first then Administer (AddAuth 0 (full_auth ((1 + drawn 1 3 x) ∷ []) false))
        else (if third then Administer (DelAuth 0) else ValidateNext))) ≡ false
    by true third = refl
    by false true = refl
    by false false = refl

-- ---- courses

operation_has : (j n : ℕ) (course : Course) → HasEdits n course → HasEdits n (operation_then j course)
operation_has j n course rest m =
    none_then (Local 0 (operation_step j m.word) ∷ []) n course (no_edit (Local 0 (operation_step j m.word)) [] (operation_is_none j m.word)) rest (after_draws (operation_draws j) m)

edit_has : (n : ℕ) (course : Course) → HasEdits n course → HasEdits (n + 1) (edit_then course)
edit_has n course rest m =
    let others = rest (after_line (edit_line m.word m.world) (after_draws (draws_of (next_edit m.word m.world)) (after_draws 2 m))) in
    omega (arith, others)

edits_have : (k n : ℕ) (course : Course) → HasEdits n course → HasEdits (k + n) (edits_then k course)
unfolding edits_then
edits_have zero n course rest m = let same = rest m in omega (arith, same)
edits_have (suc k) n course rest m = let all = edit_has (k + n) (edits_then k course) (edits_have k n course rest) m in omega (arith, all)

settles_have : (k peer n : ℕ) (course : Course) → HasEdits n course → HasEdits n (settles_then k peer course)
unfolding settles_then
settles_have zero peer n course rest m = rest m
settles_have (suc k) peer n course rest m = by (was_quiet m.last) (settles_have k peer n course rest (after_line (settle peer) m))
  where
    by : (b : Bool) → edits_in (settles_then k peer course (after_line (settle peer) m)) ≡ n
        → edits_in (if b then course m else settle peer ∷ settles_then k peer course (after_line (settle peer) m)) ≡ n
    by true others = rest m
    by false others = others

settled_has : (peer n : ℕ) (course : Course) → HasEdits n course → HasEdits n (settled_then peer course)
unfolding settled_then
settled_has peer n course rest m = settles_have _ peer n course rest m

delivery_has : (peer n : ℕ) (numbers : List ℕ) (course : Course) → HasEdits n course → HasEdits n (delivery_then peer numbers course)
delivery_has peer n numbers course rest m =
    none_then (delivery peer numbers m.word) n (settled_then peer course) (gives_none peer (given_numbers numbers m.word) (settle peer ∷ [])) (settled_has peer n course rest)
    (after_draws (length numbers) (after_draws (length numbers - 1) m))

deliveries_have : (k first n : ℕ) (course : Course) → HasEdits n course → HasEdits n (deliveries_then k first course)
unfolding deliveries_then
deliveries_have zero first n course rest m = rest m
deliveries_have (suc k) first n course rest m =
    delivery_has (PEERS - 1 - k) n (issued_since first m.world) (deliveries_then k first course) (deliveries_have k first n course rest) m

round_has : (j k n : ℕ) (course : Course) → HasEdits n course → HasEdits (k + n) (round_then j k course)
round_has j k n course rest m = by (nat_lt t k) refl
  where
    t : ℕ
    t = drawn 1 ROUND_EDITS m.word

    end : Course
    end = deliveries_then PEERS (length m.world.issued) course

    ends : HasEdits n end
    ends = deliveries_have PEERS (length m.world.issued) n course rest

    by : (b : Bool) → nat_lt t k ≡ b → edits_in (if b then edits_then t (operation_then j (edits_then (k - t) end)) (after_draws 1 m) else edits_then k end (after_draws 1 m)) ≡ k + n
    by true low =
        let all = edits_have t ((k - t) + n) (operation_then j (edits_then (k - t) end)) (operation_has j ((k - t) + n) (edits_then (k - t) end) (edits_have (k - t) n end ends)) (after_draws 1 m) in
        let below : t < k = ltb-true t k low in
        omega (arith, all, below)
    by false high = edits_have k n end ends (after_draws 1 m)

rounds_have : (k j edits : ℕ) → edits ≤ ROUND_EDITS * k → HasEdits edits (rounds_then k j edits)
unfolding rounds_then
rounds_have zero j edits few m = omega (arith, few)
rounds_have (suc k) j edits few m =
    let rest : HasEdits (edits - ROUND_EDITS) (rounds_then k (j + 1) (edits - ROUND_EDITS)) = rounds_have k (j + 1) (edits - ROUND_EDITS) (omega (arith, few)) in
    let all = round_has (j + 1) (min edits ROUND_EDITS) (edits - ROUND_EDITS) (rounds_then k (j + 1) (edits - ROUND_EDITS)) rest m in
    omega (arith, all)

opening_none : edits_in opening_lines ≡ 0
unfolding opening_lines
opening_none = refl

-- as many as are asked for
pub made_edits : (seed edits : ℕ) → edits_in (made_lines seed edits) ≡ edits
unfolding rounds_of
made_edits seed edits = none_then opening_lines edits (rounds_of 0 edits) opening_none (rounds_have (round_count edits) 0 edits (omega arith)) _
