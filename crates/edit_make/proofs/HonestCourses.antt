-- The lines of courses are honest ones.
use Rattle.std.proofs.Common.{◌≡◌, ℕ, zero, suc, ◌+◌, ◌-◌, ◌<◌, Bool, true, false, List, [], ◌∷◌, length, refl, arith}
use Rattle.std.specs.Prelude.{◌%◌, ◌==◌, ◌||◌, min, nat_lt, nat_le, if◌then◌else◌}
use Rattle.std.specs.List.{list_all}
use Rattle.std.specs.Char.{encode_utf8}
use Rattle.std.proofs.Math.Nat.{mod-lt}
use Rattle.std.proofs.lemmas.Bool.{and_parts, and_from, lt-ltb}
use Rattle.std.proofs.lemmas.Str.{encode_ascii}
use Rattle.coop_request.specs.Piece.{is_piece}
use Rattle.policy_book.specs.Lists.{is_short}
use Rattle.policy_book.specs.declared.op.AdminOp.TheVariants.{AddAuth, DelAuth}
use Rattle.policy_book.proofs.Ascending.{all_append}
use Rattle.peer_step.specs.declared.step.LocalEdit.TheVariants.{Insert, Delete, Update}
use Rattle.peer_step.specs.declared.step.Step.TheVariants.{Administer, ValidateNext}
use Rattle.peer_step.specs.Formed.{is_local_edit}
use Rattle.replay_net.specs.declared.line.Line.{Line}
use Rattle.replay_net.specs.declared.line.Line.TheVariants.{Local}
use Rattle.replay_net.specs.Settling.{is_honest_line}
use Rattle.replay_net.specs.World.{World}
use Rattle.replay_net.proofs.AsciiText.{ascii_is_text}
use Rattle.edit_make.specs.declared.limits.TheConstants.{PEERS, ROUND_EDITS}
use Rattle.edit_make.specs.Draws.{word_after, drawn}
use Rattle.edit_make.specs.Schedule.{Moment, Course, after_line, lines_then, full_auth, give_lines, opening_lines, operation_step, operation_draws, operation_then}
use Rattle.edit_make.specs.Schedule.{letter, drawn_edit, draws_of, editor, shown_length, next_edit, edit_line, edit_then, edits_then, after_draws}
use Rattle.edit_make.specs.Schedule.{settle, shuffled_numbers, repeated_numbers, delivery, was_quiet, settles_then, settled_then, delivery_then, issued_since, deliveries_then}
use Rattle.edit_make.specs.Schedule.{round_edits, round_then, rounds_then, round_count, rounds_of, made_lines}

-- honest lines of the four peers
abbrev pub AreHonest : List Line → Type 0
AreHonest lines = list_all (is_honest_line PEERS) lines ≡ true

-- a course of honest lines
abbrev pub IsHonestCourse : Course → Type 0
IsHonestCourse course = (m : Moment) → AreHonest (course m)

-- ---- single lines

-- the opening's lines
pub opening_honest : AreHonest opening_lines
unfolding opening_lines
opening_honest = refl

-- a letter is a piece
letter_piece : (c : ℕ) → c < 26 → is_piece (letter c) ≡ true
letter_piece c low =
    let one : encode_utf8 (97 + c) ≡ (97 + c) ∷ [] = encode_ascii (97 + c) (omega (arith, low)) in
    rw (one, ascii_is_text ((97 + c) ∷ []) (rw (lt-ltb (97 + c) 128 (omega (arith, low))) refl)) refl

-- what is drawn lies below the number that it was drawn for
pub drawn_low : (n k x : ℕ) → 0 < k → drawn n k x < k
drawn_low n k x some = mod-lt (word_after n x) some

-- an edit brings a piece, if it brings one
edit_formed : (kind n x : ℕ) → is_local_edit (drawn_edit kind n x) ≡ true
edit_formed kind n x = by (n == 0 || nat_le kind 4) (nat_le kind 6)
  where
    piece : is_piece (letter (drawn 2 26 x)) ≡ true
    piece = letter_piece (drawn 2 26 x) (drawn_low 2 26 x (omega arith))

    by : (insert delete : Bool) → is_local_edit (if insert then Insert (drawn 1 (n + 1) x) (letter (drawn 2 26 x))
        else (if delete then Delete (drawn 1 n x) else Update (drawn 1 n x) (letter (drawn 2 26 x)))) ≡ true
    by true delete = piece
    by false true = refl
    by false false = piece

-- an edit line
pub edit_honest : (x : ℕ) (w : World) → is_honest_line PEERS (edit_line x w) ≡ true
edit_honest x w =
    rw (lt-ltb (editor x) PEERS (drawn_low 1 PEERS x (omega arith)), edit_formed (drawn 2 8 x) (shown_length w (editor x)) (word_after 2 x)) refl

-- a round's operation
pub operation_honest : (j x : ℕ) → is_honest_line PEERS (Local 0 (operation_step j x)) ≡ true
operation_honest j x = by (j % 4 == 1) (j % 4 == 3)
  where
    short : is_short (1 + drawn 1 3 x) ≡ true
    short = lt-ltb (1 + drawn 1 3 x) 65536 (let low = drawn_low 1 3 x (omega arith) in omega (arith, low))

    by : (first third : Bool) → is_honest_line PEERS (Local 0 (if first then Administer (AddAuth 0 (full_auth ((1 + drawn 1 3 x) ∷ []) false))
        else (if third then Administer (DelAuth 0) else ValidateNext))) ≡ true
    by true third = rw short refl
    by false true = refl
    by false false = refl

-- a peer settles
pub settle_honest : (peer : ℕ) → peer < PEERS → is_honest_line PEERS (settle peer) ≡ true
settle_honest peer low = rw (lt-ltb peer PEERS low) refl

-- a peer is given messages
pub gives_honest : (peer : ℕ) (numbers : List ℕ) → peer < PEERS → AreHonest (give_lines peer numbers)
gives_honest peer [] low = refl
gives_honest peer (number ∷ numbers) low = rw (lt-ltb peer PEERS low) (gives_honest peer numbers low)

-- a delivery
pub delivery_honest : (peer : ℕ) (numbers : List ℕ) (x : ℕ) → peer < PEERS → AreHonest (delivery peer numbers x)
delivery_honest peer numbers x low =
    let given : List ℕ = repeated_numbers (word_after (length numbers - 1) x) (shuffled_numbers (length numbers - 1) x numbers) in
    all_append (is_honest_line PEERS) (give_lines peer given) (settle peer ∷ []) (gives_honest peer given low) (rw (settle_honest peer low) refl)

-- ---- courses

-- honest lines, and then an honest course
then_honest : (lines : List Line) (course : Course) → AreHonest lines → IsHonestCourse course → IsHonestCourse (lines_then lines course)
then_honest [] course h rest m = rest m
then_honest (line ∷ lines) course h rest m =
    let both = and_parts (is_honest_line PEERS line) (list_all (is_honest_line PEERS) lines) h in
    and_from (is_honest_line PEERS line) (list_all (is_honest_line PEERS) (lines_then lines course (after_line line m))) both.0
    (then_honest lines course both.1 rest (after_line line m))

-- one line
one_honest : (line : Line) → is_honest_line PEERS line ≡ true → AreHonest (line ∷ [])
one_honest line h = rw h refl

operation_course : (j : ℕ) (course : Course) → IsHonestCourse course → IsHonestCourse (operation_then j course)
operation_course j course rest m =
    let line : Line = Local 0 (operation_step j m.word) in
    then_honest (line ∷ []) course (one_honest line (operation_honest j m.word)) rest (after_draws (operation_draws j) m)

edit_course : (course : Course) → IsHonestCourse course → IsHonestCourse (edit_then course)
edit_course course rest m =
    let line : Line = edit_line m.word m.world in
    then_honest (line ∷ []) course (one_honest line (edit_honest m.word m.world)) rest (after_draws (draws_of (next_edit m.word m.world)) (after_draws 2 m))

edits_course : (n : ℕ) (course : Course) → IsHonestCourse course → IsHonestCourse (edits_then n course)
unfolding edits_then
edits_course zero course rest m = rest m
edits_course (suc n) course rest m = edit_course (edits_then n course) (edits_course n course rest) m

settles_course : (n peer : ℕ) (course : Course) → peer < PEERS → IsHonestCourse course → IsHonestCourse (settles_then n peer course)
unfolding settles_then
settles_course zero peer course low rest m = rest m
settles_course (suc n) peer course low rest m = by (was_quiet m.last) (settles_course n peer course low rest (after_line (settle peer) m))
  where
    by : (b : Bool) → AreHonest (settles_then n peer course (after_line (settle peer) m))
        → AreHonest (if b then course m else settle peer ∷ settles_then n peer course (after_line (settle peer) m))
    by true others = rest m
    by false others =
        and_from (is_honest_line PEERS (settle peer)) (list_all (is_honest_line PEERS) (settles_then n peer course (after_line (settle peer) m)))
        (settle_honest peer low) others

settled_course : (peer : ℕ) (course : Course) → peer < PEERS → IsHonestCourse course → IsHonestCourse (settled_then peer course)
unfolding settled_then
settled_course peer course low rest m = settles_course _ peer course low rest m

delivery_course : (peer : ℕ) (numbers : List ℕ) (course : Course) → peer < PEERS → IsHonestCourse course → IsHonestCourse (delivery_then peer numbers course)
delivery_course peer numbers course low rest m =
    then_honest (delivery peer numbers m.word) (settled_then peer course) (delivery_honest peer numbers m.word low) (settled_course peer course low rest)
    (after_draws (length numbers) (after_draws (length numbers - 1) m))

deliveries_course : (k first : ℕ) (course : Course) → IsHonestCourse course → IsHonestCourse (deliveries_then k first course)
unfolding deliveries_then
deliveries_course zero first course rest m = rest m
deliveries_course (suc k) first course rest m =
    delivery_course (PEERS - 1 - k) (issued_since first m.world) (deliveries_then k first course) (omega arith) (deliveries_course k first course rest) m

round_edits_course : (j n t : ℕ) (course : Course) → IsHonestCourse course → IsHonestCourse (round_edits j n t course)
round_edits_course j n t course rest m = by (nat_lt t n)
  where
    by : (b : Bool) → AreHonest (if b then edits_then t (operation_then j (edits_then (n - t) course)) m else edits_then n course m)
    by true = edits_course t (operation_then j (edits_then (n - t) course)) (operation_course j (edits_then (n - t) course) (edits_course (n - t) course rest)) m
    by false = edits_course n course rest m

round_course : (j n : ℕ) (course : Course) → IsHonestCourse course → IsHonestCourse (round_then j n course)
round_course j n course rest m =
    round_edits_course j n (drawn 1 ROUND_EDITS m.word) (deliveries_then PEERS (length m.world.issued) course)
    (deliveries_course PEERS (length m.world.issued) course rest) (after_draws 1 m)

rounds_course : (k j edits : ℕ) → IsHonestCourse (rounds_then k j edits)
unfolding rounds_then
rounds_course zero j edits m = refl
rounds_course (suc k) j edits m =
    round_course (j + 1) (min edits ROUND_EDITS) (rounds_then k (j + 1) (edits - ROUND_EDITS)) (rounds_course k (j + 1) (edits - ROUND_EDITS)) m

-- the rounds
pub rounds_honest : (j edits : ℕ) → IsHonestCourse (rounds_of j edits)
unfolding rounds_of
rounds_honest j edits m = rounds_course (round_count edits) j edits m

-- the whole
pub made_honest : (seed edits : ℕ) → AreHonest (made_lines seed edits)
made_honest seed edits = then_honest opening_lines (rounds_of 0 edits) opening_honest (rounds_honest 0 edits) _
