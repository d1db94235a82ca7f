-- The rule of the table: the gate word, the count word, the slot, and what the passes know. It speaks of runs and numbers
-- alone, never of a peer.
use Rattle.std.specs.Prelude.{◌≡◌, ℕ, ◌+◌, ◌≤◌, ◌<◌, ◌==◌, ◌⊎◌, true, false, List, [], ◌∷◌, ◌++◌, length, cond, nat_lt, max}
use mathlib.Core.Option.{none, some}
use lib.ListN.{get_elem?}
use Rattle.atomic_table.specs.Table.{State, Me, Step, rest}
use Rattle.peer_lock.specs.declared.limits.TheConstants.{MAX_RUN, MAX_PASSES}
use Rattle.peer_lock.specs.declared.call.Call.{Call}
use Rattle.peer_lock.specs.declared.view.Old.{Old}
use Rattle.peer_lock.specs.declared.view.View.{View}
use Rattle.peer_lock.specs.Run.{steps_by, StartsWith, Recorded, recorded}

-- ---- lists of numbers

-- the sum over a list
abbrev pub total : {A : Type 0} → (A → ℕ) → List A → ℕ
total f [] = 0
total f (x ∷ xs) = f x + total f xs

-- how often x stands in the list
abbrev pub times : ℕ → List ℕ → ℕ
times x [] = 0
times x (y ∷ ys) = cond (y == x) 1 0 + times x ys

-- 1 for a number below n, and 0 for another
abbrev pub once_below : ℕ → ℕ → ℕ
once_below x n = cond (nat_lt x n) 1 0

-- the number is one of these
abbrev pub HasNumber : List ℕ → ℕ → Type 0
HasNumber numbers n = 0 < times n numbers

-- ---- what the rule says of one view

-- the run begins with what was seen, and what follows has no step of these numbers
abbrev pub Knows : List Call → List Call → List ℕ → Type 0
Knows run seen numbers = (more : List Call) × (run ≡ seen ++ more) × ((n : ℕ) → HasNumber numbers n → steps_by n more ≡ [])

-- each side of a join is known so, and its numbers are among these
abbrev pub AllKnown : List Call → List ℕ → List Old → Type 0
AllKnown run numbers [] = Unit {0}
AllKnown run numbers (o ∷ os) = (Knows run o.seen o.numbers × ((n : ℕ) → HasNumber o.numbers n → HasNumber numbers n)) × AllKnown run numbers os

-- the run is the longer of the two, and the other begins it
abbrev pub IsLonger : List Call → List Call → List Call → Type 0
IsLonger run base seen = ((run ≡ base) × StartsWith base seen) ⊎ ((run ≡ seen) × StartsWith seen base)

-- the view of a pass fits the run
pub record Fits (run : List Call) (v : View) : Type 0 where
  pub knows : Knows run v.seen v.numbers
  pub floor : length v.seen ≤ v.floor
  pub high : v.floor ≤ length run
  pub named : HasNumber v.numbers v.number
  pub olds : AllKnown run v.numbers v.olds
  -- with the gate, before or after its count
  pub held : v.hand ≡ true → IsLonger run v.base v.seen

-- the view of a pass that was joined into another
abbrev pub spent : View
spent = record { number = 0; seen = []; floor = 0; numbers = []; tries = 0; refused = 0; looks = 0; hand = false; base = []; origin = 0; made = 0; olds = [] }

-- the view of a pass that has done nothing yet
abbrev pub newcomer : ℕ → ℕ → ℕ → View
newcomer number made origin = record { number = number; seen = []; floor = 0; numbers = number ∷ []; tries = 0; refused = 0; looks = 0; hand = false; base = []; origin = origin; made = made; olds = [] }

-- the view is spent, or fits the run
abbrev pub Sits : ℕ → List Call → View → Type 0
Sits origin run v = (v ≡ spent) ⊎ (Fits run v × (v.origin ≡ origin))

-- 1 where the pass has the gate
abbrev pub hands : View → ℕ
hands v = cond v.hand 1 0

-- ---- the rule

-- the words, the slot and all views agree on one run
pub record IsOneRun (origin : ℕ) (s : State Recorded View) : Type 0 where
  pub gate : ℕ
  pub run : List Call
  -- how many passes there are
  pub most : ℕ
  -- the gate word, and the count word: how long the run is
  pub words : s.words ≡ gate ∷ length run ∷ []
  pub short : length run ≤ MAX_RUN
  pub bit : gate ≤ 1
  -- the gate is taken exactly where one view has it, and no second view has it
  pub gates : total hands s.views ≡ gate
  -- while the gate is free the slot is at home, and its run is this one
  pub home : gate ≡ 0 → s.homes ≡ some (recorded origin run) ∷ []
  pub out : gate ≡ 1 → s.homes ≡ none ∷ []
  pub fits : (i : ℕ) (v : View) → get_elem? s.views i ≡ some v → Sits origin run v
  -- each number below `most` is one view's, and no other number is any view's
  pub once : (x : ℕ) → total (λ (v : View). times x v.numbers) s.views ≡ once_below x most
  pub weights : total (λ (v : View). length v.numbers) s.views ≡ most
  -- one view alone tells how many passes there are
  pub chief : total (λ (v : View). v.made) s.views ≡ most
  pub chiefs : (i : ℕ) (v : View) → get_elem? s.views i ≡ some v → (v.made ≡ 0) ⊎ (v.made ≡ most)
  pub few : most ≤ MAX_PASSES
  pub callers : (x : ℕ) → most ≤ x → steps_by x run ≡ []

-- ---- the views after each kind of step

-- a try that found the gate taken
abbrev pub turned_away : View → View
turned_away v = record v { tries = v.tries + 1; refused = v.refused + 1 }

-- a try that found it free, at this run
abbrev pub taking : View → List Call → View
taking v run = record v { tries = v.tries + 1; hand = true; base = run }

-- a load of the count word that found this
abbrev pub looking : View → ℕ → View
looking v found = record v { floor = found; looks = v.looks + 1; olds = [] }

-- the step is counted: the run is this one now
abbrev pub counting : View → List Call → View
counting v run = record v { seen = run; floor = length run }

-- the gate is free again
abbrev pub freeing : View → View
freeing v = record v { hand = false; base = [] }

abbrev pub longer : List Call → List Call → List Call
longer xs ys = cond (nat_lt (length xs) (length ys)) ys xs

-- what one side of a join had seen
abbrev pub old : View → Old
old v = record { seen = v.seen; numbers = v.numbers }

-- a pass after a join, before the load of the count word that follows it
abbrev pub united : View → View → View
united v w = record v { seen = longer v.seen w.seen; floor = max v.floor w.floor; numbers = v.numbers ++ w.numbers; made = max v.made w.made; olds = old v ∷ old w ∷ [] }

-- the first pass, when one more was dealt
abbrev pub dealt : View → View
dealt v = record v { made = v.made + 1 }

-- ---- what each kind of step tells: of the step, the seat before, the number found and the seat after

-- a pass's seat: its view, and the slots that it has
abbrev pub Seated : Type 0
Seated = Me Recorded View

-- the run of the slot that a seat has
abbrev pub run_of : List (ℕ × Recorded) → List Call
run_of [] = []
run_of (x ∷ xs) = x.1.run

-- a try: the gate and the slot where the gate was free
abbrev pub grabbed : Step Recorded → Seated → ℕ → Seated → Type 0
grabbed st m r n =
    (r ≡ 0 → (run : List Call) × Fits run m.0 × (length run ≤ MAX_RUN) × (n ≡ (taking m.0 run, (0, recorded m.0.origin run) ∷ m.1)))
    × (¬ (r ≡ 0) → n ≡ (turned_away m.0, m.1))

-- a load of the count word
abbrev pub looked : Step Recorded → Seated → ℕ → Seated → Type 0
looked st m r n = (run : List Call) × Fits run m.0 × (length m.0.numbers ≤ MAX_PASSES) × (length run ≤ MAX_RUN) × (r ≡ length run) × (n ≡ (looking m.0 r, m.1))

-- one more on the count word, which had counted the run that was found at the grab
abbrev pub counted : Step Recorded → Seated → ℕ → Seated → Type 0
counted st m r n = (r ≡ length m.0.base) × (n ≡ (counting m.0 (run_of m.1), m.1))

-- the slot goes home, and the gate is free
abbrev pub freed : Step Recorded → Seated → ℕ → Seated → Type 0
freed st m r n = n ≡ (freeing m.0, rest m.1)
