-- The step lines of an input, and how it ends.
use Rattle.std.specs.Prelude.{◌≡◌, ◌≢◌, ℕ, ◌+◌, ◌≤◌, Bool, true, List, [], ◌∷◌, Option, Some, None, length, if◌then◌else◌}
use mathlib.Core.List.{IsPrefix}
use Rattle.std.specs.Option.{option_map_or}
use Rattle.std.specs.Io.KnownBytes.{Consumes, IsAtEnd}
use Rattle.edit_io.specs.Causes.{next_count}
use Rattle.line_engine.specs.declared.limits.TheConstants.{MAX_INPUT}
use Rattle.line_engine.specs.Input.{is_cut, counted_bytes, lines_of}
use Rattle.line_engine.specs.Engine.{Told}
use Rattle.peer_step.specs.declared.step.Step.{Step}
use Rattle.line_read.specs.Step.{step_line}
use Rattle.line_input.specs.declared.reading.InputEnd.{InputEnd}
use Rattle.line_input.specs.declared.reading.InputEnd.TheVariants.{Whole, BadLine, TooLong, ReadFault, NoMemory}

-- the steps of the lines before the first bad one
abbrev pub good_steps : List (List ℕ) → List Step
good_steps [] = []
good_steps (line ∷ lines) = option_map_or (λ step. step ∷ good_steps lines) (step_line line) []

-- the number of the first bad line among lines, of which the first is line k
abbrev pub first_bad : ℕ → List (List ℕ) → Option ℕ
first_bad k [] = None
first_bad k (line ∷ lines) = option_map_or (λ step. first_bad (k + 1) lines) (step_line line) (Some k)

-- the lines of an input that count
abbrev pub input_lines : List ℕ → List (List ℕ)
input_lines input = lines_of (is_cut input) (counted_bytes input)

-- the steps of an input, up to its first bad line
abbrev pub steps_of : List ℕ → List Step
steps_of input = good_steps (input_lines input)

-- how an input ends that is longer than what counts of it or isn't, by its first bad line
abbrev pub end_at : Bool → Option ℕ → InputEnd
end_at cut (Some k) = BadLine k
end_at cut None = if cut then TooLong else Whole

-- how an input ends
abbrev pub end_of : List ℕ → InputEnd
end_of input = end_at (is_cut input) (first_bad 1 (input_lines input))

-- the whole lines among bytes after which reading fails; a rest that is too long for a line is one more
abbrev pub whole_lines : List ℕ → List (List ℕ)
whole_lines bytes = lines_of true bytes

-- A source that had this input was read for its step lines, and these are the steps and the end.
-- Of a source that doesn't tell its bytes there are some of which this holds.
pub record ReadSteps (left_old left_new : Option (List ℕ)) (input : List ℕ) (steps : List Step) (end : InputEnd) : Type 0 where
  pub told : Told left_old input
  -- unless the source failed or memory was wanting, they are those of the input
  pub ends : end ≢ ReadFault → end ≢ NoMemory → end ≡ end_of input
  pub lists : end ≢ ReadFault → end ≢ NoMemory → steps ≡ steps_of input
  -- where memory was wanting, they are a beginning of those of the input
  pub begins : end ≡ NoMemory → IsPrefix steps (steps_of input)
  -- a whole input was read to its end
  pub at_end : end ≡ Whole → IsAtEnd left_new
  -- where the source failed, the steps are those of the whole lines that were read, and none of these is bad
  pub read_fault : end ≡ ReadFault
      → (read : List ℕ) × Consumes left_old left_new read × (length read ≤ MAX_INPUT)
      × (first_bad 1 (whole_lines read) ≡ None) × (steps ≡ good_steps (whole_lines read))

-- a source's count of faults never falls: a read fault counts one more, and every other end leaves it
pub record EndCause (before now : ℕ) (end : InputEnd) : Type 0 where
  pub later : before ≤ now
  pub rose : end ≡ ReadFault → now ≡ next_count before
  pub stayed : end ≢ ReadFault → now ≡ before
