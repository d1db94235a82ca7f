-- The lines of the standard input.
use Rattle.std.specs.Prelude.{◌≡◌, ◌≢◌, ◌⊎◌, ℕ, ◌<◌, ◌≤◌, Bool, true, List, [], length, slice_index}
use Rattle.line_spelling.specs.declared.signs.TheConstants.{LINE_END}
use Rattle.follow_talk.specs.declared.input_row.TheConstants.{MAX_ROW}

-- no line ends among the first so many of bytes
abbrev pub HasNoEnd : ℕ → List ℕ → Type 0
HasNoEnd count bytes = (k : ℕ) → k < count → slice_index bytes k ≢ LINE_END

-- behind so many bytes stands a line end, or nothing where the input has ended
abbrev pub LineEndsAt : Bool → List ℕ → ℕ → Type 0
LineEndsAt ended rest size = (slice_index rest size ≡ LINE_END) ⊎ ((ended ≡ true) × (size ≡ length rest))

-- bytes that weren't taken begin with a line of so many: it has no more than a line may have, and is whole
pub record IsNextLine (ended : Bool) (rest : List ℕ) (size : ℕ) : Type 0 where
  pub within : size ≤ length rest
  pub short : size ≤ MAX_ROW
  pub one : HasNoEnd size rest
  pub ends : LineEndsAt ended rest size

-- no line ends within as many bytes as a line may have, and there are more
pub record HasTooLongLine (rest : List ℕ) : Type 0 where
  pub more : MAX_ROW < length rest
  pub one : HasNoEnd MAX_ROW rest

-- no line is whole, and none is too long; where the input has ended there is nothing more
pub record HasNoLine (ended : Bool) (rest : List ℕ) : Type 0 where
  pub short : length rest ≤ MAX_ROW
  pub one : HasNoEnd (length rest) rest
  pub all : ended ≡ true → rest ≡ []
