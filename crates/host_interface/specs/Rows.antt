-- Rows of orders, and what they make.
use Rattle.std.specs.Prelude.{◌≡◌, ℕ, List, [], ◌∷◌, ◌++◌, Option, Some, None, map}
use Rattle.peer_step.specs.declared.step.Step.{Step}
use Rattle.peer_core.specs.Answers.{answer_of}
use Rattle.line_spelling.specs.declared.signs.TheConstants.{LINE_END}
use Rattle.line_spelling.specs.Answers.{answer_line}
use Rattle.line_read.specs.Words.{parts, each_some}
use Rattle.line_read.specs.Step.{step_line}
use Rattle.host_core.specs.declared.event.LinkId.{LinkId}
use Rattle.host_core.specs.declared.event.HostEvent.{HostEvent}
use Rattle.host_core.specs.declared.event.HostEvent.TheVariants.{Made}
use Rattle.host_core.specs.Past.{host_peer}

-- the orders of a text, one each line: the steps that these say, if each says one
abbrev pub orders_of : List ℕ → Option (List Step)
orders_of text = each_some (map step_line (parts LINE_END text))

-- what has happened once the steps of a row were made for a link, each by the host's peer behind those in front of it
abbrev pub past_behind : LinkId → List Step → List HostEvent → List HostEvent
past_behind link [] past = past
past_behind link (step ∷ row) past = past_behind link row (Made (Some link) step ∷ past)

-- the lines of the peer's answers to them
abbrev pub answers_to : LinkId → List Step → List HostEvent → List ℕ
answers_to link [] past = []
answers_to link (step ∷ row) past = answer_line None (answer_of (host_peer past) step) ++ answers_to link row (Made (Some link) step ∷ past)

-- the row of a text was made, whole and in order, and answered by these lines
pub record IsRowMade (link : LinkId) (text : List ℕ) (old new : List HostEvent) (lines : List ℕ) : Type 0 where
  pub row : List Step
  pub said : orders_of text ≡ Some row
  pub made : new ≡ past_behind link row old
  pub answers : lines ≡ answers_to link row old

-- the same at a document, which is open
abbrev pub MakesRow : LinkId → List ℕ → Option (List HostEvent) → Option (List HostEvent) → List ℕ → Type 0
MakesRow link text (Some old) (Some new) lines = IsRowMade link text old new lines
MakesRow link text old new lines = ⊥
