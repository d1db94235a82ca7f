-- Script lines.
use Rattle.std.specs.Prelude.{ℕ, Bool, List, [], ◌∷◌, Option, Some, None, option_map, codes, if◌then◌else◌}
use Rattle.element_name.specs.Cases.{when, given, first_of, ◌>>=◌}
use Rattle.peer_step.specs.declared.step.Step.{Step}
use Rattle.peer_step.specs.declared.step.Step.TheVariants.{Edit, Administer, Settle, ValidateNext, Look, Show}
use Rattle.replay_net.specs.declared.line.TheConstants.{MAX_PEERS}
use Rattle.replay_net.specs.declared.line.Line.{Line}
use Rattle.replay_net.specs.declared.line.Line.TheVariants.{Peers, Local, Give, Hand, StateOf}
use Rattle.line_read.specs.declared.numbers.TheConstants.{MAX_WIDE}
use Rattle.line_read.specs.Words.{is_line, words, beside, is_alone}
use Rattle.line_read.specs.Numbers.{read_wide, read_name}
use Rattle.line_read.specs.Operation.{read_operation}
use Rattle.line_read.specs.Message.{read_message}
use Rattle.line_read.specs.Step.{read_local_edit}
use Rattle.script_text.specs.Peers.{read_count, read_peer, one_peer}

-- a step of a peer's own: an edit, `validatenext` or an operation
unfoldable pub read_own : List (List ℕ) → Option Step
read_own words = first_of (
    option_map Edit (read_local_edit words)
    ∷ when (is_alone (codes "validatenext") words) ValidateNext
    ∷ option_map Administer (read_operation words)
    ∷ [])

-- P and its step
unfoldable pub read_local : ℕ → List ℕ → List (List ℕ) → Option Line
read_local peers number words = do
  peer ← read_peer peers number
  step ← read_own words
  Some (Local peer step)

-- M P
abbrev pub read_give : ℕ → List (List ℕ) → Option Line
read_give peers (a ∷ b ∷ []) = do
  message ← read_count MAX_WIDE a
  peer ← read_peer peers b
  Some (Give message peer)
read_give peers args = None

-- P MESSAGE
abbrev pub read_hand : ℕ → List (List ℕ) → Option Line
read_hand peers (a ∷ words) = do
  peer ← read_peer peers a
  message ← read_message words
  Some (Hand peer message)
read_hand peers [] = None

-- P AT
abbrev pub read_look : ℕ → List (List ℕ) → Option Line
read_look peers (a ∷ b ∷ []) = do
  peer ← read_peer peers a
  from ← read_wide b
  Some (Local peer (Look from))
read_look peers args = None

-- P NAME
abbrev pub read_state : ℕ → List (List ℕ) → Option Line
read_state peers (a ∷ b ∷ []) = do
  peer ← read_peer peers a
  name ← read_name b
  Some (StateOf peer name)
read_state peers args = None

-- the lines that begin with a word
abbrev pub word_lines : ℕ → List (List ℕ) → List (List ℕ × Option Line)
word_lines peers args =
    (codes "give", read_give peers args)
    ∷ (codes "hand", read_hand peers args)
    ∷ (codes "settle", option_map (λ p. Local p Settle) (one_peer peers args))
    ∷ (codes "look", read_look peers args)
    ∷ (codes "show", option_map (λ p. Local p Show) (one_peer peers args))
    ∷ (codes "state", read_state peers args)
    ∷ []

-- a line after the first, where there are so many peers: it begins with a word or with a peer
abbrev pub read_later : ℕ → List (List ℕ) → Option Line
read_later peers (word ∷ args) = beside word (word_lines peers args) (read_local peers word args)
read_later peers [] = None

abbrev pub one_count : List (List ℕ) → Option ℕ
one_count (a ∷ []) = read_count MAX_PEERS a
one_count args = None

-- the first line: `peers N`
abbrev pub read_first : List (List ℕ) → Option Line
read_first (word ∷ args) = beside word ((codes "peers", option_map Peers (one_count args)) ∷ []) None
read_first [] = None

-- what the words of a line say, of the first one or a later one, where there are so many peers
abbrev pub read_line : Bool → ℕ → List (List ℕ) → Option Line
read_line first peers words = if first then read_first words else read_later peers words

-- what a script line says, the first one or a later one, where there are so many peers
abbrev pub script_line : Bool → ℕ → List ℕ → Option Line
script_line first peers bytes = given (is_line bytes) (read_line first peers (words bytes))
