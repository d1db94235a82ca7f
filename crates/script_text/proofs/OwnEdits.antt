-- A later line that begins with a peer begins with no word of the grammar.
use Rattle.std.proofs.Common.{◌≡◌, ℕ, Bool, true, false, List, [], ◌∷◌, Some, None, refl, ap, ◌∙◌}
use Rattle.std.specs.declared.option.Option.{Option}
use Rattle.std.specs.Str.{bytes_eq}
use Rattle.std.proofs.lemmas.Slice.Eq.{bytes_eq-Decides}
use Rattle.peer_step.specs.declared.step.LocalEdit.{LocalEdit}
use Rattle.peer_step.specs.declared.step.Step.TheVariants.{Edit}
use Rattle.replay_net.specs.declared.line.Line.{Line}
use Rattle.replay_net.specs.declared.line.Line.TheVariants.{Local}
use Rattle.line_read.specs.Numbers.{read_number}
use Rattle.line_read.specs.Words.{beside}
use Rattle.line_read.specs.Step.{read_local_edit}
use Rattle.script_text.specs.Peers.{read_peer}
use Rattle.script_text.specs.Line.{read_own, read_local, word_lines, read_later}

-- the words of rows that are no peer's number
abbrev NoPeers : ℕ → List (List ℕ × Option Line) → Type 0
NoPeers peers [] = Unit {0}
NoPeers peers (row ∷ rows) = (read_peer peers row.0 ≡ None) × NoPeers peers rows

-- a peer's number stands in no such row
beside_none : (peers p : ℕ) (number : List ℕ) (rows : List (List ℕ × Option Line)) (other : Option Line) → read_peer peers number ≡ Some p → NoPeers peers rows
    → beside number rows other ≡ other
beside_none peers p number [] other is none = refl
beside_none peers p number (row ∷ rows) other is none = by (bytes_eq number row.0) refl (beside_none peers p number rows other is none.1)
  where
    by : (b : Bool) → bytes_eq number row.0 ≡ b → beside number rows other ≡ other → beside number (row ∷ rows) other ≡ other
    by true e rest = let same : number ≡ row.0 = (bytes_eq-Decides number row.0).0 e in absurd (cc (ap (read_peer peers) same, is, none.0))
    by false e rest = rw e rest

-- no word with which a line begins is a peer's number
no_words : (peers : ℕ) (args : List (List ℕ)) → NoPeers peers (word_lines peers args)
unfolding read_number
no_words peers args = (refl, (refl, (refl, (refl, (refl, (refl, tt))))))

-- a peer and its edit are a line
pub edit_line : (peers p : ℕ) (number : List ℕ) (args : List (List ℕ)) (edit : LocalEdit) → read_peer peers number ≡ Some p → read_local_edit args ≡ Some edit
    → read_later peers (number ∷ args) ≡ Some (Local p (Edit edit))
unfolding read_local read_own
edit_line peers p number args edit is reads =
    beside_none peers p number (word_lines peers args) (read_local peers number args) is (no_words peers args) ∙ rw (is, reads) refl
