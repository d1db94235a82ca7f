-- The laws of script lines.
use Rattle.std.specs.Prelude.{◌≡◌, ℕ, Bool, true, false, List, Some, IsTrue}
use Rattle.replay_net.specs.declared.line.Line.{Line}
use Rattle.replay_net.specs.Line.{is_opening, is_world_line, is_formed_line}
use Rattle.script_text.specs.Line.{script_line}

-- what a script line says is well formed
abbrev pub FormedLaw : Type 0
FormedLaw = (first : Bool) (peers : ℕ) (bytes : List ℕ) (line : Line) → script_line first peers bytes ≡ Some line → IsTrue (is_formed_line line)

-- a first line opens a world
abbrev pub OpeningLaw : Type 0
OpeningLaw = (peers : ℕ) (bytes : List ℕ) (line : Line) → script_line true peers bytes ≡ Some line → IsTrue (is_opening line)

-- a later one is one that a world of so many peers takes
abbrev pub TakenLaw : Type 0
TakenLaw = (peers : ℕ) (bytes : List ℕ) (line : Line) → script_line false peers bytes ≡ Some line → IsTrue (is_world_line peers line)
