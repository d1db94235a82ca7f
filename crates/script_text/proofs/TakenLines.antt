-- What a script's lines are for the world that they are read for.
use Rattle.std.proofs.Common.{true, false}
use Rattle.replay_net.specs.Line.{is_opening, is_world_line, is_formed_line}
use Rattle.line_read.specs.Words.{is_line, words}
use Rattle.script_text.specs.Laws.{FormedLaw, OpeningLaw, TakenLaw}
use Rattle.line_read.proofs.Passing.{allowed}
use Rattle.script_text.proofs.WorldLines.{later-formed, later-taken, read_first-first, first-formed}

pub formed_law : FormedLaw
formed_law true peers bytes = allowed is_formed_line (is_line bytes) _ (first-formed (words bytes))
formed_law false peers bytes = allowed is_formed_line (is_line bytes) _ (later-formed peers (words bytes))

pub opening_law : OpeningLaw
opening_law peers bytes = allowed is_opening (is_line bytes) _ (read_first-first (words bytes))

pub taken_law : TakenLaw
taken_law peers bytes = allowed (is_world_line peers) (is_line bytes) _ (later-taken peers (words bytes))
