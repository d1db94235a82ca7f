use Rattle.line_engine.specs.Input.{is_cut, counted_bytes, lines_of, parts_of}
use Rattle.race_run.specs.Lists.{no_work}
use Rattle.race_run.proofs.Silence.{alone_lines, nothing_part}
use Rattle.race_run.proofs.silence_laws.silence.Goals as goal

pub returns-clause-outputs : goal.returns-clause-outputs
returns-clause-outputs c = λ bytes input. alone_lines bytes (is_cut input) 1 no_work (lines_of (is_cut input) (counted_bytes input))

pub returns-clause-parts : goal.returns-clause-parts
returns-clause-parts c = λ bytes written. nothing_part no_work (parts_of bytes) written
