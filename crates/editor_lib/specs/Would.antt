-- The steps that lines say, and the lines of names.
use Rattle.std.specs.Prelude.{ℕ, List, [], Option, Some, map}
use Rattle.element_name.specs.Name.{Name}
use Rattle.peer_step.specs.declared.step.Step.{Step}
use Rattle.line_spelling.specs.declared.signs.TheConstants.{LINE_END}
use Rattle.line_spelling.specs.Line.{line_of}
use Rattle.line_spelling.specs.Values.{name_text}
use Rattle.line_read.specs.Words.{parts, each_some}
use Rattle.line_read.specs.Step.{step_line}

-- the steps of lines, with a line end between two of them, if each line says one; none of no bytes
abbrev pub steps_said : List ℕ → Option (List Step)
steps_said [] = Some []
steps_said text = each_some (map step_line (parts LINE_END text))

-- the line of a name
abbrev pub name_line : Name → List ℕ
name_line name = line_of (name_text name)
