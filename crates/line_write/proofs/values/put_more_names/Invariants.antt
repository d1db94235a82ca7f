use Rattle.std.proofs.Common.{◌≡◌, ◌++◌, drop, map}
use Rattle.line_spelling.specs.Values.{behind_commas, name_text}
use Rattle.line_write.proofs.values.put_more_names.Given as goal

abbrev pub invariant-loop-name : goal.invariant-loop-name
invariant-loop-name l = l.line.items ++ behind_commas (map name_text (drop l.name-index l.names)) ≡ l.fn.line.items ++ behind_commas (map name_text l.names)
