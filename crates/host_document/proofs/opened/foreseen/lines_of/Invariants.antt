use Rattle.std.proofs.Common.{◌≡◌, ◌++◌, flat_map}
use Rattle.host_interface.specs.Foreseen.{user_line}
use Rattle.host_document.proofs.opened.foreseen.lines_of.Given as goal

-- with those of the rest the lines are whole
abbrev pub invariant-loop-user : goal.invariant-loop-user
invariant-loop-user l = l.lines.items ++ flat_map (λ entry. user_line entry.0 entry.1) l.user-iterator ≡ flat_map (λ entry. user_line entry.0 entry.1) l.counts.entries
