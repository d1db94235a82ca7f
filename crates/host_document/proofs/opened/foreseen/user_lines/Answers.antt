use Rattle.std.proofs.Common.{◌≡◌, flat_map}
use Rattle.std.proofs.lemmas.Result.{IfOk-weaker}
use Rattle.host_interface.specs.Foreseen.{user_line, AreUserLines}
use Rattle.host_document.proofs.Users.{lines_of_counts}
use Rattle.host_document.proofs.opened.foreseen.user_lines.Goals as goal

pub returns : goal.returns
returns c =
    let counts = c.in_ok-counts.counts in
    IfOk-weaker c.lines_of-lines.result (λ lines. lines.items ≡ flat_map (λ entry. user_line entry.0 entry.1) counts.entries) (λ lines. AreUserLines c.args.names.now lines.items)
    (λ lines said. lines_of_counts c.args.names.now counts lines.items c.lines_of-lines.ensures.ordered c.in_ok-counts.ensures.number c.in_ok-counts.ensures.some said)
    c.lines_of-lines.ensures.lines
