use Rattle.std.proofs.Common.{rules, ◌≡◌, true, refl}
use Rattle.editor_main.specs.Command.{command_of}
use Rattle.editor_main.proofs.PlainCommands.{is_plain, plain_ends}
use Rattle.editor_main.proofs.editor_call.editor.Goals as goal
use Rattle.editor_main.proofs.editor_call.editor.Goals.{in-Some+in-Replay-1, in-Some+in-Feed-1, in-Some+in-Make-1, in-Some+in-Certify-1, in-Some+in-Audit-1, in-Some+in-Keep-1, in-None-1}

pub returns-in-Some-Replay-clause-ends : goal.returns-in-Some-Replay-clause-ends
returns-in-Some-Replay-clause-ends g c =
    let plain : is_plain (command_of c.args.words.now) ≡ true =
    elim c.in-Some-Replay-1.branch [
      | in-Some+in-Replay-1 w ↦ search rules
      | in-Some+in-Feed-1 w ↦ search rules
      | in-Some+in-Make-1 w ↦ search rules
      | in-Some+in-Certify-1 w ↦ search rules
      | in-Some+in-Audit-1 w ↦ search rules
      | in-Some+in-Keep-1 w ↦ search rules
      | in-None-1 w ↦ search rules
    ] in
    plain_ends g.D.Line.Link.got g.D.Line.Link.sent g.D.Line.Link.faults g.D.Line.Link.closes (command_of c.args.words.now) _ _ _ _ _ _ _ plain c.plain.ensures.ran
    (record { door_is = refl; read_cause = c.plain.ensures.read_cause; write_cause = c.plain.ensures.write_cause })
