use Rattle.std.proofs.Common.{◌≡◌, ℕ, List, ◌++◌, Some, ap, sym, ◌∙◌}
use Rattle.std.specs.declared.option.Option.{Option}
use Rattle.line_engine.specs.Run.{LineTurn}
use Rattle.peer_step.specs.declared.step.Step.TheVariants.{Edit}
use Rattle.peer_step.specs.Lent.{local_edit_lent}
use Rattle.replay_net.specs.declared.line.Line.{Line}
use Rattle.replay_net.specs.declared.line.Line.TheVariants.{Local}
use Rattle.replay_net.specs.World.{World, turn_of}
use Rattle.line_spelling.specs.Answers.{answer_line}
use Rattle.form_replay.specs.Reply.{reply_line}
use Rattle.form_replay.proofs.OwnEdits.{told_reply}
use Rattle.form_replay.proofs.play.play_edit.Goals as goal

pub returns : goal.returns
returns c =
    let line : Line = Local c.args.own.peer (Edit (local_edit_lent c.args.own.edit)) in
    let reply = told_reply (turn_of c.args.world.now line).reply c.in_ok-told.told c.in_ok-told.ensures.reply in
    let written = c.in_ok-put_edit_answer_line.ensures reply.0 reply.2 in
    let same : reply_line (turn_of c.args.world.now line).reply ≡ c.put_edit_answer_line.new.out.items
    = ap reply_line reply.1 ∙ sym (written ∙ ap (λ (xs : List ℕ). xs ++ answer_line c.in_ok-told.told.number reply.0) c.requires.empty) in
    rw c.in_ok-told.ensures.after
    (ap (λ (bytes : List ℕ). let turn : LineTurn (Option World) = record { reply = bytes; world = Some (turn_of c.args.world.now line).after } in turn) same)
