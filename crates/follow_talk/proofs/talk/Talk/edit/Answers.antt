use Rattle.std.proofs.Common.{ap}
use Rattle.follow_talk.specs.declared.mirror.Mirror.{Mirror}
use Rattle.follow_talk.proofs.Editing.{edit_shows}
use Rattle.follow_talk.proofs.talk.Talk.edit.Goals as goal

pub returns : goal.returns
returns g c =
    edit_shows c.own_edits.ensures c.note_edit-made.result c.args.self.now.follower.outbox c.make.new.self.follower.outbox c.args.edit c.in_ok-told.told.answer
    c.args.self.now.mirror.shown c.make.new.self.mirror.shown c.note_edit-made.new.self.mirror.shown c.in_ok-told.told.rows.items
    c.peer.ensures.sound c.in_ok-told.ensures.answer c.in_ok-told.ensures.made (ap (λ (m : Mirror). m.shown) c.make.ensures.same) c.in_ok-told.ensures.shown
    c.in_ok-told.ensures.rows c.note_edit-made.ensures.done c.note_edit-made.ensures.shown
