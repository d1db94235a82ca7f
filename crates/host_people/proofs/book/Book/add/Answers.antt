use Rattle.std.proofs.Common.{ap, ◌∙◌}
use Rattle.host_people.specs.Kept.{Kept}
use Rattle.host_people.proofs.Keeping.{one_put}
use Rattle.host_people.proofs.book.Book.add.Goals as goal

pub returns-in-Ok-put-clause-any_moment : goal.returns-in-Ok-put-clause-any_moment
returns-in-Ok-put-clause-any_moment g c keeps =
    one_put g.D.Disk.moment g.D.Disk.left_since g.D.Disk.may_leave g.D.Disk.seen c.args.self.now c.args.change.now c.args.disk.now c.put.new.disk c.self.inside.place c.in-Ok-new.record
    (ap (λ (s : Kept). s.place) c.self.view_is) (c.in-Ok-new.ensures ∙ c.deref.ensures.value ∙ c.in-Ok.ensures) keeps c.put.ensures.any_moment

pub returns-clause-any_moment : goal.returns-clause-any_moment
returns-clause-any_moment g c keeps =
    one_put g.D.Disk.moment g.D.Disk.left_since g.D.Disk.may_leave g.D.Disk.seen c.args.self.now c.args.change.now c.args.disk.now c.put.new.disk c.self.inside.place c.in-Ok-new.record
    (ap (λ (s : Kept). s.place) c.self.view_is) (c.in-Ok-new.ensures ∙ c.deref.ensures.value ∙ c.in-Ok.ensures) keeps c.put.ensures.any_moment
