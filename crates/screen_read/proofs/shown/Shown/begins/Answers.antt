use Rattle.std.proofs.Common.{refl, ap, subst, List}
use mathlib.Core.List.{IsPrefix}
use Rattle.screen_read.specs.Pages.{PageText}
use Rattle.screen_read.proofs.Lists.{begins_either}
use Rattle.screen_read.proofs.shown.Shown.begins.Goals as goal

pub returns : goal.returns
returns c =
    let both = c.learn.new.self.log in
    let this : IsPrefix c.self.inside.part.log both = subst (λ (l : List PageText). IsPrefix l both) (ap (λ s. s.log) c.again-both.ensures) c.learn.ensures.2 in
    rw (← c.self.view_is, ← c.other.view_is) (begins_either c.self.inside.part.log c.other.inside.part.log both c.self.inside.number c.other.inside.number this c.learn.ensures.3 c.self.invariant.0 c.other.invariant.0 _ refl)
