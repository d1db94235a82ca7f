use Rattle.std.proofs.Common.{List, ◌∷◌, [], ◌++◌, sym, ap, subst}
use Rattle.logbook.specs.Pages.{Book}
use Rattle.screen_read.specs.declared.told.Tellings.{Tellings}
use Rattle.screen_read.specs.Pages.{AllBegin}
use Rattle.screen_read.specs.Ends.{BoardPages}
use Rattle.screen_read.specs.Rule.{IsSeenOf}
use Rattle.screen_read.specs.Tellings.{told_lists}
use Rattle.screen_read.proofs.Lists.{prefix_trans}
use Rattle.screen_read.proofs.Growing.{learns_also}
use Rattle.screen_read.proofs.reader.ScreenReader.learn.Goals as goal

pub invariant_of-self : goal.invariant_of-self
invariant_of-self c =
    let known : BoardPages = c.self.inside.known in
    let new : BoardPages = c.replace_with.new.dest in
    let list : BoardPages = c.of-list.result.value in
    let later = c.replace_with.ensures in (
      subst (λ (b : Book). IsSeenOf b c.self.inside.taker.place.me.0.client) (sym later.0) c.self.invariant.0,
      prefix_trans c.self.inside.seen.value.pages known.pages new.pages c.self.invariant.1 later.1.0,
      subst (λ (t : Tellings). AllBegin (told_lists t ++ list.pages ∷ []) new.pages) (sym c.replace.ensures.value) (learns_also (told_lists c.self.inside.told) known new c.told.inside.shown list c.self.invariant.2 later.1.0 later.1.1 c.of-list.ensures),
    )
