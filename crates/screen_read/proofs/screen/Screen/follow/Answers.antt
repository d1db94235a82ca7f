use Rattle.std.proofs.Common.{List, [], ◌∷◌, ◌++◌, ap, sym, subst}
use Rattle.screen_read.specs.Pages.{PageText, IsAscending}
use Rattle.screen_read.specs.Screen.{KnownScreen}
use Rattle.screen_read.proofs.screen.Screen.follow.Goals as goal

pub publish-requires : goal.publish-requires
publish-requires g c = subst (λ (l : List PageText). IsAscending (l ++ c.args.page ∷ [])) (sym (ap (λ (s : KnownScreen). s.pages) c.self.view_is)) c.requires.ascending
