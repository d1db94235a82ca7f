-- What a reader was told.
use Rattle.std.specs.Prelude.{List, [], ◌∷◌, ◌++◌}
use Rattle.screen_read.specs.declared.told.Tellings.{Tellings, Nothing, More'}
use Rattle.screen_read.specs.Pages.{PageText}

-- the lists, in order
abbrev pub told_lists : Tellings → List (List PageText)
told_lists Nothing = []
told_lists (More' s p before) = told_lists before ++ s.value.pages ∷ []
