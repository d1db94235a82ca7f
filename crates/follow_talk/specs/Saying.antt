-- When a follower says something to the program beside it.
use Rattle.std.specs.Prelude.{◌≡◌, ◌⊎◌, List, ◌∷◌}
use Rattle.follow_core.specs.declared.event.FollowEvent.{FollowEvent}
use Rattle.follow_core.specs.declared.event.FollowEvent.TheVariants.{Saved, Told}

-- all that was made was saved, or had been, and then the program was told
abbrev pub IsSavedAndTold : List FollowEvent → List FollowEvent → Type 0
IsSavedAndTold before after = (after ≡ Told ∷ before) ⊎ (after ≡ Told ∷ (Saved ∷ before))
