-- The laws of what happens at followers.
use Rattle.std.specs.Prelude.{◌≡◌, ◌⊎◌, ℕ, ◌+◌, ◌≤◌, List, ◌∷◌, ◌++◌, Some, length, take, fold, Contains}
use Rattle.edit_message.specs.declared.message.Message.{Message}
use Rattle.edit_message.specs.Message.{key_of}
use Rattle.peer_step.specs.declared.step.Step.TheVariants.{Receive}
use Rattle.peer_step.specs.declared.answer.Answer.TheVariants.{Repeat}
use Rattle.peer_core.specs.Peer.{Peer}
use Rattle.peer_core.specs.Answers.{answer_of}
use Rattle.peer_core.specs.After.{peer_after}
use Rattle.peer_core.specs.Sound.{IsSound}
use Rattle.host_core.specs.Laws.{InOrder}
use Rattle.follow_core.specs.declared.event.Stretch.{Stretch}
use Rattle.follow_core.specs.declared.event.FollowEvent.{FollowEvent}
use Rattle.follow_core.specs.declared.event.FollowEvent.TheVariants.{Told, CameBack, Passed}
use Rattle.follow_core.specs.Past.{starting_peer, follow_peer, follow_saved, follow_steps, first_back, back_of, standing_link, passed_on}
use Rattle.follow_core.specs.Happens.{IsFollowPast}

-- ---- saved before sent and told

-- each message that was passed was saved by then
abbrev pub SavedBeforePassedLaw : Type 0
SavedBeforePassedLaw = (later earlier : List FollowEvent) (m : Message) → IsFollowPast (later ++ Passed m ∷ earlier) → Contains (follow_saved earlier) m

-- what is saved is a beginning of the journal
abbrev pub SavedFirstLaw : Type 0
SavedFirstLaw = (es : List FollowEvent) → IsFollowPast es → (more : List Message) × ((follow_peer es).journal ≡ follow_saved es ++ more)

-- when the program was told its answers, all that the journal had at any time before was saved
abbrev pub ProgramToldLaw : Type 0
ProgramToldLaw = (later between es : List FollowEvent) → IsFollowPast (later ++ Told ∷ (between ++ es))
    → (more : List Message) × (follow_saved (between ++ es) ≡ (follow_peer es).journal ++ more)

-- ---- no fork

-- a follower begins with a peer whose journal begins with what an earlier one had saved, as each crash leaves it
pub record GoesOnFrom (es fs : List FollowEvent) : Type 0 where
  pub more : List Message
  pub journal : (starting_peer fs).journal ≡ follow_saved es ++ more

-- a message was passed on some link
pub record WasPassed (es : List FollowEvent) (m : Message) : Type 0 where
  pub later : List FollowEvent
  pub earlier : List FollowEvent
  pub passed : es ≡ later ++ Passed m ∷ earlier

-- what a follower and one that continues it passed under one key is one message
abbrev pub OneMessageLaw : Type 0
OneMessageLaw = (es fs : List FollowEvent) (m n : Message) → IsFollowPast es → IsFollowPast fs → IsSound (follow_peer fs) → GoesOnFrom es fs
    → WasPassed es m → WasPassed fs n → key_of m ≡ key_of n → m ≡ n

-- ---- in order, nothing skipped, nothing twice

-- what was passed on a link is the journal from where it began up to its mark, all of which is saved
abbrev pub PassedInOrderLaw : Type 0
PassedInOrderLaw = (es : List FollowEvent) (x : Stretch) → IsFollowPast es → standing_link es ≡ Some x
    → InOrder (follow_peer es).journal (follow_saved es) (passed_on es) x.from x.mark

-- where its mark has come to the end of what is saved all of that was passed behind where it began
abbrev pub AllPassedLaw : Type 0
AllPassedLaw = (es : List FollowEvent) (x : Stretch) → IsFollowPast es → standing_link es ≡ Some x → length (follow_saved es) ≤ x.mark
    → take x.from (follow_peer es).journal ++ passed_on es ≡ follow_saved es

-- ---- nothing is left out

-- the newest request that came back stood at a place
pub record CameBackAt (es : List FollowEvent) (place : ℕ) : Type 0 where
  pub later : List FollowEvent
  pub earlier : List FollowEvent
  pub came : es ≡ later ++ CameBack place ∷ earlier

-- a link begins where the follower began, or behind a request that came back
abbrev pub BackLaw : Type 0
BackLaw = (es : List FollowEvent) → (back_of es ≡ first_back es) ⊎ ((place : ℕ) × (back_of es ≡ place + 1) × CameBackAt es place)

-- ---- taken once

-- a message that a sound peer has integrated is answered so, and changes nothing
abbrev pub TakenOnceLaw : Type 0
TakenOnceLaw = (p : Peer) (m : Message) → IsSound p → Contains p.journal m → (answer_of p (Receive m) ≡ Repeat) × (peer_after p (Receive m) ≡ p)

-- ---- the same answers

-- the peer is the first one, after all steps in order
abbrev pub SameAnswersLaw : Type 0
SameAnswersLaw = (es : List FollowEvent) → IsFollowPast es → follow_peer es ≡ fold peer_after (starting_peer es) (follow_steps es)
