-- Small pasts of a follower: on each the premises of a law hold, so that it speaks of something.
use Rattle.std.specs.Prelude.{◌≡◌, List, [], ◌∷◌, Some, length, Contains}
use Rattle.edit_message.specs.declared.message.Message.{Message}
use Rattle.host_core.specs.Samples.{sample_request}
use Rattle.edit_message.specs.declared.message.Message.TheVariants.{Coop}
use Rattle.peer_step.specs.declared.step.LocalEdit.TheVariants.{Insert}
use Rattle.peer_step.specs.declared.step.Step.TheVariants.{Edit, Receive}
use Rattle.peer_core.specs.Peer.{fresh_peer, text}
use Rattle.peer_core.specs.Restore.{peer_of_journal}
use Rattle.peer_core.specs.Sound.{IsSound}
use Rattle.follow_core.specs.declared.event.FollowEvent.{FollowEvent}
use Rattle.follow_core.specs.declared.event.FollowEvent.TheVariants.{Began, Made, Saved, Told, CameBack, Linked, Passed}
use Rattle.follow_core.specs.Past.{follow_peer, follow_saved, follow_steps, back_of, standing_link, passed_on}
use Rattle.follow_core.specs.Happens.{IsFollowPast}
use Rattle.follow_core.specs.Laws.{GoesOnFrom, WasPassed}

-- an insert of `a` at the start
abbrev pub written_message : Message
written_message = Coop (sample_request 1 0)

-- the device writes it
abbrev pub written_past : List FollowEvent
written_past = Made (Edit (Insert 0 (97 ∷ []))) ∷ Began (fresh_peer 0) 0 ∷ []

-- it is saved, answered, and sent on a link
abbrev pub sent_past : List FollowEvent
sent_past = Passed written_message ∷ Linked 0 ∷ Told ∷ Saved ∷ written_past

-- it comes back, and another link begins behind it
abbrev pub came_back : List FollowEvent
came_back = Linked 1 ∷ CameBack 0 ∷ Made (Receive written_message) ∷ sent_past

-- the program is killed, and the follower goes on from what was saved
abbrev pub went_on : List FollowEvent
went_on = Passed written_message ∷ Linked 0 ∷ Began (peer_of_journal 0 (written_message ∷ [])) 0 ∷ []

-- ---- of each law

-- the journal has the request before it is saved, and it is sent and told behind that
abbrev pub SavedBeforePassedSample : Type 0
SavedBeforePassedSample =
    IsFollowPast sent_past
    × ((follow_peer written_past).journal ≡ written_message ∷ [])
    × (follow_saved written_past ≡ [])
    × (follow_saved sent_past ≡ written_message ∷ [])

-- the follower that goes on sends the same
abbrev pub OneMessageSample : Type 0
OneMessageSample =
    IsFollowPast sent_past
    × IsFollowPast went_on
    × IsSound (follow_peer went_on)
    × GoesOnFrom sent_past went_on
    × WasPassed sent_past written_message
    × WasPassed went_on written_message

-- the link began in front of the request, and was passed it
abbrev pub PassedInOrderSample : Type 0
PassedInOrderSample =
    IsFollowPast sent_past
    × (standing_link sent_past ≡ Some (record { from = 0; mark = 1 }))
    × (passed_on sent_past ≡ written_message ∷ [])
    × (length (follow_saved sent_past) ≡ 1)

-- the next link begins behind it
abbrev pub BackSample : Type 0
BackSample = IsFollowPast came_back × (back_of came_back ≡ 1) × (standing_link came_back ≡ Some (record { from = 1; mark = 1 }))

-- a sound peer has the message
abbrev pub TakenOnceSample : Type 0
TakenOnceSample = IsSound (follow_peer sent_past) × Contains (follow_peer sent_past).journal written_message

-- one step was made, and the letter shows
abbrev pub ReplaySample : Type 0
ReplaySample = IsFollowPast sent_past × (follow_steps sent_past ≡ Edit (Insert 0 (97 ∷ [])) ∷ []) × (text (follow_peer sent_past) ≡ (97 ∷ []) ∷ [])
