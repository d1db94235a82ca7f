-- How far a device's peer came with the host where it begins.
use Rattle.std.specs.Prelude.{ℕ, List, [], ◌∷◌, nat_le, if◌then◌else◌, length}
use Rattle.peer_core.specs.declared.peer.Peer.{Peer}
use Rattle.peer_step.specs.declared.step.Step.TheVariants.{Show}
use Rattle.follow_core.specs.declared.event.FollowEvent.{FollowEvent}
use Rattle.follow_core.specs.declared.event.FollowEvent.TheVariants.{Began, Made}
use Rattle.follow_main.specs.declared.device.Mark.{Mark}

-- a number of a mark, where the peer's journal has at least the length that it had then
abbrev pub if_ours : Mark → ℕ → ℕ → ℕ
if_ours mark length n = if nat_le mark.length length then n else 0

-- the place of its journal below which a peer's own requests are at the host, by a mark: it is within the journal
abbrev pub back_at : Mark → ℕ → ℕ
back_at mark length = if nat_le (if_ours mark length mark.back) length then if_ours mark length mark.back else 0

-- what has happened at a follower that begins with a peer, by a mark: it showed its text
abbrev pub begun_at : Mark → Peer → List FollowEvent
begun_at mark peer = Made Show ∷ (Began peer (back_at mark (length peer.journal)) ∷ [])
