use denote.Param.Send.{sendable}
use Rattle.std.proofs.Crossing.{sync}
use Rattle.std.proofs.Common.{◌≡◌, ◌⊎◌, inl, inr}
use Rattle.peer_lock.proofs.Crossing.{of_shared_peers}
use Rattle.race_run.specs.declared.working.Ended.TheVariants.{Full}
use Rattle.race_run.proofs.Crossing.{PackedStep-sync}
use Rattle.race_run.proofs.Full.{never_full}
use Rattle.race_run.proofs.racing.race_lists.Goals as goal
use Rattle.race_run.proofs.racing.race_lists.Goals.{After-close-peer}
use Rattle.race_run.proofs.racing.race_lists.Given.{Over}

-- no worker met a full run
none_full : (g : Over) (c : After-close-peer g) → (c.join-zero.result.0.1 ≡ Full) ⊎ ((c.join-zero.result.1.0.1 ≡ Full) ⊎ (c.join-zero.result.1.1.1 ≡ Full)) → ⊥
none_full g c =
    let dealt = c.in_ok-shared.ensures in
    let zero = c.join-zero.ensures.first in
    let others = c.join-zero.ensures.second in
    never_full c.args.site _ _ _ _ _ _ _ _ _ _ dealt.zero.1 dealt.one.1 dealt.two.1 zero.0 others.0.0 others.1.0
    c.join.ensures.joins c.join-2.ensures.joins c.close-peer.ensures.closes _ _ _ _ _ _ zero.1 others.0.1 others.1.1 c.requires

pub unreachable-requires : goal.unreachable-requires
unreachable-requires g c = none_full g (goal.at.unreachable-requires g c).After-close-peer (inl c.in-Full.is)

pub unreachable-requires-in-Full-one_ended : goal.unreachable-requires-in-Full-one_ended
unreachable-requires-in-Full-one_ended g c = none_full g (goal.at.unreachable-requires-in-Full-one_ended g c).After-close-peer (inr (inl c.in-Full-one_ended.is))

pub unreachable-requires-in-Full-two_ended : goal.unreachable-requires-in-Full-two_ended
unreachable-requires-in-Full-two_ended g c = none_full g (goal.at.unreachable-requires-in-Full-two_ended g c).After-close-peer (inr (inr c.in-Full-two_ended.is))

pub join-zero-requires-send-F : goal.join-zero-requires-send-F
join-zero-requires-send-F g c κs within = search (sendable, sync, PackedStep-sync, of_shared_peers) depth 20

pub join-zero-requires-send-A : goal.join-zero-requires-send-A
join-zero-requires-send-A g c κs within = search (sendable, PackedStep-sync, of_shared_peers) depth 20
