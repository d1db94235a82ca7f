use Rattle.std.proofs.Common.{◌≡◌, length}
use Rattle.replay_net.specs.World.{world_after}
use Rattle.edit_make.specs.declared.limits.TheConstants.{PEERS}
use Rattle.edit_make.specs.Plan.{script_of}
use Rattle.edit_make.proofs.playing.play_on.Given as goal

abbrev pub invariant-loop : goal.invariant-loop
invariant-loop l =
    (world_after l.world (script_of l.maker l.world l.last) ≡ world_after l.fn.world (script_of l.fn.maker l.fn.world l.fn.last))
    × (length l.world.peers ≡ PEERS)

abbrev pub decreases-loop : goal.decreases-loop
decreases-loop l = length (script_of l.maker l.world l.last)
