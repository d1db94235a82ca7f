use Rattle.std.proofs.Common.{◌≡◌, ap, subst, ◌∙◌, arith}
use Rattle.std.specs.Prelude.{slice_set}
use Rattle.std.proofs.lemmas.Grind.{common_steps}
use Rattle.edit_message.specs.declared.message.Message.TheVariants.{Coop}
use Rattle.peer_step.specs.declared.step.Step.TheVariants.{Receive}
use Rattle.peer_core.specs.Peer.{Peer}
use Rattle.peer_core.specs.Sound.{IsSound}
use Rattle.peer_core.specs.After.{peer_after}
use Rattle.replay_net.specs.World.{peer_at}
use Rattle.replay_net.proofs.world.receive_request.Goals as goal
use Rattle.replay_net.proofs.world.receive_request.Goals.{In_ok-told}

-- the peer of that number makes the step
stepped : (c : In_ok-told) → c.index_mut-stepped.result.now ≡ peer_at c.args.peers.now.items c.args.peer
stepped c = grind (arith, common_steps)

changed : (c : In_ok-told) → c.receive_request.new.self ≡ peer_after (peer_at c.args.peers.now.items c.args.peer) (Receive (Coop c.args.request.now))
changed c = c.in_ok-told.ensures.after ∙ ap (λ (p : Peer). peer_after p (Receive (Coop c.args.request.now))) (stepped c)

pub returns-clause-answer : goal.returns-clause-answer
returns-clause-answer c = rw (stepped (goal.at.returns-clause-answer c).In_ok-told) at c.in_ok-told.ensures.answer

pub returns-clause-after : goal.returns-clause-after
returns-clause-after c = ap (slice_set c.args.peers.now.items c.args.peer) (changed (goal.at.returns-clause-after c).In_ok-told)

pub returns-clause-sound : goal.returns-clause-sound
returns-clause-sound c = subst IsSound (changed (goal.at.returns-clause-sound c).In_ok-told) c.site.ensures.sound
