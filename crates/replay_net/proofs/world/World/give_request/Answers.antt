use Rattle.std.proofs.Common.{◌≡◌, ◌<◌, List, Some, length, ap, sym, ◌∙◌, arith}
use Rattle.coop_request.specs.Request.{Request}
use Rattle.edit_message.specs.declared.message.Message.{Message}
use Rattle.edit_message.specs.declared.message.Message.TheVariants.{Coop}
use Rattle.peer_core.specs.Peer.{Peer}
use Rattle.replay_net.specs.World.{World, issued_at}
use Rattle.replay_net.proofs.Given.{request_issued, received_is_world, received_after}
use Rattle.replay_net.proofs.world.World.give_request.Goals as goal

pub invariant_of-self-2 : goal.invariant_of-self-2
invariant_of-self-2 c =
    let peers : List Peer = c.self.inside.peers.items in
    let within : c.args.peer < length peers = omega (arith, c.requires, ap (λ (w : World). length w.peers) c.self.view_is) in
    rw c.in_ok-told.ensures.after
    (received_is_world peers c.self.inside.issued.items c.args.peer (Coop c.lent.result) c.self.invariant within c.in_ok-told.ensures.sound)

pub returns-clause-after : goal.returns-clause-after
returns-clause-after c = λ told.
    let peers : List Peer = c.self.inside.peers.items in
    let message : Message = Coop c.lent.result in
    let within : c.args.peer < length peers = omega (arith, c.requires, ap (λ (w : World). length w.peers) c.self.view_is) in
    let there : issued_at c.args.self.now c.args.number ≡ Some message
    = request_issued (issued_at c.args.self.now c.args.number) c.lent.result (sym c.request.ensures ∙ c.in-Some.is ∙ ap (λ (q : Request). Some q) (sym c.lent.ensures)) in
    rw (← c.self.view_is, c.in_ok-told.ensures.after)
    (received_after peers c.self.inside.issued.items c.args.peer message c.self.invariant within c.args.number c.self.inside.honest (rw c.self.view_is there))
