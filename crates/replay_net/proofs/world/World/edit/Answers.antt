use Rattle.std.proofs.Common.{◌<◌, ℕ, List, Option, Some, length, ap, sym, ◌∙◌, arith}
use Rattle.std.specs.Prelude.{slice_set, vec_len}
use Rattle.edit_message.specs.declared.message.Message.{Message}
use Rattle.peer_step.specs.declared.step.Step.TheVariants.{Edit}
use Rattle.peer_step.specs.declared.answer.Answer.{Answer}
use Rattle.peer_step.specs.Lent.{local_edit_lent}
use Rattle.peer_core.specs.Peer.{Peer}
use Rattle.peer_core.specs.Answers.{answer_of}
use Rattle.peer_core.specs.After.{peer_after}
use Rattle.replay_net.specs.declared.reply.EditReply.{EditReply}
use Rattle.replay_net.specs.World.{World, peer_at}
use Rattle.replay_net.proofs.Worlds.{few_issued, Noted, noted}
use Rattle.replay_net.proofs.world.World.edit.Goals as goal
use Rattle.replay_net.proofs.world.World.edit.Goals.{After-is_made}

-- what is kept of the answer
kept : (c : After-is_made) → let peers : List Peer = c.self.inside.peers.items in
    Noted peers c.self.inside.issued.items c.args.peer (peer_after (peer_at peers c.args.peer) (Edit (local_edit_lent c.args.edit))) (answer_of (peer_at peers c.args.peer) (Edit (local_edit_lent c.args.edit))) c.is_made.result
kept c =
    let peers : List Peer = c.self.inside.peers.items in
    let answer : Answer = answer_of (peer_at peers c.args.peer) (Edit (local_edit_lent c.args.edit)) in
    let within : c.args.peer < length peers = omega (arith, c.requires, ap (λ (w : World). length w.peers) c.self.view_is) in
    noted peers c.self.inside.issued.items c.args.peer (Edit (local_edit_lent c.args.edit)) answer c.self.invariant within _ (c.is_made.ensures answer c.in_ok-answer.ensures.answer)

pub note-number-requires-clause-few : goal.note-number-requires-clause-few
note-number-requires-clause-few c =
    omega (arith, few_issued c.self.inside.peers.items c.self.inside.issued.items c.self.invariant, c.in_ok-reserve.ensures.len)

pub note-number-requires-clause-last : goal.note-number-requires-clause-last
note-number-requires-clause-last c = rw c.in_ok-answer.ensures.after (kept (goal.at.note-number-requires-clause-last c).After-is_made).last

pub invariant_of-self-2 : goal.invariant_of-self-2
invariant_of-self-2 c =
    rw (c.note-number.ensures.places, c.in_ok-reserve.ensures.items, c.in_ok-answer.ensures.after)
    ((kept (goal.at.invariant_of-self-2 c).After-is_made).world c.in_ok-answer.ensures.sound)

pub returns-clause-reply : goal.returns-clause-reply
returns-clause-reply c =
    rw (← c.self.view_is, c.in_ok-answer.ensures.answer)
    (ap (λ (n : Option ℕ). let told : EditReply = record { number = n; answer = c.in_ok-answer.answer } in Some told)
    (sym (c.note-number.ensures.number ∙ (kept (goal.at.returns-clause-reply c).After-is_made).number (vec_len c.reserve.new.self) (omega (arith, c.in_ok-reserve.ensures.len)))))

pub returns-clause-after : goal.returns-clause-after
returns-clause-after c =
    let peers : List Peer = c.self.inside.peers.items in
    let next : Peer = peer_after (peer_at peers c.args.peer) (Edit (local_edit_lent c.args.edit)) in
    rw (← c.self.view_is, c.note-number.ensures.places, c.in_ok-reserve.ensures.items, c.in_ok-answer.ensures.after)
    (ap (λ (ms : List Message). let w : World = record { peers = slice_set peers c.args.peer next; issued = ms; honest = c.self.inside.honest } in w)
    (kept (goal.at.returns-clause-after c).After-is_made).messages)
