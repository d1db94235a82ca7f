-- What is left where an issued request is given to a peer.
use Rattle.std.proofs.Common.{◌≡◌, ℕ, ◌+◌, ◌<◌, Bool, Option, Some, None, List, ◌++◌, length, ap, sym, ◌∙◌}
use Rattle.std.specs.Prelude.{slice_set, option_and_then, option_map}
use Rattle.std.specs.Option.{option_map_or, option_to_list}
use Rattle.std.proofs.lemmas.List.{append-nil}
use Rattle.coop_request.specs.Request.{Request}
use Rattle.edit_message.specs.declared.message.Message.{Message}
use Rattle.edit_message.specs.declared.message.Message.TheVariants.{Coop, Admin}
use Rattle.edit_message.specs.Message.{request_in}
use Rattle.peer_step.specs.declared.step.Step.TheVariants.{Receive}
use Rattle.peer_core.specs.Peer.{Peer}
use Rattle.peer_core.specs.Sound.{IsSound}
use Rattle.peer_core.specs.Answers.{answer_of}
use Rattle.peer_core.specs.After.{peer_after}
use Rattle.replay_net.specs.declared.line.Line.TheVariants.{Give}
use Rattle.replay_net.specs.declared.reply.Reply.TheVariants.{Answered}
use Rattle.replay_net.specs.declared.world.Place.{Place}
use Rattle.replay_net.specs.World.{World, WorldTurn, peer_at, peer_of, issued_at, step_turn, no_message, turn_of}
use Rattle.replay_net.specs.Places.{messages_at, IsWorld}
use Rattle.replay_net.proofs.Steps.{got}
use Rattle.replay_net.proofs.Worlds.{none_is_world, same_messages}

-- a message with a request is that of the request
pub request_issued : (o : Option Message) (q : Request) → option_and_then request_in o ≡ Some q → o ≡ Some (Coop q)
request_issued None q h = absurd cc
request_issued (Some (Coop r)) q h = let same : r ≡ q = cc in ap (λ (x : Request). Some (Coop x)) same
request_issued (Some (Admin e)) q h = absurd cc

-- the turn in which a peer receives the message, if these are the new messages and all
abbrev turn_with : World → ℕ → Message → Option Message → List Message → WorldTurn
turn_with w i m new issued = record {
  reply = Answered (option_map (λ message. length w.issued + 1) new) (answer_of (peer_of w i) (Receive m));
  after = record { peers = slice_set w.peers i (peer_after (peer_of w i) (Receive m)); issued = issued; honest = w.honest };
}

-- the message of a number is given to a peer, which issues nothing
give_turn : (w : World) (number i : ℕ) (m : Message) → issued_at w number ≡ Some m → turn_of w (Give number i) ≡ turn_with w i m None w.issued
give_turn w number i m there =
    ap (λ (o : Option Message). option_map_or (λ message. step_turn w i (Receive message)) o (no_message w)) there
    ∙ ap (λ (new : Option Message). turn_with w i m new (w.issued ++ option_to_list new)) (got (peer_of w i) m).none
    ∙ ap (turn_with w i m None) (append-nil w.issued)

module _ (peers : List Peer) (places : List Place) (i : ℕ) (m : Message) (is : IsWorld peers places) (within : i < length peers) where
  -- the peers where this one received the message
  abbrev received : List Peer
  received = slice_set peers i (peer_after (peer_at peers i) (Receive m))

  pub received_is_world : IsSound (peer_after (peer_at peers i) (Receive m)) → IsWorld received places
  received_is_world = none_is_world peers places i (Receive m) (answer_of (peer_at peers i) (Receive m)) is within (got (peer_at peers i) m).none

  -- the world after the message of a number is given to it
  pub received_after : (number : ℕ) (honest : Bool) → let w : World = record { peers = peers; issued = messages_at peers places; honest = honest } in
      issued_at w number ≡ Some m → let v : World = record { peers = received; issued = messages_at received places; honest = honest } in v ≡ (turn_of w (Give number i)).after
  received_after number honest there =
      let w : World = record { peers = peers; issued = messages_at peers places; honest = honest } in
      ap (λ (ms : List Message). let v : World = record { peers = received; issued = ms; honest = honest } in v)
      (same_messages peers places i (Receive m) (answer_of (peer_at peers i) (Receive m)) is within)
      ∙ sym (ap (λ (t : WorldTurn). t.after) (give_turn w number i m there))
