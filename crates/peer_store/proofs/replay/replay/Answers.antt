use Rattle.std.proofs.Common.{ℕ, List, length, refl, ap, ◌∙◌, subst, arith}
use Rattle.peer_disk.specs.Records.{gate_place}
use Rattle.peer_disk.proofs.Buffers.{all_taken}
use Rattle.peer_store.specs.Replay.{IsReplay}
use Rattle.peer_store.proofs.Replays.{nothing_made, next_replay, next_place, place_below, stops_at_item}
use Rattle.peer_store.proofs.replay.replay.Goals as goal

pub loop-body-init : goal.loop-body-init
loop-body-init c = record { place_is = refl; replayed = nothing_made _ }

pub loop-body-preserved : goal.loop-body-preserved
loop-body-preserved c = record {
  place_is = next_place c.args.bodies.now c.loop-body.body-index c.body-item.result c.loop-body-test.true c.body-item.is c.loop-body.place c.len.result (omega (arith, c.len.ensures, c.deref.ensures.len, ap length c.deref.ensures.value)) c.loop-body.invariant.place_is;
  replayed = next_replay c.args.bodies.now c.loop-body.body-index c.body-item.result c.loop-body-test.true c.body-item.is c.args.peer.now c.loop-body.peer c.make_body.new.peer c.deref.result.now c.deref.ensures.value c.loop-body.invariant.replayed (c.in_ok-make_body.ensures.made c.if-not-branch.false);
}

pub returns-then-not-branch-clause-stopped : goal.returns-then-not-branch-clause-stopped
returns-then-not-branch-clause-stopped c =
    stops_at_item c.args.bodies.now c.loop-body.body-index c.body-item.result c.loop-body-test.true c.body-item.is c.args.peer.now c.loop-body.peer c.loop-body.place c.deref.result.now c.deref.ensures.value c.loop-body.invariant.place_is c.loop-body.invariant.replayed
    (c.in_ok-make_body.ensures.no_step c.if-not-branch.true)

pub overflow_add-place : goal.overflow_add-place
overflow_add-place c =
    omega (arith, place_below c.args.bodies.now c.loop-body.body-index c.body-item.result c.loop-body-test.true c.body-item.is c.loop-body.place c.len.result (omega (arith, c.len.ensures, c.deref.ensures.len, ap length c.deref.ensures.value)) c.loop-body.invariant.place_is, c.requires)

pub overflow_add-place-in-loop-body : goal.overflow_add-place-in-loop-body
overflow_add-place-in-loop-body c =
    omega (arith, place_below c.args.bodies.now c.loop-body.body-index c.body-item.result c.loop-body-test.true c.body-item.is c.loop-body.place c.len.result (omega (arith, c.len.ensures, c.deref.ensures.len, ap length c.deref.ensures.value)) c.loop-body.invariant.place_is, c.requires)

pub returns-clause-place : goal.returns-clause-place
returns-clause-place c =
    let past = c.loop-body-test.false in
    c.loop-body.invariant.place_is ∙ ap gate_place (all_taken c.args.bodies.now c.loop-body.body-index past)

pub returns-clause-replay : goal.returns-clause-replay
returns-clause-replay c =
    let past = c.loop-body-test.false in
    subst (λ (l : List (List ℕ)). IsReplay c.args.peer.now l c.loop-body.peer) (all_taken c.args.bodies.now c.loop-body.body-index past) c.loop-body.invariant.replayed
