use Rattle.std.proofs.Common.{ℕ, List, [], ◌∷◌, ◌++◌, length, take, ap, arith, sym, ◌∙◌}
use Rattle.peer_disk.specs.Records.{bytes_of_each}
use Rattle.peer_disk.proofs.Buffers.{one_more, gate_behind, gate_within}
use Rattle.host_people.proofs.book.follow_bodies.Goals as goal

pub overflow_add-place-in-loop-body : goal.overflow_add-place-in-loop-body
overflow_add-place-in-loop-body c =
    omega (
      arith,
      gate_behind c.args.bodies.now c.loop-body.body-index c.body-item.result c.loop-body-test.true c.body-item.is,
      gate_within c.args.bodies.now c.loop-body.body-index c.body-item.result c.loop-body-test.true c.body-item.is,
      c.len.ensures,
      c.deref.ensures.len,
      ap length c.deref.ensures.value,
      c.loop-body.invariant.place_is,
      c.requires.fits,
    )

pub loop-body-preserved : goal.loop-body-preserved
loop-body-preserved c = record {
  place_is = omega (
    arith,
    gate_behind c.args.bodies.now c.loop-body.body-index c.body-item.result c.loop-body-test.true c.body-item.is,
    c.len.ensures,
    c.deref.ensures.len,
    ap length c.deref.ensures.value,
    c.loop-body.invariant.place_is,
  );
  followed =
      c.in_ok-follow_body.ensures c.if-not-branch.false
      ∙ ap (λ (l : List (List ℕ)). l ++ c.deref.result.now ∷ []) c.loop-body.invariant.followed
      ∙ ap (λ (b : List ℕ). bytes_of_each (take c.loop-body.body-index c.args.bodies.now) ++ b ∷ []) c.deref.ensures.value
      ∙ sym (one_more c.args.bodies.now c.loop-body.body-index c.body-item.result c.loop-body-test.true c.body-item.is);
}
