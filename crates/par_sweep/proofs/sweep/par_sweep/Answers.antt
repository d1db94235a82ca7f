use Rattle.std.proofs.Common.{◌≡◌, ◌+◌, List, length, take, sym, ap, ◌∙◌, arith}
use Rattle.std.proofs.lemmas.List.{length-map}
use Rattle.request_state.specs.declared.kept.Kept.{Kept}
use Rattle.request_state.specs.Table.{is_in_order}
use Rattle.retro_undo.proofs.Parts.{states_of_none, undone_of_none, few_undone}
use Rattle.retro_undo.proofs.Steps.{one_counted}
use Rattle.par_sweep.specs.declared.judging.Judgement.{Judgement}
use Rattle.par_sweep.specs.Judged.{judgement_on}
use Rattle.par_sweep.proofs.Swept.{names_within, is_among, order_after, states_next, undone_next, states_swept, undone_swept}
use Rattle.par_sweep.proofs.sweep.par_sweep.Goals as goal

pub loop-judgement-init : goal.loop-judgement-init
loop-judgement-init g c = record {
  states = sym (states_of_none (g.P.Places.names c.args.places.now) c.args.policy.now c.args.version c.args.states.now);
  count = sym (undone_of_none (g.P.Places.names c.args.places.now) c.args.policy.now c.args.version c.args.states.now);
}

pub carry_out-requires : goal.carry_out-requires
carry_out-requires g c =
    let ids = names_within c.args.reach c.args.states.now in
    ap (λ (t : List Kept). is_in_order t) c.loop-judgement.invariant.states
    ∙ order_after (g.P.Places.names c.args.places.now) c.args.policy.now c.args.version (is_among (take c.loop-judgement.judgement-index ids)) c.args.states.now
    ∙ c.in-Some.ensures.in_order

pub overflow_add-count : goal.overflow_add-count
overflow_add-count g c =
    let names = g.P.Places.names c.args.places.now in
    let ids = names_within c.args.reach c.args.states.now in
    let more = undone_next names c.args.policy.now c.args.version ids c.args.states.now c.as_slice-judgement-items.result.now c.loop-judgement.judgement-index c.judgement-item.result c.judgement-item.result c.loop-judgement.states
    (c.as_slice-judgement-items.ensures.value ∙ c.in-Some.ensures.judged) c.loop-judgement-test.true (sym c.judgement-item.is) c.in-Some.ensures.in_order c.loop-judgement.invariant.states in
    let few = few_undone names c.args.policy.now c.args.version (is_among (take (c.loop-judgement.judgement-index + 1) ids)) c.args.states.now in
    let one = one_counted _ _ _ c.from-count.ensures c.carry_out.ensures.undone in
    omega (arith, more, few, one, c.loop-judgement.invariant.count, c.requires.tables.few)

pub loop-judgement-preserved : goal.loop-judgement-preserved
loop-judgement-preserved g c =
    let names = g.P.Places.names c.args.places.now in
    let ids = names_within c.args.reach c.args.states.now in
    let more = undone_next names c.args.policy.now c.args.version ids c.args.states.now c.as_slice-judgement-items.result.now c.loop-judgement.judgement-index c.judgement-item.result c.judgement-item.result c.loop-judgement.states
    (c.as_slice-judgement-items.ensures.value ∙ c.in-Some.ensures.judged) c.loop-judgement-test.true (sym c.judgement-item.is) c.in-Some.ensures.in_order c.loop-judgement.invariant.states in
    let one = one_counted _ _ _ c.from-count.ensures c.carry_out.ensures.undone in
    record {
      states = states_next names c.args.policy.now c.args.version ids c.args.states.now c.as_slice-judgement-items.result.now c.loop-judgement.judgement-index c.judgement-item.result c.judgement-item.result c.loop-judgement.states
          (c.as_slice-judgement-items.ensures.value ∙ c.in-Some.ensures.judged) c.loop-judgement-test.true (sym c.judgement-item.is) c.in-Some.ensures.in_order c.loop-judgement.invariant.states c.carry_out.new.states c.carry_out.ensures.states;
      count = omega (arith, more, one, c.loop-judgement.invariant.count);
    }

pub returns : goal.returns
returns g c =
    let names = g.P.Places.names c.args.places.now in
    let p = c.args.policy.now in
    let table = c.args.states.now in
    let ids = names_within c.args.reach table in
    let i = c.loop-judgement.judgement-index in
    let judged = ap (λ (js : List Judgement). length js) (c.as_slice-judgement-items.ensures.value ∙ c.in-Some.ensures.judged) ∙ length-map ids (judgement_on names p table) in
    let end : i ≡ length ids = omega (arith, judged, c.loop-judgement-test.false, c.loop-judgement.auto.judgement-index-end) in
    record {
      states = c.loop-judgement.invariant.states ∙ states_swept names p c.args.version c.args.reach table i end c.in-Some.ensures.no_start c.requires.outside;
      count = c.loop-judgement.invariant.count ∙ undone_swept names p c.args.version c.args.reach table i end c.in-Some.ensures.no_start c.requires.outside;
    }
