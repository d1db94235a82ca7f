use Rattle.std.specs.declared.option.Option.{Option}
use Rattle.std.specs.Option.{option_map}
use Rattle.std.proofs.Common.{List, sym, ap, ◌∙◌, arith}
use Rattle.element_name.specs.Name.{Name}
use Rattle.request_state.specs.declared.kept.Kept.{Kept}
use Rattle.request_state.specs.Table.{kept_state}
use Rattle.retro_undo.specs.Undo.{have_elements, states_after_in, undone_in}
use Rattle.retro_undo.specs.Part.{is_in, is_above, is_named}
use Rattle.retro_undo.proofs.Parts.{few_undone, elements_after}
use Rattle.retro_undo.proofs.Steps.{next_kept, kept_element, states_at_start, undone_at_start, states_at_end, undone_at_end, walk_judged, walk_smaller, walk_states, walk_count}
use Rattle.retro_undo.proofs.walk.sweep_line.Goals as goal

pub loop-request-init : goal.loop-request-init
loop-request-init g c =
    let names = g.P.Places.names c.args.places.now in
    let p = c.args.policy.now in
    record {
      states = states_at_start names p c.args.version c.args.states.now c.args.whose c.below_all-above.ensures.absent
          ∙ sym (ap (λ (n : Name). states_after_in (is_above c.args.whose n) names p c.args.version c.args.states.now) c.below_all-above.ensures.value);
      count =
          let all = undone_at_start names p c.args.version c.args.states.now c.args.whose c.below_all-above.ensures.absent in
          let same = ap (λ (n : Name). undone_in (is_above c.args.whose n) names p c.args.states.now) c.below_all-above.ensures.value in
          omega (arith, all, same);
      elements = c.requires.elements;
    }

pub request_verdict_lent-verdict-requires : goal.request_verdict_lent-verdict-requires
request_verdict_lent-verdict-requires g c =
    kept_element (g.P.Places.names c.args.places.now) c.in-Some.request c.loop-request.states c.loop-request.invariant.elements
    (next_kept c.loop-request.states c.args.whose c.loop-request.above c.in-Some.request c.next_tentative.ensures.in_order (sym c.next_tentative.ensures.found ∙ c.in-Some.is))

pub settle-requires-clause-tentative : goal.settle-requires-clause-tentative
settle-requires-clause-tentative g c =
    ap (λ (n : Name). kept_state c.loop-request.states n) c.id-above.ensures.value
    ∙ ap (λ (x : Option Kept). option_map (λ (k : Kept). k.state) x)
    (next_kept c.loop-request.states c.args.whose c.loop-request.above c.in-Some.request c.next_tentative.ensures.in_order (sym c.next_tentative.ensures.found ∙ c.in-Some.is))

pub overflow_add-count : goal.overflow_add-count
overflow_add-count g c =
    let names = g.P.Places.names c.args.places.now in
    let p = c.args.policy.now in
    let found = sym c.next_tentative.ensures.found ∙ c.in-Some.is in
    let few = few_undone names p c.args.version (is_in c.args.whose) c.args.states.now in
    let step = walk_count names p c.args.version c.args.whose c.loop-request.above c.in-Some.request c.loop-request.states c.next_tentative.ensures.in_order found _ _ _ _ _
    c.id-above.ensures.value c.request_verdict_lent-verdict.ensures c.settle.ensures.states c.from-count.ensures c.settle.ensures.undone in
    omega (arith, few, step, c.loop-request.invariant.count, c.requires.few)

pub loop-request-smaller : goal.loop-request-smaller
loop-request-smaller g c =
    walk_smaller (g.P.Places.names c.args.places.now) c.args.policy.now c.args.version c.args.whose c.loop-request.above c.in-Some.request c.loop-request.states
    c.next_tentative.ensures.in_order (sym c.next_tentative.ensures.found ∙ c.in-Some.is) _ _ _ c.id-above.ensures.value c.request_verdict_lent-verdict.ensures c.settle.ensures.states

pub loop-request-preserved : goal.loop-request-preserved
loop-request-preserved g c =
    let names = g.P.Places.names c.args.places.now in
    let p = c.args.policy.now in
    let found = sym c.next_tentative.ensures.found ∙ c.in-Some.is in
    let step = walk_count names p c.args.version c.args.whose c.loop-request.above c.in-Some.request c.loop-request.states c.next_tentative.ensures.in_order found _ _ _ _ _
    c.id-above.ensures.value c.request_verdict_lent-verdict.ensures c.settle.ensures.states c.from-count.ensures c.settle.ensures.undone in
    record {
      states = c.loop-request.invariant.states
          ∙ walk_states names p c.args.version c.args.whose c.loop-request.above c.in-Some.request c.loop-request.states c.next_tentative.ensures.in_order found _ _ _
          c.id-above.ensures.value c.request_verdict_lent-verdict.ensures c.settle.ensures.states;
      count = omega (arith, step, c.loop-request.invariant.count);
      elements = ap (λ (t : List Kept). have_elements names t)
          (walk_judged names p c.args.version c.args.whose c.loop-request.above c.in-Some.request c.loop-request.states c.next_tentative.ensures.in_order found _ _ _
          c.id-above.ensures.value c.request_verdict_lent-verdict.ensures c.settle.ensures.states)
          ∙ elements_after names p c.args.version (is_named c.in-Some.request.id) c.loop-request.states ∙ c.loop-request.invariant.elements;
    }

pub returns : goal.returns
returns g c =
    let names = g.P.Places.names c.args.places.now in
    let end = sym c.next_tentative.ensures.found ∙ c.in_default.is in
    let none = undone_at_end names c.args.policy.now c.args.version c.loop-request.states c.args.whose c.loop-request.above end in
    record {
      states = sym (c.loop-request.invariant.states ∙ states_at_end names c.args.policy.now c.args.version c.loop-request.states c.args.whose c.loop-request.above end);
      count = omega (arith, none, c.loop-request.invariant.count);
    }
