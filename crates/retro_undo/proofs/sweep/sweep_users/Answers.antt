use Rattle.std.proofs.Common.{◌≡◌, ℕ, ◌+◌, ◌<◌, List, length, sym, ap, ◌∙◌, arith}
use Rattle.std.proofs.lemmas.List.{length-map}
use Rattle.std.proofs.lemmas.Option.{slice_get-get_or}
use Rattle.request_state.specs.declared.kept.Kept.{Kept}
use Rattle.retro_undo.specs.Undo.{have_elements, states_after_in, undone_in}
use Rattle.retro_undo.proofs.Parts.{states_of_none, undone_of_none, few_undone, elements_after}
use Rattle.retro_undo.proofs.Steps.{is_of_first, states_more, undone_more, states_of_all, undone_of_all}
use Rattle.retro_undo.proofs.sweep.sweep_users.Goals as goal
use Rattle.retro_undo.proofs.sweep.sweep_users.Goals.{in-Some, in_default}

pub loop-i-init : goal.loop-i-init
loop-i-init g c = record {
  states = sym (states_of_none (g.P.Places.names c.args.places.now) c.args.policy.now c.args.version c.args.states.now);
  count = sym (undone_of_none (g.P.Places.names c.args.places.now) c.args.policy.now c.args.version c.args.states.now);
}

pub sweep_line-count-requires : goal.sweep_line-count-requires
sweep_line-count-requires g c =
    let names = g.P.Places.names c.args.places.now in
    let same : length c.loop-i.states ≡ length c.args.states.now = ap (λ (t : List Kept). length t) c.loop-i.invariant.states ∙ length-map _ _ in
    record {
      elements = ap (λ (t : List Kept). have_elements names t) c.loop-i.invariant.states
          ∙ elements_after names c.args.policy.now c.args.version (is_of_first c.args.users c.loop-i.i) c.args.states.now ∙ c.requires.elements;
      few = omega (arith, same, c.requires.few);
    }

pub overflow_add-count : goal.overflow_add-count
overflow_add-count g c =
    let names = g.P.Places.names c.args.places.now in
    let p = c.args.policy.now in
    let more = undone_more names p c.args.version c.args.users c.loop-i.i c.in-Some.user c.args.states.now c.loop-i.states (sym c.at.ensures ∙ c.in-Some.is) c.loop-i.invariant.states in
    let few = few_undone names p c.args.version (is_of_first c.args.users (c.loop-i.i + 1)) c.args.states.now in
    omega (arith, more, few, c.loop-i.invariant.count, c.sweep_line-count.ensures.count, c.requires.few)

pub loop-i-preserved : goal.loop-i-preserved
loop-i-preserved g c =
    let names = g.P.Places.names c.args.places.now in
    let p = c.args.policy.now in
    elim c.match-at.branch [
      | in-Some w ↦
          let there = sym c.at.ensures ∙ w.in-Some.is in
          let more = undone_more names p c.args.version c.args.users c.loop-i.i w.in-Some.user c.args.states.now c.loop-i.states there c.loop-i.invariant.states in
          record {
            states = w.states-is ∙ states_more names p c.args.version c.args.users c.loop-i.i w.in-Some.user c.args.states.now c.loop-i.states w.sweep_line-count.new.states there c.loop-i.invariant.states w.sweep_line-count.ensures.states;
            count = omega (arith, more, w.count-is, c.loop-i.invariant.count, w.sweep_line-count.ensures.count);
          }
      | in_default w ↦
          let lt : c.loop-i.i < length c.args.users = omega (arith, c.len-i-end.ensures, c.loop-i-test.true) in
          let some = slice_get-get_or c.args.users c.loop-i.i 0 lt in
          absurd (cc (some, c.at.ensures, w.in_default.is))
    ]

pub returns : goal.returns
returns g c =
    let names = g.P.Places.names c.args.places.now in
    let p = c.args.policy.now in
    let end : c.loop-i.i ≡ length c.args.users = omega (arith, c.len-i-end.ensures, c.loop-i-test.false) in
    record {
      states = c.loop-i.invariant.states
          ∙ ap (λ (i : ℕ). states_after_in (is_of_first c.args.users i) names p c.args.version c.args.states.now) end
          ∙ states_of_all names p c.args.version c.args.users c.args.states.now;
      count = c.loop-i.invariant.count
          ∙ ap (λ (i : ℕ). undone_in (is_of_first c.args.users i) names p c.args.states.now) end
          ∙ undone_of_all names p c.args.version c.args.users c.args.states.now;
    }
