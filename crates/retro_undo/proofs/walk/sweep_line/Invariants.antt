use Rattle.std.proofs.Common.{◌≡◌, ◌+◌, true}
use Rattle.retro_undo.specs.Undo.{have_elements, states_after_in, undone_in}
use Rattle.retro_undo.specs.Part.{is_in, is_above}
use Rattle.retro_undo.proofs.Steps.{waiting_count}
use Rattle.retro_undo.proofs.walk.sweep_line.Given as goal

abbrev pub invariant-loop-request : goal.invariant-loop-request
invariant-loop-request g l =
    let names = g.P.Places.names l.places in
    record {
      states : states_after_in (is_in l.whose) names l.policy l.version l.fn.states ≡ states_after_in (is_above l.whose l.above) names l.policy l.version l.states;
      count : undone_in (is_in l.whose) names l.policy l.fn.states ≡ l.count + undone_in (is_above l.whose l.above) names l.policy l.states;
      elements : have_elements names l.states ≡ true;
    }

abbrev pub decreases-loop-request : goal.decreases-loop-request
decreases-loop-request g l = waiting_count l.above l.states
