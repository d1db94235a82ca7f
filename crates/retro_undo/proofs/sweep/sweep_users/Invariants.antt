use Rattle.std.proofs.Common.{◌≡◌}
use Rattle.retro_undo.specs.Undo.{states_after_in, undone_in}
use Rattle.retro_undo.proofs.Steps.{is_of_first}
use Rattle.retro_undo.proofs.sweep.sweep_users.Given as goal

abbrev pub invariant-loop-i : goal.invariant-loop-i
invariant-loop-i g l =
    let names = g.P.Places.names l.places in
    record {
      states : l.states ≡ states_after_in (is_of_first l.users l.i) names l.policy l.version l.fn.states;
      count : l.count ≡ undone_in (is_of_first l.users l.i) names l.policy l.fn.states;
    }
