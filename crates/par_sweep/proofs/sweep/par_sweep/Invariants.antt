use Rattle.std.proofs.Common.{◌≡◌, take}
use Rattle.retro_undo.specs.Undo.{states_after_in, undone_in}
use Rattle.par_sweep.proofs.Swept.{names_within, is_among}
use Rattle.par_sweep.proofs.sweep.par_sweep.Given as goal

abbrev pub invariant-loop-judgement : goal.invariant-loop-judgement
invariant-loop-judgement g l =
    let names = g.P.Places.names l.places in
    let ids = names_within l.fn.reach l.fn.states in
    record {
      states : l.states ≡ states_after_in (is_among (take l.judgement-index ids)) names l.policy l.version l.fn.states;
      count : l.count ≡ undone_in (is_among (take l.judgement-index ids)) names l.policy l.fn.states;
    }
