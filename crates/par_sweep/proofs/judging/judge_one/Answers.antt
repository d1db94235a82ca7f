use Rattle.std.proofs.Common.{sym, ◌∙◌}
use Rattle.par_sweep.proofs.Named.{element_there}
use Rattle.par_sweep.proofs.judging.judge_one.Goals as goal

pub request_verdict_lent-verdict-requires : goal.request_verdict_lent-verdict-requires
request_verdict_lent-verdict-requires g c =
    element_there (g.P.Places.names c.args.places.now) c.args.states.now c.args.id c.in-Some.request c.requires (sym c.lent_request.ensures ∙ c.in-Some.is)
