use Rattle.std.proofs.Common.{sym, ◌∙◌}
use Rattle.auth_match.specs.Coverage.{names_with, judged_name}
use Rattle.auth_match.proofs.FirstMatches.{no_user_matched}
use Rattle.auth_match.proofs.matching.first_match.Goals as goal

pub returns-then-not-user : goal.returns-then-not-user
returns-then-not-user g c =
    sym (no_user_matched (names_with (g.P.Places.names c.args.places.now) c.args.judged) c.args.policy.now c.args.user c.args.right (judged_name c.args.judged) (sym c.user.ensures ∙ c.if-not-user.true))
