use Rattle.std.proofs.Common.{refl}
use Rattle.policy_book.specs.Policy.{is_member}
use Rattle.auth_match.specs.Verdict.{object_covers_judged}
use Rattle.auth_match.proofs.matching.first_matching.Goals as goal

pub loop-a-init : goal.loop-a-init
loop-a-init g c = record {
  members = c.new-notes.ensures.members (λ group. is_member c.args.policy.now group c.args.access.now.user);
  covered = c.new-notes.ensures.covered (object_covers_judged (g.P.Places.names c.args.places.now) c.args.policy.now c.args.access.now.judged);
  left = refl;
}
