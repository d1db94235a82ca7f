use Rattle.std.proofs.Common.{sym}
use Rattle.policy_book.specs.Policy.{is_member}
use Rattle.auth_match.proofs.matching.is_member.Goals as goal

pub returns-in-Some-clause-member : goal.returns-in-Some-clause-member
returns-in-Some-clause-member c =
    sym (c.noted.ensures (λ g. is_member c.args.policy.now g c.args.user) c.requires.right c.in-Some.member c.in-Some.is)

pub returns-then-group-clause-right : goal.returns-then-group-clause-right
returns-then-group-clause-right c =
    c.note.ensures (λ g. is_member c.args.policy.now g c.args.user) c.requires.right (sym c.member-member.ensures)
