use Rattle.std.proofs.Common.{Some, sym, subst}
use Rattle.std.specs.Prelude.{Option}
use Rattle.follow_text.specs.declared.text_row.TextRow.{TextRow}
use Rattle.follow_talk.specs.Mirrors.{MeetsAs, TakesIn}
use Rattle.follow_text.proofs.Joining.{where_err}
use Rattle.follow_talk.proofs.Mirrored.{behind_some}
use Rattle.follow_talk.proofs.mirror.put_behind.Goals as goal

pub returns-in_err-join-in-Some-clause-stays : goal.returns-in_err-join-in-Some-clause-stays
returns-in_err-join-in-Some-clause-stays c =
    where_err c.from_residual.result
    (subst (λ (p : Option TextRow). MeetsAs p (Some c.join.new.self)) (sym c.in-Some.is) c.in_err-join-in-Some.ensures.stays)

pub returns-in_ok-join-in-Some-clause-joined : goal.returns-in_ok-join-in-Some-clause-joined
returns-in_ok-join-in-Some-clause-joined c =
    subst (λ (p : Option TextRow). TakesIn p c.args.row (Some c.join.new.self)) (sym c.in-Some.is)
    (behind_some c.in-Some.first c.args.row c.join.new.self c.in_ok-join-in-Some.ensures.joined)
