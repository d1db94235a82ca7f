use Rattle.edit_frame.specs.Lent.{frame_lent}
use Rattle.std.proofs.lemmas.Result.{err_from_is_err_and}
use Rattle.std.proofs.Common.{sym, arith}
use Rattle.edit_frame.proofs.Cut.{whole_by}
use Rattle.edit_frame.proofs.Streams.{waits_at, cut_at, taken_at, fails_at}
use Rattle.edit_frame.proofs.splitter.first_lent.Goals as goal

pub returns-then-is_truncated : goal.returns-then-is_truncated
returns-then-is_truncated c = waits_at c.args.bytes.now c.in-Some.kind (sym c.in-Some.ensures) (sym c.if-is_truncated.ensures)

pub returns-in-Some : goal.returns-in-Some
returns-in-Some c = (cut_at c.args.bytes.now c.in-Some.kind (sym c.in-Some.ensures), sym c.if-is_truncated.ensures)

pub length_of-requires : goal.length_of-requires
length_of-requires c = (whole_by c.args.bytes.now (sym c.in_default.ensures)).field

pub returns-in_err-frame : goal.returns-in_err-frame
returns-in_err-frame c =
    let p = err_from_is_err_and c.from_residual.result c.from_residual.ensures.1 in
    rw (p.1, p.2) (fails_at c.args.bytes.now c.in_err-frame.field-0.0 (sym c.in_default.ensures) c.in_err-frame.ensures)

pub returns : goal.returns
returns c = rw c.length_of.ensures (taken_at c.args.bytes.now (frame_lent c.in_ok-frame.frame) (λ i. omega (arith, c.type_inv.bytes i)) (sym c.in_default.ensures) c.in_ok-frame.ensures)
