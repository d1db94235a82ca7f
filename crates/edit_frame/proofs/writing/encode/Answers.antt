use Rattle.std.proofs.Common.{length, ap, arith}
use Rattle.edit_frame.proofs.Lengths.{short_body}
use Rattle.edit_frame.proofs.writing.encode.Goals as goal

pub overflow_cast-len : goal.overflow_cast-len
overflow_cast-len c =
    let short = short_body c.args.frame.now c.frame_in_range.ensures in
    let size = ap length c.in_ok-body.ensures in
    omega (arith, short, size, c.len.ensures)
