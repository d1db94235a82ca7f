use Rattle.std.proofs.Common.{◌∙◌, refl, ap, arith}
use Rattle.std.proofs.lemmas.Option.{slice_get_read}
use Rattle.edit_message.specs.Message.{key_of}
use Rattle.hold_back.specs.Index.{awaited_rank, need_rank, key_rank}
use Rattle.hold_back.proofs.Indexes.{numbered_more}
use Rattle.hold_back.proofs.hold.numbered.Goals as goal

pub loop-i-preserved : goal.loop-i-preserved
loop-i-preserved c =
    let held = c.args.held.now in
    let i = c.loop-i.i in
    let h = c.index-held-i.result in
    let more = numbered_more held i h (awaited_rank c.of_need-awaited.result) (awaited_rank c.of_key-key.result) c.loop-i.index c.reserve.new.self c.enter.new.self (omega arith)
    (slice_get_read held _ i h refl (omega arith) c.index-held-i.is) (omega arith) (ap awaited_rank c.of_need-awaited.ensures.value ∙ ap need_rank c.need.ensures)
    (ap awaited_rank c.of_key-key.ensures.value ∙ ap key_rank (c.key.ensures.value ∙ ap key_of c.message.ensures)) c.loop-i.invariant.rows c.loop-i.invariant.below
    c.reserve.ensures.arrivals c.reserve.ensures.needs c.reserve.ensures.keys c.enter.ensures.arrivals c.enter.ensures.needs c.enter.ensures.keys in
    record {
      low = omega arith;
      rows = more.0;
      below = more.1;
    }
