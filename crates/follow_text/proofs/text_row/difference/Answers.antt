use Rattle.std.proofs.Common.{◌∙◌}
use Rattle.follow_text.proofs.Rows.{between_ends, alike_earlier, alike_later}
use Rattle.follow_text.proofs.text_row.difference.Goals as goal

pub returns : goal.returns
returns c = record {
  row_of = c.in_ok-of.ensures.row;
  made = c.in_ok-of.ensures.change
      ∙ between_ends c.args.old.now c.args.new.now c.split_at.result.1.now c.split_at-2.result.1.now c.split_at-3.result.0.now c.edge_up_to-front.result c.end_up_to-end.result
      c.split_at.ensures.back c.split_at-2.ensures.back c.split_at-3.ensures.front
      (alike_earlier c.args.old.now c.args.new.now c.alike_in_front.result c.edge_up_to-front.result c.edge_up_to-front.ensures c.alike_in_front.ensures.alike)
      (alike_later c.split_at.result.1.now c.split_at-2.result.1.now c.alike_at_end.result c.end_up_to-end.result c.end_up_to-end.ensures c.alike_at_end.ensures.old
      c.alike_at_end.ensures.new c.alike_at_end.ensures.alike);
}
