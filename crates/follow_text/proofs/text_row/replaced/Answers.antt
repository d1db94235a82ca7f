use Rattle.std.proofs.Common.{ℕ, take, drop, ap, ◌∙◌}
use Rattle.follow_text.proofs.Rows.{replaced_within}
use Rattle.follow_text.proofs.text_row.replaced.Goals as goal

pub returns : goal.returns
returns c =
    c.in_ok-text.ensures
    ∙ replaced_within c.args.bytes.now c.args.put.now c.split_at.result.0.now c.split_at.result.1.now c.split_at-2.result.1.now c.args.at c.args.out
    (c.split_at.ensures.front ∙ ap (λ (k : ℕ). take k c.args.bytes.now) c.min.ensures)
    (c.split_at.ensures.back ∙ ap (λ (k : ℕ). drop k c.args.bytes.now) c.min.ensures)
    (c.split_at-2.ensures.back ∙ ap (λ (k : ℕ). drop k c.split_at.result.1.now) c.min-2.ensures)
