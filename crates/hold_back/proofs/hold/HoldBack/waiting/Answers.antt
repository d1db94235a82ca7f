use Rattle.std.proofs.Common.{ℕ, ◌+◌, ◌==◌, ap, ◌∙◌, drop}
use Rattle.std.specs.Prelude.{option_map, position}
use Rattle.hold_back.specs.Index.{awaited_rank, need_ranks}
use Rattle.hold_back.proofs.Indexes.{waiting_found}
use Rattle.hold_back.proofs.hold.HoldBack.waiting.Goals as goal

pub returns : goal.returns
returns c =
    let known = c.of_need.ensures in
    c.next.ensures.place ∙ ap (λ (m : ℕ). option_map (λ k. c.args.from + k) (position (λ n. n == m) (drop c.args.from (need_ranks c.args.self.now)))) (ap awaited_rank known.value)
    ∙ ap (option_map (λ k. c.args.from + k)) (waiting_found c.args.need c.args.from c.args.self.now c.next.ensures.fit known.fits)
