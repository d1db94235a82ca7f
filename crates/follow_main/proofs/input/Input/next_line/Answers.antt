use Rattle.std.proofs.Common.{ℕ, List, subst}
use Rattle.follow_main.specs.Lines.{IsNextLine}
use Rattle.follow_main.proofs.input.Input.next_line.Goals as goal

pub returns-clause-line : goal.returns-clause-line
returns-clause-line c size is = subst (λ (rest : List ℕ). IsNextLine c.args.self.now.ended rest size) c.rest-rest.ensures (c.next_of.ensures.line size is)
