use Rattle.std.proofs.Common.{not, nat_eq, rules}
use Rattle.std.proofs.lemmas.Fn.{filter_same}
use Rattle.policy_book.proofs.numbered.take_out.Goals as goal

pub returns : goal.returns
returns g c = filter_same _ (λ x. not (nat_eq (g.T.Numbered.number_of x) c.args.number)) _ (λ x b f' k. search rules) _ _ c.retain.ensures.filtered
