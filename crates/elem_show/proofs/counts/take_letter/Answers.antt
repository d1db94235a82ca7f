use Rattle.std.proofs.Common.{◌∙◌}
use Rattle.element_name.proofs.NamedLemmas.{remove_named}
use Rattle.elem_show.proofs.counts.take_letter.Goals as goal

pub returns-clause-taken : goal.returns-clause-taken
returns-clause-taken c = c.remove.ensures.entries ∙ remove_named c.args.id c.args.letters.now.entries c.requires.ordered
