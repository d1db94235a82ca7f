use Rattle.std.proofs.Common.{◌∙◌, ap}
use Rattle.std.specs.BTreeMap.{insert_entry}
use Rattle.element_name.specs.Named.{name_cmp}
use Rattle.element_name.proofs.NamedLemmas.{insert_named}
use Rattle.elem_show.proofs.counts.put_letter.Goals as goal

pub returns-clause-ok : goal.returns-clause-ok
returns-clause-ok c =
    let old = c.args.letters.now.entries in
    c.in_ok-insert.ensures.entries ∙ ap (insert_entry name_cmp old c.args.id) c.in_ok-letter.ensures.packed ∙ insert_named c.args.id c.args.letter.now old c.requires.new
