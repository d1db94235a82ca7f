use Rattle.std.proofs.Common.{◌∙◌, ap}
use Rattle.std.specs.Prelude.{is_some, option_and_then}
use Rattle.std.specs.declared.option.Option.{Option}
use Rattle.elem_show.specs.Cell.{Cell, shown}
use Rattle.request_state.specs.Table.{kept_shows}
use Rattle.request_state.proofs.table.StateTable.shows.Goals as goal

pub returns : goal.returns
returns c =
    c.shows_in.ensures ∙ ap (λ (o : Option Cell). is_some (option_and_then shown o)) (c.self.invariant.cells.cells_of c.args.element)
    ∙ ap (λ t. kept_shows t c.args.element) c.self.view_is
