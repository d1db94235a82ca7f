use Rattle.std.proofs.Common.{List, sym, ap, ◌∙◌}
use Rattle.std.specs.Prelude.{slice_get, option_and_then}
use Rattle.edit_message.specs.declared.message.Message.{Message}
use Rattle.edit_message.specs.Message.{key_of, key_eq, find_key}
use Rattle.peer_tables.proofs.JournalLemmas.{find_position}
use Rattle.peer_tables.proofs.journal.Journal.find.Goals as goal

pub returns : goal.returns
returns c =
    let J : List Message = c.self.inside.items in
    c.item.ensures ∙ ap (λ (K : List Message). slice_get K c.in_ok-number.field-0) (sym c.self.view_is)
    ∙ ap (option_and_then (slice_get J)) c.in_ok-number.ensures ∙ sym (find_position (λ m. key_eq (key_of m) c.args.key) J)
    ∙ ap (λ (K : List Message). find_key c.args.key K) c.self.view_is

pub returns-in_err-number : goal.returns-in_err-number
returns-in_err-number c =
    let J : List Message = c.self.inside.items in
    c.from_residual.ensures ∙ ap (option_and_then (slice_get J)) (sym c.in_err-number.was ∙ c.number.ensures)
    ∙ sym (find_position (λ m. key_eq (key_of m) c.args.key) J) ∙ ap (λ (K : List Message). find_key c.args.key K) c.self.view_is
