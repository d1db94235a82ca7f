use Rattle.std.proofs.Common.{◌≡◌, List, ap, ◌∙◌}
use Rattle.std.specs.Prelude.{filter_map}
use Rattle.std.proofs.lemmas.Result.{IfOk-weaker}
use Rattle.edit_message.specs.declared.message.Message.{Message}
use Rattle.edit_message.specs.Message.{requests_of, entries_of}
use Rattle.tomb_seq.specs.Slots.{names_in}
use Rattle.request_state.specs.Table.{kept_piece}
use Rattle.peer_tables.specs.Derived.{text_in}
use Rattle.peer_tables.proofs.KeptLemmas.Text.{text_kept}
use Rattle.peer_tables.proofs.journal.Journal.text.Goals as goal

pub returns : goal.returns
returns c =
    let is = text_kept c.self.inside.items _ _ _ _ _ c.self.invariant ∙ ap (λ (J : List Message). text_in (requests_of J) (entries_of J)) c.self.view_is in
    IfOk-weaker c.text_of.result
    (λ t. t ≡ filter_map (kept_piece c.self.inside.states) (names_in c.self.inside.seq))
    (λ t. t ≡ text_in (requests_of c.args.self.now) (entries_of c.args.self.now))
    (λ t h. h ∙ is) c.text_of.ensures
