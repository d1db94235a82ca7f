use Rattle.std.proofs.Common.{ap, ◌∙◌, List}
use Rattle.coop_request.specs.History.{elements_of}
use Rattle.edit_message.specs.declared.message.Message.{Message}
use Rattle.edit_message.specs.Message.{requests_of}
use Rattle.edit_message.specs.Missing.{missing_end}
use Rattle.tomb_seq.specs.Slots.{names_in}
use Rattle.peer_tables.proofs.KeptLemmas.Joined.{missing_end_agree}
use Rattle.peer_tables.proofs.KeptLemmas.Reads.{read_has}
use Rattle.peer_tables.proofs.journal.Journal.missing_end.Goals as goal

pub returns : goal.returns
returns c =
    c.missing_end.ensures
    ∙ missing_end_agree (names_in c.self.inside.seq) (elements_of (requests_of c.self.inside.items)) c.args.op.now (read_has c.self.inside.items c.self.inside.log c.self.inside.seq c.self.inside.states c.self.inside.stamp c.self.inside.requests c.self.invariant)
    ∙ ap (λ (J : List Message). missing_end (elements_of (requests_of J)) c.args.op.now) c.self.view_is
