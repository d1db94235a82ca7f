use Rattle.std.proofs.Common.{sym, ap, ◌∙◌}
use Rattle.std.specs.Prelude.{nat_lt}
use Rattle.coop_request.specs.History.{text_order}
use Rattle.edit_message.specs.Message.{requests_of, entries_of}
use Rattle.peer_core.specs.Peer.{Peer, history, shown_elements}
use Rattle.peer_core.specs.Carets.{count_up_to}
use Rattle.peer_tables.proofs.JournalLemmas.{history_law}
use Rattle.peer_core.proofs.CaretLemmas.{found_shown, shown_placed}
use Rattle.peer_core.proofs.peer.Peer.stands_up_to.Goals as goal

pub unreachable-requires-in-None : goal.unreachable-requires-in-None
unreachable-requires-in-None c =
    let J = c.self.inside.journal in
    shown_placed (requests_of J) (entries_of J) c.args.i c.in-Some.element (sym c.shown_at.ensures ∙ c.in-Some.is) (sym c.place_of.ensures ∙ c.in-None.is)

pub returns : goal.returns
returns c =
    let J = c.self.inside.journal in
    found_shown (requests_of J) (entries_of J) c.args.place c.args.i c.in-Some-place_of.at c.in-Some.element (history_law J c.self.invariant.sound.journal)
    (sym c.shown_at.ensures ∙ c.in-Some.is) (sym c.place_of.ensures ∙ c.in-Some-place_of.is)
    ∙ ap (λ (p : Peer). nat_lt c.args.i (count_up_to (text_order (history p)) (shown_elements p) c.args.place)) c.self.view_is
