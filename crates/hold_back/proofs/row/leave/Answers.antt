use Rattle.std.proofs.Common.{List, sym, subst}
use Rattle.hold_back.specs.declared.ticket.Ticket.{Ticket}
use Rattle.hold_back.specs.Index.{ticket_rank, ticket_ranks, IsWithout}
use Rattle.hold_back.proofs.Rows.{without_ticket, ticket_place}
use Rattle.hold_back.proofs.row.leave.Goals as goal

pub take_at-requires : goal.take_at-requires
take_at-requires c = ticket_place c.args.row.now.items (ticket_rank c.args.ticket.now) c.place-at.result c.requires.rising c.place-at.ensures c.requires.there

pub returns-clause-left : goal.returns-clause-left
returns-clause-left c =
    let row = c.args.row.now.items in
    let x = ticket_rank c.args.ticket.now in
    subst (λ (new : List Ticket). IsWithout x (ticket_ranks row) (ticket_ranks new)) (sym c.take_at.ensures.rest) (without_ticket row x c.place-at.result c.requires.rising c.place-at.ensures c.requires.there)
