use Rattle.std.proofs.Common.{List, sym, subst, arith}
use Rattle.hold_back.specs.declared.ticket.Ticket.{Ticket}
use Rattle.hold_back.specs.Index.{ticket_rank, ticket_ranks, IsWith}
use Rattle.std.proofs.lemmas.List.{length-map}
use Rattle.hold_back.proofs.Rows.{with_ticket}
use Rattle.hold_back.proofs.row.enter.Goals as goal

pub returns : goal.returns
returns c =
    let row = c.args.row.now.items in
    let ticket = c.args.ticket.now in
    subst (λ (new : List Ticket). IsWith (ticket_rank ticket) (ticket_ranks row) (ticket_ranks new)) (sym c.put_at.ensures) (with_ticket row ticket c.place-at.result c.requires.rising c.place-at.ensures)

pub put_at-requires-clause-within : goal.put_at-requires-clause-within
put_at-requires-clause-within c =
    let within = c.place-at.ensures.within in
    let long = length-map c.args.row.now.items ticket_rank in
    omega (arith, within, long)
