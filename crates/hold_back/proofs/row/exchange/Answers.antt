use Rattle.std.proofs.Common.{List, remove, sym, subst}
use Rattle.hold_back.specs.declared.ticket.Ticket.{Ticket}
use Rattle.hold_back.specs.Index.{ticket_rank, ticket_ranks, IsRisingRow, IsWith, IsWithout}
use Rattle.hold_back.proofs.Rows.{ticket_place, without_ticket, over_ticket}
use Rattle.hold_back.proofs.row.exchange.Goals as goal

pub belongs-requires : goal.belongs-requires
belongs-requires c = ticket_place c.args.row.now.items (ticket_rank c.args.left.now) c.place-at.result c.requires.rising c.place-at.ensures c.requires.there

pub put_over-requires : goal.put_over-requires
put_over-requires c = ticket_place c.args.row.now.items (ticket_rank c.args.left.now) c.place-at.result c.requires.rising c.place-at.ensures c.requires.there

pub take_at-requires : goal.take_at-requires
take_at-requires c = ticket_place c.args.row.now.items (ticket_rank c.args.left.now) c.place-at.result c.requires.rising c.place-at.ensures c.requires.there

pub returns-then-belongs : goal.returns-then-belongs
returns-then-belongs c =
    let row = c.args.row.now.items in
    let left = ticket_rank c.args.left.now in
    let ticket = c.args.ticket.now in
    let at = c.place-at.result in (
      ticket_ranks (remove row at),
      without_ticket row left at c.requires.rising c.place-at.ensures c.requires.there,
      subst (λ (new : List Ticket). IsWith (ticket_rank ticket) (ticket_ranks (remove row at)) (ticket_ranks new)) (sym c.put_over.ensures)
          (over_ticket row left ticket at c.requires.rising c.place-at.ensures c.requires.there (c.belongs.ensures.before c.if-belongs.true) (c.belongs.ensures.behind c.if-belongs.true)),
    )

pub enter-requires-clause-rising : goal.enter-requires-clause-rising
enter-requires-clause-rising c =
    let row = c.args.row.now.items in
    let less = without_ticket row (ticket_rank c.args.left.now) c.place-at.result c.requires.rising c.place-at.ensures c.requires.there in
    subst (λ (new : List Ticket). IsRisingRow (ticket_ranks new)) (sym c.take_at.ensures.rest) less.rising

pub returns : goal.returns
returns c =
    let row = c.args.row.now.items in
    let left = ticket_rank c.args.left.now in
    let at = c.place-at.result in (
      ticket_ranks c.take_at.new.row.items,
      subst (λ (new : List Ticket). IsWithout left (ticket_ranks row) (ticket_ranks new)) (sym c.take_at.ensures.rest) (without_ticket row left at c.requires.rising c.place-at.ensures c.requires.there),
      c.enter.ensures,
    )
