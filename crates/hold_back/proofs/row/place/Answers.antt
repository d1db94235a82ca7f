use Rattle.std.proofs.Common.{arith, ltb, rules}
use Rattle.std.proofs.lemmas.List.Sorted.{IsPartitionPoint-from_clause, IsPartitionedBy-ltb}
use Rattle.hold_back.specs.Index.{ticket_rank}
use Rattle.hold_back.proofs.Rows.{ranks_rise, found_ticket}
use Rattle.hold_back.proofs.row.place.Goals as goal

pub returns : goal.returns
returns c =
    let x = ticket_rank c.args.ticket.now in
    let parted = IsPartitionedBy-ltb ticket_rank _ x (ranks_rise _ c.requires) in
    let point = IsPartitionPoint-from_clause (λ y. ltb (ticket_rank y) x) _ _ c.partition_point.ensures.partitioned parted (λ a r q k. search rules) in
    found_ticket _ x _ (omega arith) point
