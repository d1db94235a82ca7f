use Rattle.std.proofs.Common.{◌≡◌, arith}
use Rattle.std.proofs.lemmas.Bool.Decides.{nat_tests}
use Rattle.std.proofs.lemmas.List.{length-map}
use Rattle.hold_back.specs.Index.{awaited_rank, ticket_rank, ticket_ranks}
use Rattle.hold_back.proofs.Rows.{rank_read, first_place, none_past, none_other, found_next}
use Rattle.hold_back.proofs.row.next.Goals as goal

pub returns-then-at-len : goal.returns-then-at-len
returns-then-at-len c all is =
    let row = c.args.row.now.items in
    let us = c.args.arrivals.now.items in
    let place = first_place row us c.args.awaited.now c.of-first.result c.index.result.now c.args.from c.place-at.result (omega arith) c.index.ensures c.of-first.ensures c.place-at.ensures in
    let long = length-map row ticket_rank in
    none_past all us (ticket_ranks row) (awaited_rank c.args.awaited.now) c.args.from c.place-at.result c.requires.arrivals is (omega arith) place (omega (arith, long))

pub returns-then-not-is_same : goal.returns-then-not-is_same
returns-then-not-is_same c all is =
    let row = c.args.row.now.items in
    let us = c.args.arrivals.now.items in
    let place = first_place row us c.args.awaited.now c.of-first.result c.index.result.now c.args.from c.place-at.result (omega arith) c.index.ensures c.of-first.ensures c.place-at.ensures in
    let found = c.index-found.result.now in
    let here = rank_read row c.place-at.result found (omega arith) c.index-found.ensures in
    let other = c.is_same.ensures in
    let long = length-map row ticket_rank in
    none_other all us (ticket_ranks row) (awaited_rank c.args.awaited.now) c.args.from c.place-at.result c.requires.arrivals is (omega arith) place
    (awaited_rank found.awaited) found.arrival here (omega arith) (omega (arith, long)) (λ e. grind (arith, nat_tests, e, other))

pub returns : goal.returns
returns c all is =
    let row = c.args.row.now.items in
    let us = c.args.arrivals.now.items in
    let place = first_place row us c.args.awaited.now c.of-first.result c.index.result.now c.args.from c.place-at.result (omega arith) c.index.ensures c.of-first.ensures c.place-at.ensures in
    let found = c.index-found.result.now in
    let here = rank_read row c.place-at.result found (omega arith) c.index-found.ensures in
    let same = c.is_same.ensures in
    let one : awaited_rank found.awaited ≡ awaited_rank c.args.awaited.now = grind (arith, nat_tests, same) in
    let long = length-map row ticket_rank in
    found_next all us (ticket_ranks row) (awaited_rank c.args.awaited.now) c.args.from c.place-at.result c.requires.arrivals is (omega arith) place
    (awaited_rank found.awaited) found.arrival c.arrival_place.result here (omega arith) (omega (arith, long)) one c.arrival_place.ensures
