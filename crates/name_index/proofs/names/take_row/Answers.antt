use Rattle.std.proofs.Common.{◌≡◌, true, false, length, refl, arith}
use Rattle.std.specs.Prelude.{nat_lt}
use Rattle.std.proofs.lemmas.Bool.Decides.{nat_tests}
use Rattle.name_index.proofs.names.take_row.Goals as goal

pub returns-then-at-len : goal.returns-then-at-len
returns-then-at-len g c =
    let rest = c.pop.new.self in
    let within : nat_lt c.args.at (length rest.items) ≡ true = grind (arith, nat_tests, c.if-at-len.true, c.len.ensures, rest.ok.0) in
    record { rest = rest.items; last = c.in-Some.last; parts = c.in-Some.ensures.items; filled = rw within refl }

pub returns-else-at-len : goal.returns-else-at-len
returns-else-at-len g c =
    let rest = c.pop.new.self in
    let past : nat_lt c.args.at (length rest.items) ≡ false = grind (arith, nat_tests, c.if-at-len.false, c.len.ensures, rest.ok.0) in
    record { rest = rest.items; last = c.in-Some.last; parts = c.in-Some.ensures.items; filled = rw past refl }
