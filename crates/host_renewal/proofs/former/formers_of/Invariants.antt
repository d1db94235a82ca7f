use Rattle.std.proofs.Common.{◌≡◌, ◌++◌}
use Rattle.host_renewal.specs.Formers.{formers_bytes}
use Rattle.host_renewal.proofs.former.formers_of.Given as goal

abbrev pub invariant-loop : goal.invariant-loop
invariant-loop l = formers_bytes l.row.items ++ l.rest ≡ l.bytes
