use Rattle.std.proofs.Common.{◌≡◌, take}
use Rattle.std.specs.Prelude.{position}
use Rattle.element_name.specs.Name.{Name, name_eq}
use Rattle.tomb_seq.specs.Runs.{number_at}
use Rattle.audit_cert.proofs.ranks.places_of.Given as goal

abbrev pub invariant-loop-place : goal.invariant-loop-place
invariant-loop-place l = (n : Name) → number_at l.places n ≡ position (name_eq n) (take l.place l.names)
