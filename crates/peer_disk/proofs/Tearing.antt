-- A write that came to nothing is torn too.
use Rattle.std.proofs.Common.{ℕ, ◌+◌, List, length, take, drop, ap, arith}
use Rattle.std.proofs.lemmas.List.{take_all}
use Rattle.peer_disk.specs.Disk.{Torn}

pub torn_same : (from n : ℕ) (file : List ℕ) → Torn from n file file
torn_same from n file = record {
  no_shorter = omega arith;
  no_longer = omega arith;
  before = ap (take from) (take_all (length file) file (omega arith));
  after = ap (drop (from + n)) (take_all (length file) file (omega arith));
}
