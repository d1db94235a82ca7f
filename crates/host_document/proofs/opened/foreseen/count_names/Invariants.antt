use Rattle.std.proofs.Common.{◌≡◌, ℕ, ◌<◌, take, IfSome, nat_cmp}
use Rattle.std.specs.Prelude.{unwrap_or}
use Rattle.std.specs.BTreeMap.{get}
use Rattle.host_interface.specs.Foreseen.{names_by}
use Rattle.host_document.proofs.opened.foreseen.count_names.Given as goal

-- of the names so far
abbrev pub invariant-loop-name : goal.invariant-loop-name
invariant-loop-name l = record {
  number : (user : ℕ) → unwrap_or (get nat_cmp l.counts user) 0 ≡ names_by (take l.name-index l.names) user;
  some : (user : ℕ) → IfSome (get nat_cmp l.counts user) (λ count. 0 < count);
}
