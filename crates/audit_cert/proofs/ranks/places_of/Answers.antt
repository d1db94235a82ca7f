use Rattle.std.proofs.Common.{◌≡◌, Some, cond, subst}
use Rattle.std.specs.BTreeMap.{is_at}
use Rattle.element_name.specs.Name.{Name}
use Rattle.element_name.specs.Named.{name_cmp}
use Rattle.tomb_seq.specs.Runs.{number_at}
use Rattle.audit_cert.proofs.Rankings.{next_ranked}
use Rattle.audit_cert.proofs.ranks.places_of.Goals as goal

pub loop-place-preserved : goal.loop-place-preserved
loop-place-preserved c =
    let old = c.loop-place.places in
    let new = c.insert.new.self in
    let put = subst (λ (k : Name). (n : Name) → number_at new n ≡ cond (is_at (name_cmp k) n) (Some c.loop-place.place) (number_at old n)) c.of.ensures c.in_ok-insert.ensures.updates in
    next_ranked c.args.names.now c.loop-place.place c.index-names-place.result (number_at old) (number_at new) c.requires c.loop-place-test.true c.index-names-place.is c.loop-place.invariant put
