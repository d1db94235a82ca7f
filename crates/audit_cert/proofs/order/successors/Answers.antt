use Rattle.std.proofs.Common.{◌≡◌, ℕ, ◌+◌, ◌-◌, List, None, length, ap, subst, arith}
use Rattle.element_name.specs.Name.{Name}
use Rattle.audit_cert.specs.Anchors.{name_under}
use Rattle.audit_cert.proofs.Followings.{IsComing, first_coming, no_end, all_linked, fresh_coming, next_coming}
use Rattle.audit_cert.proofs.order.successors.Goals as goal

pub names-init : goal.names-init
names-init c =
    let all = c.args.anchors.now in
    let next = name_under c.new-next.result in
    let none : (n : Name) → next n ≡ None = λ n. ap (λ (es : List (Name × Name)). name_under es n) c.new-next.ensures in
    let count : length all ≡ length all - 0 = omega arith in
    subst (λ (k : ℕ). IsComing all k c.first-coming.result next) count (first_coming all c.first-coming.result next c.first-coming.ensures.entry none)

pub unreachable-requires : goal.unreachable-requires
unreachable-requires c =
    let all = c.args.anchors.now in
    no_end all (length all - c.names.counter) c.names.coming (name_under c.names.next) c.in_default.is c.names.invariant (omega (arith, c.len-end.ensures.count, c.names-test.true))

pub put_behind-requires : goal.put_behind-requires
put_behind-requires c =
    let all = c.args.anchors.now in
    fresh_coming all (length all - c.names.counter) c.names.coming c.in-Some.entry (name_under c.names.next) c.in-Some.is c.requires c.names.invariant

pub names-preserved : goal.names-preserved
names-preserved c =
    let all = c.args.anchors.now in
    let count = length all - c.names.counter in
    let fewer : (length all - (c.names.counter + 1)) + 1 ≡ count = omega (arith, c.len-end.ensures.count, c.names-test.true) in
    next_coming all count c.names.coming c.in-Some.entry (name_under c.names.next) c.in-Some.is c.requires c.names.invariant (name_under c.put_behind.new.next) c.in_ok-put_behind.ensures
    c.next_above-coming.result c.next_above-coming.ensures.entry (length all - (c.names.counter + 1)) fewer

pub returns : goal.returns
returns c =
    all_linked c.args.anchors.now (length c.args.anchors.now - c.names.counter) c.names.coming (name_under c.names.next) c.names.invariant
    (omega (arith, c.len-end.ensures.count, c.names-test.false))
