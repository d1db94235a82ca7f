use Rattle.std.proofs.Common.{◌≡◌, ◌+◌, ◌-◌, None, false, map, sym, ap, ◌∙◌, arith, eqb}
use Rattle.std.specs.List.{range_with_len}
use Rattle.std.proofs.lemmas.Bool.Decides.{nat_tests}
use Rattle.element_name.specs.Cases.{first_of}
use Rattle.coop_request.specs.Request.{user_of}
use Rattle.check_remote.specs.State.{until, denial_at}
use Rattle.check_remote.proofs.States.{administrator_law}
use Rattle.audit_cert.specs.Grants.{granting_at}
use Rattle.audit_cert.proofs.GrantRuns.{none_granted, until_from}
use Rattle.audit_cert.proofs.findings.findings_of.Goals as goal

pub returns-then-user-eq0-clause-state : goal.returns-then-user-eq0-clause-state
returns-then-user-eq0-clause-state g c =
    let q = c.args.request in
    let user : user_of q ≡ 0 = sym c.user.ensures ∙ c.if-user-eq0.true in
    c.state_by-granted.ensures ∙ sym (administrator_law (g.P.Places.names c.args.judging.now.places.now) c.args.judging.now.log.now q user)

pub returns-in-Err : goal.returns-in-Err
returns-in-Err g c =
    let names = g.P.Places.names c.args.judging.now.places.now in
    let log = c.args.judging.now.log.now in
    let q = c.args.request in
    let end = until log q + 1 in
    let version = c.version-at.ensures.value in
    let from = until_from log q c.requires.carried in
    let none : granting_at names log q q.version ≡ None = ap (granting_at names log q) (sym version) ∙ c.in-Err.ensures.denied in
    let other : eqb (user_of q) 0 ≡ false = grind (arith, nat_tests) in
    record {
      state = c.in-Err.ensures.state end (omega (arith, version, from)) (ap (λ v. first_of (map (denial_at names log q) (range_with_len v (end - v)))) (sym version));
      grants = c.new-grants.ensures.items ∙ sym (none_granted names log q c.requires.carried other none);
    }
