use Rattle.std.proofs.Common.{◌≡◌, None, sym, ap, ◌∙◌}
use Rattle.policy_book.specs.Policy.{Policy}
use Rattle.auth_match.specs.Requests.{request_verdict}
use Rattle.admin_log.specs.Log.{validated_at}
use Rattle.check_remote.specs.State.{denial_by, state_by}
use Rattle.audit_cert.specs.Grants.{granting_auth, granting_at}
use Rattle.audit_cert.proofs.WalkedStates.{denied_from}
use Rattle.audit_cert.proofs.findings.judge.Goals as goal

pub returns-in-Some-clause-granted : goal.returns-in-Some-clause-granted
returns-in-Some-clause-granted g c =
    ap (λ (p : Policy). granting_auth (g.P.Places.names c.args.judging.now.places.now) p c.args.request) (sym c.requires.policy) ∙ sym c.granting_auth.ensures ∙ c.in-Some.is

pub returns-in-None : goal.returns-in-None
returns-in-None g c =
    let names = g.P.Places.names c.args.judging.now.places.now in
    let log = c.args.judging.now.log.now in
    let q = c.args.request in
    let none : granting_at names log q c.args.at ≡ None = ap (λ (p : Policy). granting_auth names p q) (sym c.requires.policy) ∙ sym c.granting_auth.ensures ∙ c.in-None.is in
    let verdict = c.request_verdict-verdict.ensures ∙ ap (λ (p : Policy). request_verdict names p q) c.requires.policy in
    record {
      granted = tt;
      denied = none;
      state = λ end some left.
          c.state_by.ensures ∙ ap (λ w. state_by (denial_by c.args.at w) (validated_at log q.id)) verdict ∙ denied_from names log q c.args.at end some none c.requires.other left;
    }
