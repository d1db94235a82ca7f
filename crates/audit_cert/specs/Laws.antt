-- The laws of certificates.
use Rattle.std.specs.Prelude.{◌≡◌, ◌<◌, ◌↔◌, true, is_some, List}
use Rattle.element_name.specs.Name.{Name}
use Rattle.coop_request.specs.Request.{Request, user_of}
use Rattle.policy_book.specs.Policy.{Policy}
use Rattle.auth_match.specs.declared.verdict.Verdict.TheVariants.{Granted}
use Rattle.auth_match.specs.Requests.{request_verdict}
use Rattle.audit_cert.specs.Grants.{granting_auth}

-- a request of another user than 0 is granted exactly where an authorization grants it
abbrev pub GrantingLaw : Type 0
GrantingLaw = (names : List Name) (p : Policy) (q : Request) → 0 < user_of q → ((request_verdict names p q ≡ Granted) ↔ (is_some (granting_auth names p q) ≡ true))
