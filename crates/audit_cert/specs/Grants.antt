-- Which authorizations grant a request, version by version.
use Rattle.std.specs.Prelude.{ℕ, ◌==◌, List, [], ◌∷◌, Option, option_and_then, if◌then◌else◌}
use Rattle.std.specs.Option.{option_map_or}
use Rattle.element_name.specs.Cases.{when}
use Rattle.element_name.specs.Name.{Name}
use Rattle.coop_request.specs.Edit.{right_of}
use Rattle.coop_request.specs.Request.{Request, user_of, element_of}
use Rattle.policy_book.specs.Entry.{Entry}
use Rattle.policy_book.specs.Policy.{Policy}
use Rattle.auth_match.specs.Verdict.{first_match}
use Rattle.admin_log.specs.Log.{policy_at}
use Rattle.check_remote.specs.State.{judged_versions}
use Rattle.audit_cert.specs.declared.grant.Grant.{Grant}

-- the number of the authorization that grants a request: of the first that matches, where that one grants
abbrev pub granting_auth : List Name → Policy → Request → Option ℕ
granting_auth names p q =
    option_and_then (λ a. when a.auth.grant a.number) (first_match names p (user_of q) (right_of q.edit) (element_of q))

-- the same by the policy of a version
abbrev pub granting_at : List Name → List Entry → Request → ℕ → Option ℕ
granting_at names log q v = granting_auth names (policy_at log v) q

-- one version that an authorization grants
abbrev pub one_version : ℕ → ℕ → Grant
one_version v by = record { from = v; to = v; by = by }

-- a grant in front of later ones: where the first of these is by the same authorization, the two are one
abbrev pub put_in_front : Grant → List Grant → List Grant
put_in_front g [] = g ∷ []
put_in_front g (h ∷ grants) = if g.by == h.by then record { from = g.from; to = h.to; by = g.by } ∷ grants else g ∷ h ∷ grants

-- the longest runs of these versions with one granting authorization, up to the first version that none grants
abbrev pub grants_over : (ℕ → Option ℕ) → List ℕ → List Grant
grants_over granting [] = []
grants_over granting (v ∷ versions) = option_map_or (λ by. put_in_front (one_version v by) (grants_over granting versions)) (granting v) []

-- the grants of a request; the administrator's needs none
abbrev pub grants_of : List Name → List Entry → Request → List Grant
grants_of names log q = if user_of q == 0 then [] else grants_over (granting_at names log q) (judged_versions log q)
