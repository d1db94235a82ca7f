-- What one new version makes of states.
use Rattle.std.specs.Prelude.{ℕ, Bool, true, false, not, ◌&&◌, ◌||◌, List, map, count_by, if◌then◌else◌}
use Rattle.std.specs.List.{list_all}
use Rattle.element_name.specs.Name.{Name, has_name}
use Rattle.coop_request.specs.Request.{Request, user_of, element_of}
use Rattle.policy_book.specs.Policy.{Policy}
use Rattle.policy_book.specs.declared.reach.Reach.{Reach}
use Rattle.policy_book.specs.Reach.{is_reached}
use Rattle.auth_match.specs.declared.verdict.Verdict.{Verdict}
use Rattle.auth_match.specs.declared.verdict.Verdict.TheVariants.{Granted, Denied}
use Rattle.auth_match.specs.Requests.{request_verdict}
use Rattle.request_state.specs.declared.state.State.{State}
use Rattle.request_state.specs.declared.state.State.TheVariants.{Tentative, Valid, Invalid}
use Rattle.request_state.specs.declared.kept.Kept.{Kept}
use Rattle.request_state.specs.State.{is_tentative}

-- the state after the version, by the verdict of its policy: a Tentative request that is denied becomes Invalid, and every other state stays
abbrev pub state_after_verdict : State → ℕ → Verdict → State
state_after_verdict Tentative version (Denied by) = Invalid version by
state_after_verdict Tentative version Granted = Tentative
state_after_verdict (Valid at) version verdict = Valid at
state_after_verdict (Invalid at by) version verdict = Invalid at by

-- what is kept of a request after the version
abbrev pub kept_after : List Name → Policy → ℕ → Kept → Kept
kept_after names p version k = record { request = k.request; state = state_after_verdict k.state version (request_verdict names p k.request) }

-- what is kept after the version, over the names in text order
abbrev pub states_after : List Name → Policy → ℕ → List Kept → List Kept
states_after names p version table = map (kept_after names p version) table

abbrev pub is_denied : Verdict → Bool
is_denied Granted = false
is_denied (Denied by) = true

-- a Tentative request that the policy denies
abbrev pub is_undone : List Name → Policy → Kept → Bool
is_undone names p k = is_tentative k.state && is_denied (request_verdict names p k.request)

-- how many such there are
abbrev pub undone_count : List Name → Policy → List Kept → ℕ
undone_count names p table = count_by (is_undone names p) table

-- ---- of a part of the requests

-- what is kept after the requests of the part were judged
abbrev pub states_after_in : (Request → Bool) → List Name → Policy → ℕ → List Kept → List Kept
states_after_in part names p version table = map (λ k. if part k.request then kept_after names p version k else k) table

-- how many of the part are undone
abbrev pub undone_in : (Request → Bool) → List Name → Policy → List Kept → ℕ
undone_in part names p table = count_by (λ k. part k.request && is_undone names p k) table

-- ---- when a sweep may be made

-- the judged element of each request is one of the names
abbrev pub have_elements : List Name → List Kept → Bool
have_elements names table = list_all (λ k. has_name names (element_of k.request)) table

-- each Tentative request that the policy denies is of a user within the reach
abbrev pub are_reached : Reach → List Name → Policy → List Kept → Bool
are_reached reach names p table = list_all (λ k. not (is_undone names p k) || is_reached reach (user_of k.request)) table
