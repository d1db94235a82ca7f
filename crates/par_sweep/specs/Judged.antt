-- Verdicts that are taken early, and what they make.
use Rattle.std.specs.Prelude.{ℕ, Bool, false, List, map, if◌then◌else◌}
use Rattle.std.specs.Option.{option_map_or}
use Rattle.element_name.specs.Name.{Name, name_eq}
use Rattle.policy_book.specs.Policy.{Policy}
use Rattle.auth_match.specs.declared.verdict.Verdict.{Verdict}
use Rattle.auth_match.specs.declared.verdict.Verdict.TheVariants.{Granted}
use Rattle.auth_match.specs.Requests.{request_verdict}
use Rattle.request_state.specs.declared.kept.Kept.{Kept}
use Rattle.request_state.specs.State.{is_tentative}
use Rattle.request_state.specs.Table.{kept_of, kept_request}
use Rattle.retro_undo.specs.Undo.{state_after_verdict}
use Rattle.par_sweep.specs.declared.judging.Judgement.{Judgement}

-- the verdict on the request of a name; who isn't kept is granted
abbrev pub verdict_on : List Name → Policy → List Kept → Name → Verdict
verdict_on names p table n = option_map_or (request_verdict names p) (kept_request table n) Granted

abbrev pub judgement_on : List Name → Policy → List Kept → Name → Judgement
judgement_on names p table n = record { id = n; verdict = verdict_on names p table n }

-- the request of a name is kept and Tentative
abbrev pub is_tentative_named : List Kept → Name → Bool
is_tentative_named table n = option_map_or (λ k. is_tentative k.state) (kept_of table n) false

-- what is kept after a verdict on the request of a name is carried out
abbrev pub with_verdict : ℕ → Judgement → List Kept → List Kept
with_verdict version j table =
    map (λ k. if name_eq k.request.id j.id then record { request = k.request; state = state_after_verdict k.state version j.verdict } else k) table
