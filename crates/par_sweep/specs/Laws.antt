-- What it means that verdicts may be taken early.
use Rattle.std.specs.Prelude.{◌≡◌, ℕ, Bool, true, List}
use Rattle.element_name.specs.Name.{Name}
use Rattle.coop_request.specs.Request.{Request}
use Rattle.policy_book.specs.Policy.{Policy}
use Rattle.request_state.specs.declared.kept.Kept.{Kept}
use Rattle.request_state.specs.Table.{is_in_order}
use Rattle.retro_undo.specs.Undo.{states_after_in}
use Rattle.retro_undo.specs.Part.{is_named}
use Rattle.par_sweep.specs.Judged.{verdict_on, judgement_on, with_verdict}

-- a verdict is the same before requests of any part were judged and after
abbrev pub EarlyVerdictLaw : Type 0
EarlyVerdictLaw = (names : List Name) (p : Policy) (version : ℕ) (part : Request → Bool) (table : List Kept) (n : Name)
    → verdict_on names p (states_after_in part names p version table) n ≡ verdict_on names p table n

-- a verdict from before is carried out as the one that is taken there and then
abbrev pub SettingLaw : Type 0
SettingLaw = (names : List Name) (p : Policy) (version : ℕ) (part : Request → Bool) (table : List Kept) (n : Name) → is_in_order table ≡ true
    → with_verdict version (judgement_on names p table n) (states_after_in part names p version table)
    ≡ states_after_in (is_named n) names p version (states_after_in part names p version table)
