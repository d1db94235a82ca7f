use Rattle.std.proofs.Common.{ap, sym, ◌∙◌, ◌++◌, List, ℕ}
use Rattle.edit_frame.specs.Spelling.{spelling}
use Rattle.edit_frame.proofs.Frames.{one_frame, no_prefix}
use Rattle.edit_frame.proofs.laws.one_spelling.Goals as goal

pub returns-clause-frame : goal.returns-clause-frame
returns-clause-frame c = one_frame

pub returns-clause-spelling : goal.returns-clause-spelling
returns-clause-spelling c = λ a b f s t. s.spelled ∙ sym t.spelled

pub returns-clause-prefix : goal.returns-clause-prefix
returns-clause-prefix c = λ a b x y f g s t e. (
    let r = no_prefix f g x y s.formed t.formed (ap (λ (z : List ℕ). z ++ x) (sym s.spelled) ∙ e ∙ ap (λ (z : List ℕ). z ++ y) t.spelled) in
    (r.0, s.spelled ∙ ap spelling r.0 ∙ sym t.spelled, r.1))
