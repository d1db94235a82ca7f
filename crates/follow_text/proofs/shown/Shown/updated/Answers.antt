use Rattle.std.proofs.Common.{◌≡◌, ℕ, List, [], ◌∷◌, length, ap, ◌∙◌, arith}
use Rattle.std.specs.Prelude.{slice_set}
use Rattle.std.proofs.lemmas.Result.{IfOk-weaker}
use Rattle.peer_step.specs.Text.{cut}
use Rattle.peer_step.proofs.Cuts.{length_cut}
use Rattle.follow_text.specs.declared.shown.Changed.{Changed}
use Rattle.follow_text.specs.Shown.{with_pieces}
use Rattle.follow_text.proofs.Cutting.{set_is, stays_is}
use Rattle.follow_text.proofs.shown.Shown.updated.Goals as goal

pub returns-then-at-len-clause-shown : goal.returns-then-at-len-clause-shown
returns-then-at-len-clause-shown c =
    let size = length_cut c.self.inside.sizes.items c.self.inside.bytes.items in
    let view : length (cut c.self.inside.sizes.items c.self.inside.bytes.items) ≡ length c.args.self.now = ap (λ (p : List (List ℕ)). length p) c.self.view_is in
    IfOk-weaker c.with.result (λ (made : Changed). made.shown ≡ with_pieces c.args.self.now 0 0 (cut [] [])) (λ (made : Changed). made.shown ≡ slice_set c.args.self.now c.args.at c.args.letter.now)
    (λ made is. is ∙ stays_is c.args.self.now c.args.at c.args.letter.now (omega (arith, size, view))) c.with.ensures.shown

pub returns-clause-shown : goal.returns-clause-shown
returns-clause-shown c =
    let size = length_cut c.self.inside.sizes.items c.self.inside.bytes.items in
    let view : length (cut c.self.inside.sizes.items c.self.inside.bytes.items) ≡ length c.args.self.now = ap (λ (p : List (List ℕ)). length p) c.self.view_is in
    IfOk-weaker c.with-2.result (λ (made : Changed). made.shown ≡ with_pieces c.args.self.now c.args.at 1 (cut (length c.bytes-put.result.now ∷ []) c.bytes-put.result.now))
    (λ (made : Changed). made.shown ≡ slice_set c.args.self.now c.args.at c.args.letter.now)
    (λ made is. is ∙ set_is c.args.self.now c.args.at c.bytes-put.result.now c.args.letter.now (omega (arith, size, view)) c.bytes-put.ensures.value) c.with-2.ensures.shown
