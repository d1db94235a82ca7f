use Rattle.std.proofs.Common.{◌≡◌, ℕ, List, length, map, ap, sym, ◌∙◌, arith}
use Rattle.std.specs.Prelude.{sum}
use Rattle.std.specs.List.{concat}
use Rattle.std.proofs.lemmas.List.{take_all}
use Rattle.peer_step.specs.Text.{cut}
use Rattle.follow_text.proofs.Cutting.{whole_sizes, cut_sizes, sizes_more}
use Rattle.follow_text.proofs.shown.Shown.new.Goals as goal

pub loop-number-preserved : goal.loop-number-preserved
loop-number-preserved c =
    sizes_more c.args.text.now c.loop-number.number c.unwrap_or.result c.size.result c.loop-number.sizes.items c.push.new.self.items (omega arith)
    c.size.ensures c.unwrap_or.ensures c.loop-number.invariant c.in_ok-push.ensures.items

pub invariant_of-result : goal.invariant_of-result
invariant_of-result c =
    let sizes : c.loop-number.sizes.items ≡ map (λ (p : List ℕ). length p) c.args.text.now =
    c.loop-number.invariant ∙ ap (λ (ps : List (List ℕ)). map (λ (p : List ℕ). length p) ps) (take_all c.loop-number.number c.args.text.now (omega arith)) in
    let bytes : c.in_ok-bytes.bytes.items ≡ concat c.args.text.now = c.in_ok-bytes.ensures.items ∙ c.as_bytes.ensures.value ∙ c.as_str.ensures in
    ap (λ (s : List ℕ). sum s) sizes ∙ whole_sizes c.args.text.now ∙ ap (λ (b : List ℕ). length b) (sym bytes)

pub returns : goal.returns
returns c =
    let sizes : c.loop-number.sizes.items ≡ map (λ (p : List ℕ). length p) c.args.text.now =
    c.loop-number.invariant ∙ ap (λ (ps : List (List ℕ)). map (λ (p : List ℕ). length p) ps) (take_all c.loop-number.number c.args.text.now (omega arith)) in
    let bytes : c.in_ok-bytes.bytes.items ≡ concat c.args.text.now = c.in_ok-bytes.ensures.items ∙ c.as_bytes.ensures.value ∙ c.as_str.ensures in
    ap (λ (s : List ℕ). cut s c.in_ok-bytes.bytes.items) sizes ∙ ap (λ (b : List ℕ). cut (map (λ (p : List ℕ). length p) c.args.text.now) b) bytes ∙ cut_sizes c.args.text.now
