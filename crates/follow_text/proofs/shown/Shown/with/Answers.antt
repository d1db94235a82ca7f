use Rattle.std.proofs.Common.{◌≡◌, ℕ, ◌+◌, ◌-◌, List, take, ap, sym, subst, ◌∙◌}
use Rattle.std.specs.Prelude.{sum}
use Rattle.std.specs.List.{concat}
use Rattle.peer_step.specs.Text.{cut}
use Rattle.peer_step.proofs.Cuts.{concat_cut}
use Rattle.follow_text.specs.Rows.{replaced, with_row, IsRowOf}
use Rattle.follow_text.specs.Shown.{with_pieces}
use Rattle.follow_text.proofs.Cutting.{PutsIn, puts_in}
use Rattle.follow_text.proofs.shown.Shown.with.Goals as goal
use Rattle.follow_text.proofs.shown.Shown.with.Goals.{In_ok-sizes}

-- what was put in
put_in : (c : In_ok-sizes) → PutsIn c.self.inside.sizes.items c.self.inside.bytes.items c.args.put_sizes.now c.args.put.now c.in_ok-sizes.sizes.items c.in_ok-bytes.bytes.items c.args.at c.args.out
put_in c =
    puts_in c.self.inside.sizes.items c.self.inside.bytes.items c.args.put_sizes.now c.args.put.now c.in_ok-sizes.sizes.items c.in_ok-bytes.bytes.items c.args.at c.args.out
    c.start_of-start.result c.saturating_sub-gone.result c.self.invariant c.requires.sizes
    (c.start_of-start.ensures ∙ ap (λ (s : List ℕ). sum (take c.args.at s)) c.deref.ensures.value)
    (c.saturating_sub-gone.ensures ∙ ap (λ (k : ℕ). k - c.start_of-start.result) (c.start_of.ensures ∙ ap (λ (s : List ℕ). sum (take (c.args.at + c.args.out) s)) c.deref-2.ensures.value))
    (c.in_ok-sizes.ensures ∙ ap (λ (s : List ℕ). replaced s c.args.at c.args.out c.args.put_sizes.now) c.deref-5.ensures.value)
    (c.in_ok-bytes.ensures ∙ ap (λ (b : List ℕ). replaced b c.start_of-start.result c.saturating_sub-gone.result c.args.put.now) c.deref-4.ensures.value)

pub invariant_of-result : goal.invariant_of-result
invariant_of-result c = (put_in (goal.at.invariant_of-result c).In_ok-sizes).whole

pub returns-clause-shown : goal.returns-clause-shown
returns-clause-shown c =
    (put_in (goal.at.returns-clause-shown c).In_ok-sizes).pieces
    ∙ ap (λ (p : List (List ℕ)). with_pieces p c.args.at c.args.out (cut c.args.put_sizes.now c.args.put.now)) c.self.view_is

pub returns-clause-row : goal.returns-clause-row
returns-clause-row c =
    let shown : c.deref-3.result.now ≡ concat c.args.self.now =
    c.deref-3.ensures.value ∙ sym (concat_cut c.self.inside.sizes.items c.self.inside.bytes.items c.self.invariant) ∙ ap (λ (p : List (List ℕ)). concat p) c.self.view_is in
    record {
      row_of = subst (λ (b : List ℕ). IsRowOf b c.in_ok-row.row) shown c.in_ok-row.ensures.row;
      made = ap (λ (b : List ℕ). with_row b c.in_ok-row.row) (sym shown)
          ∙ c.in_ok-row.ensures.change
          ∙ ap (λ (b : List ℕ). replaced b c.start_of-start.result c.saturating_sub-gone.result c.args.put.now) (c.deref-3.ensures.value ∙ sym c.deref-4.ensures.value)
          ∙ sym c.in_ok-bytes.ensures
          ∙ sym (concat_cut c.in_ok-sizes.sizes.items c.in_ok-bytes.bytes.items (put_in (goal.at.returns-clause-row c).In_ok-sizes).whole);
    }
