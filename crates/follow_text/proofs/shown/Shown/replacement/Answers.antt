use Rattle.std.proofs.Common.{◌≡◌, ℕ, List, length, take, ap, sym, ◌∙◌, arith}
use Rattle.std.specs.Prelude.{sum, slice_range, min}
use Rattle.peer_step.specs.Text.{cut}
use Rattle.peer_step.proofs.Cuts.{length_cut}
use Rattle.follow_text.proofs.Edges.{replaced_range}
use Rattle.follow_text.proofs.shown.Shown.replacement.Goals as goal

pub returns-clause-text : goal.returns-clause-text
returns-clause-text c =
    replaced_range c.self.inside.sizes.items c.self.inside.bytes.items c.args.text.now _ _ c.in_ok-pieces_of.field-0.items c.args.self.now
    c.edge_before-first.result.number c.edge_behind-last.result.number c.edge_before-first.result.start c.edge_behind-last.result.start c.args.span.from c.args.span.to
    c.min-from.result c.min-to.result c.args.span.order c.self.invariant c.self.view_is c.edge_behind-last.ensures.later
    (c.edge_before-first.ensures.begins.start_is ∙ ap (λ (s : List ℕ). sum (take c.edge_before-first.result.number s)) c.deref.ensures.value)
    (c.edge_behind-last.ensures.begins.start_is ∙ ap (λ (s : List ℕ). sum (take c.edge_behind-last.result.number s)) c.deref-2.ensures.value)
    (c.min-to.ensures ∙ ap (λ (n : ℕ). min c.args.span.to n) (c.len.ensures ∙ sym c.deref-3.ensures.len ∙ ap (λ (b : List ℕ). length b) c.deref-3.ensures.value))
    c.min-from.ensures
    c.edge_before-first.ensures.stands.behind
    c.edge_behind-last.ensures.behind
    (ap (λ (b : List ℕ). slice_range b c.edge_before-first.result.start c.min-from.result) c.deref-3.ensures.value)
    (ap (λ (b : List ℕ). slice_range b c.min-to.result c.edge_behind-last.result.start) c.deref-4.ensures.value)
    c.in_ok-pieces_of.ensures

pub returns-clause-within : goal.returns-clause-within
returns-clause-within c =
    let size = length_cut c.self.inside.sizes.items c.self.inside.bytes.items in
    let view : length (cut c.self.inside.sizes.items c.self.inside.bytes.items) ≡ length c.args.self.now = ap (λ (p : List (List ℕ)). length p) c.self.view_is in
    let sizes : length c.deref-2.result.now ≡ length c.self.inside.sizes.items = ap (λ (s : List ℕ). length s) c.deref-2.ensures.value in
    let few = c.edge_behind-last.ensures.begins.few in
    let later = c.edge_behind-last.ensures.later in
    omega (arith, size, view, sizes, few, later)
