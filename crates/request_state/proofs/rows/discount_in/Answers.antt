use Rattle.std.proofs.Common.{◌∙◌, Some, IsSome, refl, ap, sym, subst}
use Rattle.std.specs.declared.option.Option.{Option}
use Rattle.element_name.specs.Name.{Name}
use Rattle.coop_request.specs.declared.edit.Right.{Right}
use Rattle.elem_show.specs.Cell.{Counts}
use Rattle.elem_show.specs.Counting.{counts_less}
use Rattle.request_state.specs.declared.row.Row.{Row}
use Rattle.request_state.specs.Rows.{kept_rows}
use Rattle.request_state.proofs.RowChanges.{kept_same, discounted_there}
use Rattle.request_state.proofs.rows.discount_in.Goals as goal

pub returns-in-Some-clause-kept : goal.returns-in-Some-clause-kept
returns-in-Some-clause-kept c =
    let w = c.discount.new.self in
    ap kept_rows (c.get_mut.follows.holds w).entries
    ∙ kept_same c.args.element c.args.rows.now c.in-Some.row.now w c.in-Some.ensures.value (ap (λ (y : Row). y.kept) c.discount.ensures)

pub returns-in-Some-clause-cells : goal.returns-in-Some-clause-cells
returns-in-Some-clause-cells c = λ q is_name is_element is_right other.
    let w = c.discount.new.self in
    let r = c.in-Some.row.now in
    let there : IsSome (Some r) = refl in
    discounted_there c.args.rows.now _ q c.args.element r w (sym is_element) other c.in-Some.ensures.value
    ((c.get_mut.follows.holds w).updates (subst (λ (o : Option Row). IsSome o) c.in-Some.ensures.value there))
    (c.discount.ensures
    ∙ ap (λ (n : Name). let counts : Counts = counts_less n c.args.right r.counts in let row : Row = record { kept = r.kept; counts = counts } in row) (sym is_name)
    ∙ ap (λ (x : Right). let counts : Counts = counts_less q.id x r.counts in let row : Row = record { kept = r.kept; counts = counts } in row) (sym is_right))
