use Rattle.std.proofs.Common.{◌∙◌, ◌≡◌, Some, IsSome, refl, ap, subst}
use Rattle.std.specs.declared.option.Option.{Option}
use Rattle.std.specs.Map.{set_value}
use Rattle.std.specs.BTreeMap.{is_at}
use Rattle.element_name.specs.Named.{name_cmp}
use Rattle.coop_request.specs.Request.{element_of}
use Rattle.request_state.specs.declared.row.Row.{Row}
use Rattle.request_state.specs.Rows.{kept_rows}
use Rattle.request_state.proofs.Cells.{on_ok, on_err}
use Rattle.request_state.proofs.RowChanges.{row_found, kept_either, kept_same, counted_there, set_value-same}
use Rattle.request_state.proofs.rows.count_in.Goals as goal

pub count-requires : goal.count-requires
count-requires c = record { room = c.requires.room c.in-Some.row.now (row_found c.args.rows.now c.element.result (element_of c.args.request.now) c.in-Some.row.now c.element.ensures c.in-Some.ensures.value) }

pub returns-in-Some-clause-kept : goal.returns-in-Some-clause-kept
returns-in-Some-clause-kept c =
    let w = c.count.new.self in
    ap kept_rows (c.get_mut.follows.holds w).entries
    ∙ kept_same c.element.result c.args.rows.now c.in-Some.row.now w c.in-Some.ensures.value (kept_either c.in-Some.row.now w _ c.count.result c.count.ensures.ok c.count.ensures.err)

pub returns-in-Some-clause-cells : goal.returns-in-Some-clause-cells
returns-in-Some-clause-cells c =
    let w = c.count.new.self in
    let there : IsSome (Some c.in-Some.row.now) = refl in
    on_ok c.count.result
    (counted_there c.args.rows.now _ c.args.request.now c.element.result c.in-Some.row.now w c.element.ensures c.requires.other c.in-Some.ensures.value
    ((c.get_mut.follows.holds w).updates (subst (λ (o : Option Row). IsSome o) c.in-Some.ensures.value there))) c.count.ensures.ok

pub returns-in-Some-clause-err : goal.returns-in-Some-clause-err
returns-in-Some-clause-err c =
    let test = is_at (name_cmp c.element.result) in
    on_err c.count.result (λ (same : c.count.new.self ≡ c.in-Some.row.now).
    (c.get_mut.follows.holds c.count.new.self).entries ∙ ap (set_value test c.args.rows.now) same ∙ set_value-same test c.args.rows.now c.in-Some.row.now c.in-Some.ensures.value) c.count.ensures.err
