use Rattle.std.proofs.Common.{◌∙◌, ap, sym}
use Rattle.std.specs.BTreeMap.{is_at, insert_entry}
use Rattle.std.specs.Map.{remove_entry}
use Rattle.element_name.specs.Name.{Name, name_eq}
use Rattle.element_name.specs.Named.{name_cmp}
use Rattle.coop_request.specs.Request.{element_of}
use Rattle.request_state.specs.declared.row.Row.{Row}
use Rattle.request_state.specs.Rows.{kept_rows, row_under}
use Rattle.request_state.proofs.RowChanges.{row_elsewhere, insert_rows, cells_entered, put_and_out}
use Rattle.std.proofs.Common.{Some}
use Rattle.request_state.proofs.rows.enter.Goals as goal

pub count_new-requires : goal.count_new-requires
count_new-requires c = record {
  room = λ other r found. c.requires.room other r
      (sym (row_elsewhere c.args.rows.now c.insert.new.self c.id.result (element_of c.args.request.now) (Some c.in_ok-row.row) c.in_ok-insert.ensures.updates
      (ap (λ (n : Name). name_eq n (element_of c.args.request.now)) c.id.ensures.value ∙ c.requires.apart other)) ∙ found);
}

pub returns-in-Ok-clause-kept : goal.returns-in-Ok-clause-kept
returns-in-Ok-clause-kept c =
    let rows = c.args.rows.now in
    c.in-Ok.ensures.kept ∙ ap kept_rows c.in_ok-insert.ensures.entries ∙ insert_rows rows c.id.result c.in_ok-row.row
    ∙ ap (λ (n : Name). insert_entry name_cmp (kept_rows rows) n c.in_ok-row.row.kept) c.id.ensures.value
    ∙ ap (λ (r : Row). insert_entry name_cmp (kept_rows rows) c.args.request.now.id r.kept) c.in_ok-row.ensures

pub returns-in-Ok-clause-cells : goal.returns-in-Ok-clause-cells
returns-in-Ok-clause-cells c =
    cells_entered c.args.rows.now c.insert.new.self c.count_new.new.rows c.args.request.now c.args.state c.id.result c.in_ok-row.row c.id.ensures.value c.in_ok-row.ensures c.requires.new
    c.in_ok-insert.ensures.updates c.in-Ok.ensures.cells

pub returns-in-Err-clause-err : goal.returns-in-Err-clause-err
returns-in-Err-clause-err c =
    put_and_out c.args.rows.now c.insert.new.self c.remove.new.self c.id.result c.id-in-Err.result c.in_ok-row.row (ap (row_under c.args.rows.now) c.id.ensures.value ∙ c.requires.new)
    c.in_ok-insert.ensures.entries c.in_ok-insert.ensures.ordered (c.id-in-Err.ensures.value ∙ sym c.id.ensures.value)
    (c.remove.ensures.entries ∙ ap (remove_entry (is_at (name_cmp c.id-in-Err.result))) c.in-Err.ensures.err)
