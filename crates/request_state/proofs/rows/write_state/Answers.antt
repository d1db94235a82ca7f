use Rattle.std.proofs.Common.{◌∙◌, ap, sym, subst}
use Rattle.std.specs.Option.{option_map}
use Rattle.std.specs.Map.{set_value}
use Rattle.std.specs.BTreeMap.{is_at}
use Rattle.element_name.specs.Named.{name_cmp}
use Rattle.name_index.specs.Chunks.{IsOrdered}
use Rattle.name_index.proofs.Results.{ordered_set}
use Rattle.request_state.specs.declared.row.Row.{Row}
use Rattle.request_state.specs.Rows.{kept_rows}
use Rattle.request_state.proofs.Changes.{written_one, written_none}
use Rattle.request_state.proofs.RowChanges.{lookup_rows, set_rows}
use Rattle.request_state.proofs.rows.write_state.Goals as goal

pub returns-in-Some-clause-written : goal.returns-in-Some-clause-written
returns-in-Some-clause-written c = λ table sorted e.
    let w = c.set_state.new.self in
    let test = is_at (name_cmp c.args.id) in
    let rows = c.args.rows.now in
    ap kept_rows (c.get_mut.follows.holds w).entries ∙ set_rows test rows w ∙ ap (λ (r : Row). set_value test (kept_rows rows) r.kept) c.set_state.ensures
    ∙ written_one (kept_rows rows) table c.args.id c.args.state c.in-Some.row.now.kept e sorted (ap (option_map (λ (r : Row). r.kept)) c.in-Some.ensures.value ∙ sym (lookup_rows c.args.id rows))

pub returns-in-Some-clause-ordered : goal.returns-in-Some-clause-ordered
returns-in-Some-clause-ordered c = λ sorted.
    let w = c.set_state.new.self in
    let test = is_at (name_cmp c.args.id) in
    let rows = c.args.rows.now in
    subst (IsOrdered name_cmp) (sym (ap kept_rows (c.get_mut.follows.holds w).entries ∙ set_rows test rows w)) (ordered_set name_cmp test (kept_rows rows) w.kept sorted)

pub returns-in-None-clause-written : goal.returns-in-None-clause-written
returns-in-None-clause-written c = λ table sorted e.
    let rows = c.args.rows.now in
    ap kept_rows c.get_mut.follows.holds-at-none
    ∙ written_none (kept_rows rows) table c.args.id c.args.state e (ap (option_map (λ (r : Row). r.kept)) c.in-None.ensures.value ∙ sym (lookup_rows c.args.id rows))
