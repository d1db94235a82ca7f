use Rattle.std.proofs.Common.{Some, ◌∙◌, ap, sym}
use Rattle.coop_request.specs.Request.{Request}
use Rattle.std.specs.Option.{option_map}
use Rattle.request_state.specs.declared.kept.Kept.{Kept}
use Rattle.request_state.specs.Table.{kept_of}
use Rattle.request_state.specs.declared.row.Row.{Row}
use Rattle.request_state.proofs.Changes.{lookup_kept}
use Rattle.request_state.proofs.RowChanges.{lookup_rows}
use Rattle.request_state.proofs.table.StateTable.packed_request.Goals as goal

pub returns-in-Some : goal.returns-in-Some
returns-in-Some c = ap (λ (q : Request). Some q) (c.packed.ensures ∙ ap (λ (k : Kept). k.request) c.kept.ensures) ∙ ap (option_map (λ (k : Kept). k.request)) (ap (option_map (λ (r : Row). r.kept)) c.in-Some.ensures.value ∙ sym (lookup_rows c.args.id _) ∙ lookup_kept _ _ c.self.invariant.lines c.args.id ∙ ap (λ table. kept_of table c.args.id) c.self.view_is)

pub returns-in-None : goal.returns-in-None
returns-in-None c = ap (option_map (λ (k : Kept). k.request)) (ap (option_map (λ (r : Row). r.kept)) c.in-None.ensures.value ∙ sym (lookup_rows c.args.id _) ∙ lookup_kept _ _ c.self.invariant.lines c.args.id ∙ ap (λ table. kept_of table c.args.id) c.self.view_is)
