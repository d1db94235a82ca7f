use Rattle.std.proofs.Common.{◌≡◌, ℕ, Bool, List, [], ◌∷◌, ◌++◌, ap, sym, subst, ◌∙◌}
use Rattle.std.specs.Prelude.{filter_map, if◌then◌else◌}
use Rattle.std.specs.declared.option.Option.{Option}
use Rattle.std.specs.List.{cons_option}
use Rattle.peer_step.specs.declared.step.LocalEdit.{LocalEdit}
use Rattle.text_change.specs.Ahead.{IsAheadOf}
use Rattle.text_change.specs.Seen.{row_by}
use Rattle.text_change.proofs.AheadLemmas.{empty, own_told, one_told, many_told}
use Rattle.text_change.proofs.ahead.Ahead.rows.Goals as goal
use Rattle.text_change.proofs.ahead.Ahead.rows.Goals.{in-Some, in_default}

pub returns-then-is_done : goal.returns-then-is_done
returns-then-is_done c old step ahead answered after =
    own_told old c.args.peer.now step c.in-Own.edit c.args.answer.now c.push_reserved.new.self.items (subst (IsAheadOf old step) c.in-Own.is ahead) answered after
    (c.push_reserved.ensures.items
    ∙ ap (λ (v : List LocalEdit). v ++ c.in-Own.edit ∷ []) (empty c.args.self.rows.items c.args.self.none)
    ∙ ap (λ (b : Bool). if b then c.in-Own.edit ∷ [] else []) (sym (sym c.is_done.ensures ∙ c.if-is_done.true)))

pub returns-else-is_done : goal.returns-else-is_done
returns-else-is_done c old step ahead answered after =
    own_told old c.args.peer.now step c.in-Own.edit c.args.answer.now c.args.self.rows.items (subst (IsAheadOf old step) c.in-Own.is ahead) answered after
    (empty c.args.self.rows.items c.args.self.none ∙ ap (λ (b : Bool). if b then c.in-Own.edit ∷ [] else []) (sym (sym c.is_done.ensures ∙ c.if-is_done.false)))

pub returns-after-row : goal.returns-after-row
returns-after-row c old step ahead answered after =
    let rows : c.match-row.rows.items ≡ cons_option c.row.result [] = elim c.match-row.branch [
      | in-Some w ↦
          ap (λ v. v.items) w.rows-is ∙ w.push_reserved-in-Some.ensures.items ∙ ap (λ (v : List LocalEdit). v ++ w.in-Some.row ∷ []) (empty c.args.self.rows.items c.args.self.none)
          ∙ ap (λ (o : Option LocalEdit). cons_option o []) (sym w.in-Some.is)
      | in_default w ↦
          ap (λ v. v.items) w.rows-is ∙ empty c.args.self.rows.items c.args.self.none ∙ ap (λ (o : Option LocalEdit). cons_option o []) (sym w.in_default.is)
    ] in
    one_told old c.args.peer.now step c.in-One.seen c.match-row.rows.items (subst (IsAheadOf old step) c.in-One.is ahead) after
    (rows ∙ ap (λ (o : Option LocalEdit). cons_option o []) c.row.ensures)

pub returns-in-Many : goal.returns-in-Many
returns-in-Many c old step ahead answered after =
    many_told old c.args.peer.now step c.in-Many.seen c.put_rows.new.rows.items (subst (IsAheadOf old step) c.in-Many.is ahead) after
    (c.put_rows.ensures
    ∙ ap (λ (v : List LocalEdit). v ++ filter_map (row_by c.args.peer.now) c.in-Many.seen.entries) (empty c.args.self.rows.items c.args.self.none))
