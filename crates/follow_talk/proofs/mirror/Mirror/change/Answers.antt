use Rattle.std.proofs.Common.{List, ℕ, sym, subst}
use Rattle.std.specs.List.{concat}
use Rattle.follow_text.specs.Rows.{Makes}
use Rattle.follow_talk.proofs.Mirrored.{in_step_behind, in_step_as}
use Rattle.follow_talk.proofs.mirror.Mirror.change.Goals as goal

pub invariant_of-self : goal.invariant_of-self
invariant_of-self c =
    let between = c.make_way.new.self in
    record { in_step = in_step_as between.tracked between.pending c.put_behind.new.pending between.shown c.in_err-put_behind.ensures.stays between.in_step }

pub invariant_of-self-2 : goal.invariant_of-self-2
invariant_of-self-2 c =
    let between = c.make_way.new.self in
    let made = c.in_ok-shown.field-0 in
    record {
      in_step = in_step_behind between.tracked between.pending c.put_behind.new.pending made.row between.shown made.shown c.in_ok-put_behind.ensures.joined
          (subst (λ (s : List (List ℕ)). Makes (concat s) (concat made.shown) made.row) (sym c.make_way.ensures.shown) c.in_ok-shown.ensures.row)
          between.in_step;
    }
