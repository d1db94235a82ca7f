use Rattle.std.proofs.Common.{ℕ, ◌<◌, List, length, sym, ap, ◌∙◌, arith, eqb}
use Rattle.std.specs.Prelude.{◌&&◌, ◌||◌}
use Rattle.std.proofs.lemmas.List.{take_more}
use Rattle.policy_book.specs.Lists.{has_number}
use Rattle.admin_log.specs.VersionTable.{is_noted}
use Rattle.admin_log.proofs.VersionTables.{notes_then_one}
use Rattle.admin_log.proofs.version_table.VersionTable.note_users.Goals as goal

pub loop-user-preserved : goal.loop-user-preserved
loop-user-preserved c = λ v n.
    let users : List ℕ = c.args.users.now in
    let i = c.loop-user.user-index in
    let lt : i < length users = omega (arith, c.loop-user-test.true) in
    notes_then_one c.args.self.now c.loop-user.self c.note_user.new.self c.args.version _ _ c.loop-user.invariant c.in_ok-note_user.ensures.ok v n
    ∙ ap (λ (us : List ℕ). is_noted c.args.self.now v n || (eqb v c.args.version && has_number us n)) (sym (take_more users i 0 lt))
