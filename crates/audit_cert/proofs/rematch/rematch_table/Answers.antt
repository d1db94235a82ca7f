use Rattle.std.proofs.Common.{◌≡◌, ◌+◌, Some, length, sym, ap, subst, ◌∙◌, arith}
use Rattle.std.specs.Prelude.{◌&&◌, nat_le, slice_get}
use Rattle.std.specs.Option.{option_copied}
use Rattle.policy_book.specs.declared.op.AdminOp.{AdminOp}
use Rattle.policy_book.specs.Policy.{Policy}
use Rattle.policy_book.specs.Reach.{is_reached}
use Rattle.check_remote.proofs.Walks.{entry_next, no_next}
use Rattle.admin_log.specs.VersionTable.{is_noted, NotesMore}
use Rattle.audit_cert.specs.Rematches.{rematch_reach, may_rematch_at}
use Rattle.audit_cert.proofs.RematchTables.{all_noted, next_noted}
use Rattle.audit_cert.proofs.rematch.rematch_table.Goals as goal
use Rattle.audit_cert.proofs.rematch.rematch_table.Goals.{in-Some+in_ok-note, in_default}

pub loop-before-preserved : goal.loop-before-preserved
loop-before-preserved c =
    let log = c.args.log.now in
    let now = c.loop-before in
    record {
      policy = c.in_ok-advance.ensures.ok;
      noted = elim c.match-entry.branch [
        | in-Some+in_ok-note w ↦
            let e = w.in-Some.entry.now in
            let there : slice_get log now.before ≡ Some e = sym (entry_next log now.before) ∙ sym c.entry.ensures ∙ ap option_copied w.in-Some.is in
            let more = subst (λ (p : Policy). NotesMore now.table w.note.new.table (now.before + 1) (is_reached (rematch_reach p e.op))) now.invariant.policy
            (subst (λ (op : AdminOp). NotesMore now.table w.note.new.table (now.before + 1) (is_reached (rematch_reach now.policy op))) w.op.ensures.value w.in_ok-note.ensures) in
            λ v u. ap (λ t. is_noted t v u) w.table-is ∙ next_noted log now.table w.note.new.table now.before e there more now.invariant.noted v u
        | in_default w ↦ absurd (no_next log now.before (omega (arith, c.loop-before-test.true, c.len-before-end.ensures.count)) (sym c.entry.ensures ∙ ap option_copied w.in_default.is))
      ];
    }

pub returns : goal.returns
returns c = λ v u.
    let log = c.args.log.now in
    let end : c.loop-before.before ≡ length log = omega (arith, c.loop-before-test.false, c.loop-before.auto.before-end, c.len-before-end.ensures.count) in
    c.loop-before.invariant.noted v u ∙ ap (λ n. nat_le v n && may_rematch_at log v u) end ∙ all_noted log v u
