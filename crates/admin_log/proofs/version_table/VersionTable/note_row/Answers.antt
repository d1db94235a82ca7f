use Rattle.std.proofs.Common.{◌≡◌, ℕ, ◌+◌, ◌<◌, List, [], ◌∷◌, ◌++◌, length, take, ap, sym, ◌∙◌, arith, eqb}
use Rattle.std.specs.Prelude.{◌&&◌, ◌||◌}
use Rattle.std.proofs.Math.Seq.{take-length}
use Rattle.std.proofs.lemmas.List.{take_more}
use Rattle.std.proofs.lemmas.Option.{slice_get-get_or, slice_get_within, get_or_from_slice_get}
use Rattle.policy_book.specs.Lists.{has_number}
use Rattle.admin_log.specs.VersionTable.{is_noted}
use Rattle.admin_log.proofs.VersionTables.{notes_then_one}
use Rattle.admin_log.proofs.version_table.VersionTable.note_row.Goals as goal
use Rattle.admin_log.proofs.version_table.VersionTable.note_row.Goals.{in-Some+in_ok-note_user, in_default}

pub loop-i-preserved : goal.loop-i-preserved
loop-i-preserved c =
    elim c.match-at.branch [
      | in-Some+in_ok-note_user w ↦
          let u : ℕ = w.in-Some.user in
          let users : List ℕ = c.args.users.now in
          let there = sym c.at.ensures ∙ w.in-Some.is in
          let more : take (c.loop-i.i + 1) users ≡ take c.loop-i.i users ++ u ∷ [] =
          take_more users c.loop-i.i u (slice_get_within users c.loop-i.i u there) ∙ ap (λ (d : ℕ). take c.loop-i.i users ++ d ∷ []) (get_or_from_slice_get users c.loop-i.i u u there) in
          λ v n. ap (λ t. is_noted t v n) w.self-is
          ∙ notes_then_one c.args.self.now c.loop-i.self w.note_user.new.self c.args.version u (take c.loop-i.i users) c.loop-i.invariant w.in_ok-note_user.ensures.ok v n
          ∙ ap (λ (us : List ℕ). is_noted c.args.self.now v n || (eqb v c.args.version && has_number us n)) (sym more)
      | in_default w ↦
          let lt : c.loop-i.i < length c.args.users.now = omega (arith, c.len-i-end.ensures, c.loop-i-test.true) in
          let some = slice_get-get_or c.args.users.now c.loop-i.i 0 lt in
          absurd (cc (some, c.at.ensures, w.in_default.is))
    ]

pub returns-clause-ok : goal.returns-clause-ok
returns-clause-ok c = λ v n.
    let end : c.loop-i.i ≡ length c.args.users.now = omega (arith, c.len-i-end.ensures, c.loop-i-test.false) in
    c.loop-i.invariant v n
    ∙ ap (λ (i : ℕ). is_noted c.args.self.now v n || (eqb v c.args.version && has_number (take i c.args.users.now) n)) end
    ∙ ap (λ (us : List ℕ). is_noted c.args.self.now v n || (eqb v c.args.version && has_number us n)) (take-length c.args.users.now)
