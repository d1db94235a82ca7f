use Rattle.std.proofs.Common.{ℕ, ap, sym, ◌∙◌}
use Rattle.peer_core.specs.Peer.{fresh_peer}
use Rattle.peer_lock.specs.Run.{peer_after_run}
use Rattle.race_run.proofs.Races.{nothing_said, handed, said_of}
use Rattle.race_run.proofs.form.race_and_report.Goals as goal

pub report-requires : goal.report-requires
report-requires g c =
    c.in-Ok.ensures.peer ∙ ap (λ (n : ℕ). peer_after_run (fresh_peer n) c.in-Ok.history.run) (sym c.in-Ok.ensures.site)

pub returns-in-Err-clause-reported : goal.returns-in-Err-clause-reported
returns-in-Err-clause-reported g c = nothing_said c.args.site _ _ _ _

pub returns-in-Ok-clause-reported : goal.returns-in-Ok-clause-reported
returns-in-Ok-clause-reported g c =
    let given = c.into_lists-edits.ensures in
    let said = said_of c.args.site _ c.in-Ok.history.run _ _ _ c.in-Ok.ensures.site c.report.ensures.says in
    (_, said.0, handed _ _ _ c.args.lists _ given.edits given.arrivals given.operations c.in-Ok.ensures.run, said.1)
