use Rattle.std.proofs.Common.{ℕ, ap, sym, ◌∙◌}
use Rattle.peer_core.specs.Peer.{fresh_peer}
use Rattle.peer_lock.specs.Run.{peer_after_run, Recorded}
use Rattle.line_input.specs.declared.reading.InputEnd.TheVariants.{Whole}
use Rattle.form_watch.proofs.Forms.{watched_wrote, nothing_wrote}
use Rattle.form_watch.proofs.form.watch_steps.Goals as goal

pub tell_watched-requires : goal.tell_watched-requires
tell_watched-requires g c =
    c.in-Ok.ensures.peer ∙ ap (λ (n : ℕ). peer_after_run (fresh_peer n) c.in-Ok.watched.history.run) (sym (ap (λ (r : Recorded). r.site) c.in-Ok.ensures.run))

pub returns-in-Ok-clause-wrote : goal.returns-in-Ok-clause-wrote
returns-in-Ok-clause-wrote g c = watched_wrote c.args.site c.args.reads c.args.steps.now _ _ _ _ _ _ c.in-Ok.ensures.run c.in-Ok.ensures.pages c.tell_watched.ensures.says

pub returns-in-Err-clause-wrote : goal.returns-in-Err-clause-wrote
returns-in-Err-clause-wrote g c = nothing_wrote c.args.site c.args.reads c.args.steps.now Whole _
