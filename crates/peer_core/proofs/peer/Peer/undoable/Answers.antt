use Rattle.std.proofs.Common.{◌≡◌, [], ◌∷◌, ◌++◌, Some, sym, subst, ◌∙◌}
use Rattle.std.specs.Option.{option_copied}
use Rattle.std.proofs.lemmas.Result.{IfOk-weaker}
use Rattle.policy_book.specs.Entry.{Entry}
use Rattle.edit_message.specs.Message.{requests_of, entries_of}
use Rattle.admin_log.specs.Log.{FollowsLog}
use Rattle.peer_core.specs.Peer.{Peer, history, log}
use Rattle.peer_core.specs.Sound.{IsSound}
use Rattle.peer_core.specs.After.{peer_after}
use Rattle.peer_tables.specs.Undoing.{HaveUndone}
use Rattle.peer_core.proofs.ChangeLemmas.{step_undone}
use Rattle.peer_core.proofs.peer.Peer.undoable.Goals as goal

pub returns-clause-undone : goal.returns-clause-undone
returns-clause-undone c =
    let p : Peer = c.args.self.now in
    IfOk-weaker c.undoable.result
    (λ v. (e : Entry) → FollowsLog (entries_of c.self.inside.journal) e → option_copied c.operation_of.result ≡ Some e.op
    → HaveUndone (requests_of c.self.inside.journal) (entries_of c.self.inside.journal) (entries_of c.self.inside.journal ++ e ∷ []) v.items)
    (λ v. HaveUndone (history p) (log p) (log (peer_after p c.args.step.now)) v.items)
    (λ v each. step_undone p c.args.step.now v.items c.operation_of.ensures.formed (subst IsSound c.self.view_is c.self.invariant.sound)
    (λ e follows is. subst (λ (q : Peer). HaveUndone (history q) (log q) (log q ++ e ∷ []) v.items) c.self.view_is
    (each e (subst (λ (q : Peer). FollowsLog (log q) e) (sym c.self.view_is) follows) (c.operation_of.ensures.operation ∙ is))))
    c.undoable.ensures.undone
