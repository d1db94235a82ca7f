use Rattle.std.proofs.Common.{◌≡◌, List, [], ◌∷◌, ◌++◌, Some, ap, sym, subst, ◌∙◌}
use Rattle.std.specs.Option.{option_copied}
use Rattle.std.proofs.lemmas.Result.{IfOk-weaker}
use Rattle.coop_request.specs.Request.{element_of}
use Rattle.policy_book.specs.Entry.{Entry}
use Rattle.edit_message.specs.declared.message.Message.{Message}
use Rattle.edit_message.specs.Message.{requests_of, entries_of}
use Rattle.admin_log.specs.Log.{FollowsLog}
use Rattle.peer_tables.specs.Undoing.{AreOfTentative, HaveUndone, next_reach}
use Rattle.retro_undo.specs.Listed.{taken_within}
use Rattle.peer_tables.proofs.UndoingLemmas.{journal_tentative, journal_undone}
use Rattle.peer_tables.proofs.journal.Journal.undoable.Goals as goal

pub returns-clause-tentative : goal.returns-clause-tentative
returns-clause-tentative c =
    IfOk-weaker c.list_reach.result
    (λ v. v.items ≡ taken_within element_of c.reach.result c.self.inside.states)
    (λ v. AreOfTentative (requests_of c.args.self.now) (entries_of c.args.self.now) v.items)
    (λ v is. subst (λ (J : List Message). AreOfTentative (requests_of J) (entries_of J) v.items) c.self.view_is
    (journal_tentative c.self.inside.items _ _ _ _ _ c.self.invariant c.reach.result v.items is))
    c.list_reach.ensures

pub returns-clause-undone : goal.returns-clause-undone
returns-clause-undone c =
    IfOk-weaker c.list_reach.result
    (λ v. v.items ≡ taken_within element_of c.reach.result c.self.inside.states)
    (λ v. (e : Entry) → FollowsLog (entries_of c.args.self.now) e → option_copied c.args.op ≡ Some e.op
    → HaveUndone (requests_of c.args.self.now) (entries_of c.args.self.now) (entries_of c.args.self.now ++ e ∷ []) v.items)
    (λ v is. subst (λ (J : List Message). (e : Entry) → FollowsLog (entries_of J) e → option_copied c.args.op ≡ Some e.op
    → HaveUndone (requests_of J) (entries_of J) (entries_of J ++ e ∷ []) v.items) c.self.view_is
    (journal_undone c.self.inside.items _ _ _ _ _ c.self.invariant (option_copied c.args.op) c.reach.result v.items
    (c.reach.ensures ∙ ap (λ (J : List Message). next_reach (entries_of J) (option_copied c.args.op)) (sym c.self.view_is)) is))
    c.list_reach.ensures
