use Rattle.std.proofs.Common.{ℕ, ap, ◌∙◌, sym, subst, List, length, ◌∷◌, ◌++◌, []}
use Rattle.element_name.specs.Name.{Name}
use Rattle.coop_request.specs.Edit.{right_of}
use Rattle.coop_request.specs.Request.{user_of}
use Rattle.coop_request.specs.History.{text_order, FollowsHistory}
use Rattle.policy_book.specs.Entry.{Entry}
use Rattle.edit_message.specs.declared.message.Message.{Message}
use Rattle.edit_message.specs.Message.{requests_of, entries_of}
use Rattle.coop_request.specs.declared.edit.Right.{Right}
use Rattle.policy_book.specs.Policy.{Policy}
use Rattle.admin_log.specs.Log.{policy_of}
use Rattle.check_local.specs.declared.check.LocalVerdict.{LocalVerdict}
use Rattle.check_local.specs.Local.{local_verdict, with_version as told_at}
use Rattle.check_remote.specs.State.{verdict_at}
use Rattle.auth_match.specs.Coverage.{IsJudged, names_with, judged_name}
use Rattle.auth_match.specs.declared.verdict.Judged.{Judged}
use Rattle.tomb_seq.specs.Slots.{names_in}
use Rattle.peer_tables.specs.Kept.{judged_by}
use Rattle.peer_tables.proofs.KeptLemmas.Follows.{judged, told}
use Rattle.peer_tables.proofs.KeptLemmas.Joined.{known}
use Rattle.peer_tables.proofs.KeptLemmas.Reads.{read_names}
use Rattle.peer_tables.proofs.journal.Journal.verdict.Goals as goal

pub check_local-requires : goal.check_local-requires
check_local-requires c =
    let J = c.self.inside.items in
    let q = c.args.request.now in
    let follows : FollowsHistory (requests_of J) q = subst (λ (K : List Message). FollowsHistory (requests_of K) q) (sym c.self.view_is) c.requires in
    let there : IsJudged (text_order (requests_of J)) (judged_by q.id q.edit) =
    judged (requests_of J) c.self.inside.log (known c.self.inside.items c.self.inside.log c.self.inside.seq c.self.inside.states c.self.inside.stamp c.self.inside.requests c.self.invariant) q follows in
    subst (λ (names : List Name). IsJudged names c.judged.result) (sym (read_names c.self.inside.items c.self.inside.log c.self.inside.seq c.self.inside.states c.self.inside.stamp c.self.inside.requests c.self.invariant))
    (subst (λ (j : Judged). IsJudged (text_order (requests_of J)) j) (sym c.judged.ensures) there)

-- the verdict by its parts
abbrev verdict_by : List Name → Policy → ℕ → ℕ → Right → Judged → LocalVerdict
verdict_by names p version u right j = local_verdict (names_with names j) p version u right (judged_name j)

pub returns : goal.returns
returns c =
    let J = c.self.inside.items in
    let L = c.self.inside.log in
    let names = names_in c.self.inside.seq in
    let q = c.args.request.now in
    let j = judged_by q.id q.edit in
    let follows : FollowsHistory (requests_of J) q = subst (λ (K : List Message). FollowsHistory (requests_of K) q) (sym c.self.view_is) c.requires in
    let p = c.policy.result.now in
    c.check_local.ensures
    ∙ ap (λ (x : Judged). verdict_by names p c.len.result c.user.result c.right.result x) c.judged.ensures
    ∙ ap (λ (x : Right). verdict_by names p c.len.result c.user.result x j) c.right.ensures
    ∙ ap (λ (x : ℕ). verdict_by names p c.len.result x (right_of q.edit) j) c.user.ensures
    ∙ ap (λ (x : ℕ). verdict_by names p x (user_of q) (right_of q.edit) j) c.len.ensures.count
    ∙ ap (λ (x : Policy). verdict_by names x (length L) (user_of q) (right_of q.edit) j) c.policy.ensures
    ∙ ap (λ (x : List Name). verdict_by x (policy_of L) (length L) (user_of q) (right_of q.edit) j) (read_names c.self.inside.items c.self.inside.log c.self.inside.seq c.self.inside.states c.self.inside.stamp c.self.inside.requests c.self.invariant)
    ∙ told (requests_of J) L (known c.self.inside.items c.self.inside.log c.self.inside.seq c.self.inside.states c.self.inside.stamp c.self.inside.requests c.self.invariant) q follows
    ∙ ap (λ (M : List Entry). told_at (length M) (verdict_at (text_order (requests_of J ++ q ∷ [])) M q (length M))) c.self.invariant.entries
    ∙ ap (λ (K : List Message). told_at (length (entries_of K)) (verdict_at (text_order (requests_of K ++ q ∷ [])) (entries_of K) q (length (entries_of K)))) c.self.view_is
