use Rattle.std.proofs.Common.{◌≡◌, ◌<◌, ◌+◌, ◌-◌, ap, ◌∙◌, sym, subst, List, ◌∷◌, ◌++◌, [], length, take}
use Rattle.std.specs.Prelude.{max}
use Rattle.element_name.specs.Name.{Name}
use Rattle.coop_request.specs.declared.request.TheConstants.{MAX_REQUESTS}
use Rattle.coop_request.specs.History.{text_order}
use Rattle.peer_tables.specs.Kept.{IsKeptOf, IsGivenState}
use Rattle.policy_book.specs.Entry.{Entry}
use Rattle.edit_message.specs.declared.message.Message.{Message}
use Rattle.edit_message.specs.declared.message.Message.TheVariants.{Coop}
use Rattle.edit_message.specs.Message.{requests_of, entries_of}
use Rattle.peer_tables.specs.Derived.{state_in}
use Rattle.peer_tables.proofs.KeptLemmas.Joined.{follows_items, placeable_here, joinable_here, state_here, given_here, grown, kept_again, cut_again}
use Rattle.peer_tables.proofs.journal.Journal.push_request.Goals as goal

pub join-requires-clause-placeable : goal.join-requires-clause-placeable
join-requires-clause-placeable c = placeable_here c.self.inside.items _ _ _ _ _ c.self.invariant c.args.request.now (follows_items _ _ _ c.self.view_is c.requires.follows)

pub join-requires-clause-joinable : goal.join-requires-clause-joinable
join-requires-clause-joinable c = joinable_here c.self.inside.items _ _ _ _ _ c.self.invariant c.args.request.now (follows_items _ _ _ c.self.view_is c.requires.follows)

pub join-requires-clause-given : goal.join-requires-clause-given
join-requires-clause-given c =
    let q = c.args.request.now in
    given_here c.self.inside.items _ _ _ _ _ c.self.invariant q (follows_items _ _ _ c.self.view_is c.requires.follows) c.args.given
    (subst (λ (J : List Message). IsGivenState c.args.given (text_order (requests_of J ++ q ∷ [])) (entries_of J) q) (sym c.self.view_is) c.requires.given)

pub invariant_of-self-in-Ok : goal.invariant_of-self-in-Ok
invariant_of-self-in-Ok c =
    let J = c.self.inside.items in
    let q = c.args.request.now in
    let room : length (requests_of J) < MAX_REQUESTS = subst (λ (K : List Message). length (requests_of K) < MAX_REQUESTS) (sym c.self.view_is) c.requires.room in
    let stamp : c.max-self-inside.result ≡ max c.self.inside.stamp q.id.stamp =
    c.max-self-inside.ensures ∙ ap (max c.self.inside.stamp) (c.stamp.ensures.value ∙ ap (λ (n : Name). n.stamp) c.id.ensures.value) in
    subst (λ k. IsKeptOf c.push_request.new.self c.self.inside.log c.join.new.seq c.join.new.states k (c.self.inside.requests + 1)) (sym stamp)
    (grown J _ _ _ _ _ c.self.invariant q (follows_items _ _ _ c.self.view_is c.requires.follows)
    c.push_request.new.self c.join.new.seq c.join.new.states c.in-Ok.state c.in_ok-push_request.ensures.ok c.in_ok-push_request.ensures.formed room
    c.in-Ok.ensures.state c.in-Ok.ensures.slots c.in-Ok.ensures.states)

pub invariant_of-self-in-Err : goal.invariant_of-self-in-Err
invariant_of-self-in-Err c =
    kept_again c.self.inside.items _ _ _ _ _ c.self.invariant c.cut_last.new.self c.join.new.seq c.join.new.states
    (cut_again c.self.inside.items _ _ _ _ _ c.self.invariant (Coop c.args.request.now) c.cut_last.new.self
    (c.cut_last.ensures ∙ ap (λ (items : List Message). take (length items - 1) items) c.in_ok-push_request.ensures.ok))
    c.in-Err.ensures.same_seq c.in-Err.ensures.same_states

pub returns-in-Ok-clause-state : goal.returns-in-Ok-clause-state
returns-in-Ok-clause-state c =
    let q = c.args.request.now in
    c.in-Ok.ensures.state
    ∙ state_here c.self.inside.items _ _ _ _ _ c.self.invariant q (follows_items _ _ _ c.self.view_is c.requires.follows)
    ∙ ap (λ (L : List Entry). state_in (requests_of c.self.inside.items ++ q ∷ []) L q) c.self.invariant.entries
    ∙ ap (λ (J : List Message). state_in (requests_of J ++ q ∷ []) (entries_of J) q) c.self.view_is
