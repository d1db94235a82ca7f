use Rattle.std.proofs.Common.{◌≡◌, List, [], ◌∷◌, ◌++◌, None, length, ap, sym, subst, ◌∙◌}
use Rattle.element_name.specs.Name.{Name}
use Rattle.coop_request.specs.History.{text_order}
use Rattle.edit_message.specs.declared.message.Message.{Message}
use Rattle.edit_message.specs.Message.{requests_of, entries_of}
use Rattle.auth_match.specs.declared.verdict.Verdict.TheVariants.{Granted}
use Rattle.admin_log.specs.Log.{validated_at}
use Rattle.check_remote.specs.State.{verdict_at, state_by}
use Rattle.peer_tables.specs.Derived.{state_in}
use Rattle.peer_tables.proofs.KeptLemmas.Joined.{granted_here}
use Rattle.peer_tables.proofs.journal.Journal.granted_state.Goals as goal

pub returns : goal.returns
returns c =
    let J : List Message = c.self.inside.items in
    let q = c.args.request.now in
    let here = c.requires.here ∙ ap (λ (K : List Message). length (entries_of K)) (sym c.self.view_is) in
    let granted : verdict_at (text_order (requests_of J ++ q ∷ [])) (entries_of J) q (length (entries_of J)) ≡ Granted =
    subst (λ (K : List Message). verdict_at (text_order (requests_of K ++ q ∷ [])) (entries_of K) q (length (entries_of K)) ≡ Granted) (sym c.self.view_is) c.requires.granted in
    c.validated_state.ensures
    ∙ ap (state_by None) c.validated.ensures
    ∙ ap (λ (n : Name). state_by None (validated_at c.self.inside.log n)) c.id.ensures.value
    ∙ granted_here J _ _ _ _ _ c.self.invariant q here granted
    ∙ ap (λ (K : List Message). state_in (requests_of K ++ q ∷ []) (entries_of K) q) c.self.view_is
