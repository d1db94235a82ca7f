-- The text that shows is the one of the follower's peer, as that makes steps and is saved.
use Rattle.std.proofs.Common.{◌≡◌, ◌⊎◌, inl, inr, ℕ, Bool, false, List, ◌∷◌, ap, sym, subst, ◌∙◌}
use Rattle.std.specs.Prelude.{Option, None}
use Rattle.std.proofs.Math.Logic.{∥∥₁_map, ∥∥₁_elim, ∥∥₁_prop}
use Rattle.element_name.specs.Name.{Name}
use Rattle.peer_step.specs.declared.step.LocalEdit.{LocalEdit}
use Rattle.peer_core.specs.Peer.{text}
use Rattle.text_change.specs.Rows.{text_told}
use Rattle.text_change.specs.Told.{AreRowsOf}
use Rattle.follow_core.specs.declared.event.FollowEvent.{FollowEvent}
use Rattle.follow_core.specs.declared.event.FollowEvent.TheVariants.{CameBack}
use Rattle.follow_core.specs.Past.{follow_peer}
use Rattle.follow_core.specs.Happens.{StandsAt}
use Rattle.follow_text.specs.declared.text_row.TextRow.{TextRow}
use Rattle.follow_text.specs.declared.tracked.Tracked.{Tracked}
use Rattle.follow_talk.specs.Mirrors.{IsInStep, HasText, ShowsText}
use Rattle.follow_talk.specs.Saying.{IsSavedAndTold}
use Rattle.follow_talk.proofs.Mirrored.{has_text}

-- where the peer stays it does
pub still_shows : (behind : Bool) (shown : List (List ℕ)) (es new : List FollowEvent) → follow_peer new ≡ follow_peer es → (behind ≡ false → ∥ ShowsText shown es ∥₁)
    → behind ≡ false → ∥ ShowsText shown new ∥₁
still_shows behind shown es new same h is = ∥∥₁_map (h is) (λ (shows : ShowsText shown es). shows ∙ ap text (sym same))

-- the rows of a step make the next text of the one that shows
pub rows_from : (shown : List (List ℕ)) (es new : List FollowEvent) (rows : List LocalEdit) → ∥ ShowsText shown es ∥₁ → AreRowsOf (follow_peer es) (follow_peer new) rows
    → ∥ text_told shown rows ≡ text (follow_peer new) ∥₁
rows_from shown es new rows h are = ∥∥₁_map h (λ (shows : ShowsText shown es). ap (λ (pieces : List (List ℕ)). text_told pieces rows) shows ∙ are.text)

-- behind these rows the text that shows is the peer's
pub shows_rows : (old new : List (List ℕ)) (es fs : List FollowEvent) (rows : List LocalEdit) → ∥ text_told old rows ≡ text (follow_peer es) ∥₁ → new ≡ text_told old rows → fs ≡ es
    → ∥ ShowsText new fs ∥₁
shows_rows old new es fs rows h is same =
    ∥∥₁_map h (λ (told : text_told old rows ≡ text (follow_peer es)). is ∙ told ∙ ap (λ (gs : List FollowEvent). text (follow_peer gs)) (sym same))

-- a save leaves the peer
saved_peer : (es new : List FollowEvent) → IsSavedAndTold es new → follow_peer new ≡ follow_peer es
saved_peer es new (inl told) = ap follow_peer told
saved_peer es new (inr saved) = ap follow_peer saved

-- and so does a request that comes back
pub back_peer : (es new : List FollowEvent) (id : Name) → (new ≡ es) ⊎ ((place : ℕ) × (new ≡ CameBack place ∷ es) × StandsAt es place id) → follow_peer new ≡ follow_peer es
back_peer es new id (inl same) = ap follow_peer same
back_peer es new id (inr back) = ap follow_peer back.1

-- where no row waits, and all is saved, the program has the text of the peer
pub saved_text : (tracked : Option Tracked) (pending : Option TextRow) (shown : List (List ℕ)) (es new : List FollowEvent) → pending ≡ None → ∥ IsInStep tracked pending shown ∥₁
    → ∥ ShowsText shown es ∥₁ → IsSavedAndTold es new → ∥ HasText tracked (text (follow_peer new)) ∥₁
saved_text tracked pending shown es new none step h saved =
    ∥∥₁_elim h ∥∥₁_prop (λ (shows : ShowsText shown es).
    subst (λ (pieces : List (List ℕ)). ∥ HasText tracked pieces ∥₁) (shows ∙ ap text (sym (saved_peer es new saved))) (has_text tracked pending shown none step))
