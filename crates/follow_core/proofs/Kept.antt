-- What a follower keeps where its keeper changes.
use Rattle.std.proofs.Common.{◌≡◌, ◌⊎◌, ℕ, ◌<◌, ◌≤◌, inl, inr, true, false, List, [], ◌∷◌, length, arith, ap, sym, subst, ◌∙◌, eq-eqb}
use Rattle.std.specs.Prelude.{option_map, unwrap_or}
use Rattle.std.specs.declared.option.Option.{Option}
use Rattle.std.proofs.lemmas.Bool.{cases_lt}
use Rattle.std.proofs.lemmas.Option.{slice_get_past}
use Rattle.element_name.specs.Name.{Name}
use Rattle.edit_message.specs.declared.message.Message.{Message}
use Rattle.edit_message.specs.declared.message.Message.TheVariants.{Coop, Admin}
use Rattle.edit_message.specs.declared.message.Key.TheVariants as keys
use Rattle.edit_message.specs.Message.{key_of}
use Rattle.peer_step.specs.declared.step.LocalEdit.{LocalEdit}
use Rattle.peer_step.specs.declared.step.Step.{Step}
use Rattle.peer_core.specs.Peer.{Peer}
use Rattle.peer_core.specs.After.{peer_after}
use Rattle.follow_core.specs.declared.event.FollowEvent.{FollowEvent}
use Rattle.follow_core.specs.declared.event.FollowEvent.TheVariants.{Began, Made}
use Rattle.text_change.specs.Told.{AreRowsOf}
use Rattle.follow_core.specs.Past.{follow_peer, is_request_of, is_own_at, back_of}
use Rattle.follow_core.specs.Happens.{StandsAt, Owes}

-- a keeper's peer is that of what has happened
abbrev pub SamePeer : Peer → List FollowEvent → Type 0
SamePeer p es = Began p 0 ∷ [] ≡ Began (follow_peer es) 0 ∷ []

abbrev pub began : Peer → List FollowEvent
began p = Began p 0 ∷ []

-- and is the very peer
pub same_peer : (p : Peer) (es : List FollowEvent) → SamePeer p es → p ≡ follow_peer es
same_peer p es h = cc

-- after a step
pub made_peer : (p q : Peer) (step : Step) (es new : List FollowEvent) → SamePeer p es → q ≡ peer_after p step → new ≡ Made step ∷ es → SamePeer q new
made_peer p q step es new h after grown = ap began (after ∙ ap (λ (r : Peer). peer_after r step) (same_peer p es h) ∙ sym (ap follow_peer grown))

-- where the peer and what has happened of it stay
pub kept_peer : (p q : Peer) (es new : List FollowEvent) → SamePeer p es → q ≡ p → follow_peer new ≡ follow_peer es → SamePeer q new
kept_peer p q es new h same stays = ap began (same ∙ same_peer p es h ∙ sym stays)

-- the rows of a step are those of what has happened
pub rows_are : (p q : Peer) (es new : List FollowEvent) (step : Step) (rows : List LocalEdit) → SamePeer p es → q ≡ peer_after p step → new ≡ Made step ∷ es
    → AreRowsOf p q rows → AreRowsOf (follow_peer es) (follow_peer new) rows
rows_are p q es new step rows h after grown told =
    subst (λ (x : Peer). AreRowsOf x (follow_peer new) rows) (same_peer p es h)
    (subst (λ (y : Peer). AreRowsOf p y rows) (same_peer q new (made_peer p q step es new h after grown)) told)

-- what stands at a place and has the name of the device's own request is one
pub own_there : (es : List FollowEvent) (place : ℕ) (id : Name) → StandsAt es place id → id.site ≡ (follow_peer es).site → is_own_at es place ≡ true
own_there es place id stands site =
    ap (λ (o : Option Message). unwrap_or (option_map (is_request_of (follow_peer es).site) o) false) stands.1 ∙ by stands.0 stands.2
  where
    by : (m : Message) → key_of m ≡ keys.Coop id → is_request_of (follow_peer es).site m ≡ true
    by (Coop q) key = let same : q.id ≡ id = cc in eq-eqb q.id.site (follow_peer es).site (ap (λ (n : Name). n.site) same ∙ site)
    by (Admin e) key = absurd cc

-- where none of the messages behind what came back is the device's own nothing is owed
pub owes_none : (es : List FollowEvent) (n : ℕ) → length (follow_peer es).journal ≤ n → ((k : ℕ) → back_of es ≤ k → k < n → is_own_at es k ≡ false) → Owes es → false ≡ true
owes_none es n all none owes = sym (by owes.0 owes.1 (cases_lt owes.0 n)) ∙ owes.2
  where
    by : (place : ℕ) → back_of es ≤ place → (place < n) ⊎ (n ≤ place) → is_own_at es place ≡ false
    by place behind (inl early) = none place behind early
    by place behind (inr late) =
        ap (λ (o : Option Message). unwrap_or (option_map (is_request_of (follow_peer es).site) o) false) (slice_get_past (follow_peer es).journal place (omega arith))
