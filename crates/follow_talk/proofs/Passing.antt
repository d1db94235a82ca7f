-- Messages that are passed, one more at a time.
use Rattle.std.proofs.Common.{◌≡◌, ℕ, List, [], ◌∷◌, ◌++◌, refl, sym, ◌∙◌, ap, append_assoc}
use Rattle.std.proofs.lemmas.List.{append-nil}
use Rattle.edit_message.specs.declared.message.Message.{Message}
use Rattle.peer_core.specs.Peer.{Peer}
use Rattle.follow_core.specs.declared.event.FollowEvent.{FollowEvent}
use Rattle.follow_core.specs.declared.event.FollowEvent.TheVariants.{Passed}
use Rattle.follow_core.specs.Past.{follow_peer}
use Rattle.follow_talk.specs.Sending.{behind_passes, own_frame, own_frames, PassesFrames}

-- the last pass happened behind the others
passes_snoc : (ms : List Message) (m : Message) (es : List FollowEvent) → behind_passes (ms ++ m ∷ []) es ≡ Passed m ∷ behind_passes ms es
passes_snoc [] m es = refl
passes_snoc (x ∷ xs) m es = passes_snoc xs m (Passed x ∷ es)

-- passes leave the peer
peer_behind : (ms : List Message) (es : List FollowEvent) → follow_peer (behind_passes ms es) ≡ follow_peer es
peer_behind [] es = refl
peer_behind (x ∷ xs) es = peer_behind xs (Passed x ∷ es)

-- the last frame stands behind the others
frames_snoc : (site : ℕ) (ms : List Message) (m : Message) → own_frames site (ms ++ m ∷ []) ≡ own_frames site ms ++ own_frame site m
frames_snoc site [] m = append-nil (own_frame site m)
frames_snoc site (x ∷ xs) m = rw (frames_snoc site xs m) (sym (append_assoc (own_frame site x) (own_frames site xs) (own_frame site m)))

pub none_passed : (es : List FollowEvent) (frames : List ℕ) → frames ≡ [] → PassesFrames es es frames
none_passed es frames none = record { items = []; passed = refl; framed = none }

-- one more is passed, and its frame, if it is the device's own, stands behind the others
pub one_passed : (m : Message) (old mid new : List FollowEvent) (between after : List ℕ) → PassesFrames old mid between → new ≡ Passed m ∷ mid
    → after ≡ between ++ own_frame (follow_peer mid).site m → PassesFrames old new after
one_passed m old mid new between after h passed framed =
    let same : (follow_peer mid).site ≡ (follow_peer old).site = ap (λ (es : List FollowEvent). (follow_peer es).site) h.passed ∙ ap (λ (p : Peer). p.site) (peer_behind h.items old) in
    record {
      items = h.items ++ m ∷ [];
      passed = passed ∙ ap (λ (es : List FollowEvent). Passed m ∷ es) h.passed ∙ sym (passes_snoc h.items m old);
      framed = framed ∙ ap (λ (bs : List ℕ). bs ++ own_frame (follow_peer mid).site m) h.framed
          ∙ ap (λ (site : ℕ). own_frames (follow_peer old).site h.items ++ own_frame site m) same
          ∙ sym (frames_snoc (follow_peer old).site h.items m);
    }
