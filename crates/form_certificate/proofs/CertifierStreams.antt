-- What is written of a stream that a certifier takes in is what `certify` writes.
use Rattle.std.proofs.Common.{◌≡◌, ℕ, ◌+◌, ◌-◌, Bool, true, List, [], ◌∷◌, length, Option, refl, sym, ap, subst, ◌∙◌}
use Rattle.std.specs.Prelude.{is_none, ⊤}
use Rattle.element_name.specs.Cases.{when}
use Rattle.line_engine.specs.declared.status.Status.{Status}
use Rattle.line_engine.specs.Output.{Output, after_bytes, Ends}
use Rattle.line_engine.specs.Input.{is_cut, counted_bytes}
use Rattle.line_engine.specs.Engine.{Ran}
use Rattle.edit_frame.specs.declared.frame.Frame.{Frame}
use Rattle.edit_frame.specs.Reading.{stream}
use Rattle.peer_core.specs.Peer.{Peer, fresh_peer}
use Rattle.form_feed.specs.Stream.{frames_turn, counted_fault, closing, stream_ending, output_from, stream_output, stream_part, stream_after}
use Rattle.form_feed.specs.Turn.{frame_turn}
use Rattle.form_certificate.specs.declared.certifying.Certifier.{Certifier}
use Rattle.form_certificate.specs.Certify.{certified_bytes, certified_from, certify_output, certify_part}
use Rattle.form_certificate.specs.Form.{certifier_turn, certifier_closing}

-- nothing is written of the frames
none_written : (c : Certifier) (frames : List Frame) → (frames_turn certifier_turn c frames).reply ≡ []
none_written c [] = refl
none_written c (f ∷ frames) = none_written (certifier_turn c f).after frames

-- and the peer is the one that answers them
same_peer : (c : Certifier) (frames : List Frame) → (frames_turn certifier_turn c frames).after.peer ≡ (frames_turn frame_turn c.peer frames).after
same_peer c [] = refl
same_peer c (f ∷ frames) = same_peer (certifier_turn c f).after frames

output_same : (cut : Bool) (c : Certifier) (offset : ℕ) (bytes : List ℕ)
    → output_from certifier_turn certifier_closing cut c offset bytes ≡ certified_from cut c.peer offset bytes
unfolding output_from certified_from stream_after
output_same cut c offset bytes =
    let s = stream bytes in
    let ending : Peer → Output = λ p. stream_ending (closing cut (certified_bytes p.journal)) (offset + (length bytes - length s.rest)) (counted_fault cut s.rest) in
    ap (λ (l : List ℕ). after_bytes l (ending (frames_turn certifier_turn c s.frames).after.peer)) (none_written c s.frames)
    ∙ ap ending (same_peer c s.frames)

part_same : (c : Certifier) (bytes : List ℕ) → stream_part certifier_turn c bytes ≡ certify_part bytes
unfolding stream_part certify_part
part_same c bytes = let s = stream bytes in ap (λ (l : List ℕ). when (is_none (counted_fault true s.rest)) l) (none_written c s.frames)

module _ (site : ℕ) (c : Certifier) (fresh : c.peer ≡ fresh_peer site) where
  certified_output : (input : List ℕ) → stream_output certifier_turn certifier_closing c input ≡ certify_output site input
  certified_output input =
      output_same (is_cut input) c 0 (counted_bytes input) ∙ ap (λ (p : Peer). certified_from (is_cut input) p 0 (counted_bytes input)) fresh

  -- a certifier's run is one of `certify`
  pub certified_ran : (Leaves : Bool → List ℕ → Type 0) (left_old left_new sink_old sink_new : Option (List ℕ)) (status : Status) (input written : List ℕ)
      → Ran (stream_output certifier_turn certifier_closing c) (stream_part certifier_turn c) Leaves left_old left_new sink_old sink_new status input written
      → Ran (certify_output site) certify_part (λ cut bytes. ⊤) left_old left_new sink_old sink_new status input written
  certified_ran Leaves left_old left_new sink_old sink_new status input written ran = record {
    told = ran.told;
    appends = ran.appends;
    ends = subst (Ends status written) (certified_output input) ran.ends;
    at_end = ran.at_end;
    leaves = λ t. tt;
    read_fault = λ e. let fault = ran.read_fault e in (fault.0, fault.1, fault.2, sym (part_same c fault.0) ∙ fault.3, tt);
  }
