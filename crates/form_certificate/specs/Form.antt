-- What the certifier writes of a stream, and what the form that audits means.
use Rattle.std.specs.Prelude.{ℕ, List, [], ◌++◌, ⊤}
use Rattle.line_engine.specs.Form.{Meaning}
use Rattle.edit_frame.specs.declared.frame.Frame.{Frame}
use Rattle.form_feed.specs.Stream.{FrameTurn}
use Rattle.form_feed.specs.Turn.{frame_turn}
use Rattle.form_certificate.specs.declared.certifying.Certifier.{Certifier}
use Rattle.form_certificate.specs.declared.auditing.Auditing.{Auditing}
use Rattle.form_certificate.specs.Certify.{certified_bytes}
use Rattle.form_certificate.specs.Audit.{audited, audit_part}

-- a frame is taken in as `feed` takes it, and nothing is written of it
abbrev pub certifier_turn : Certifier → Frame → FrameTurn Certifier
certifier_turn c f = record { reply = []; after = record { peer = (frame_turn c.peer f).after } }

-- at the end the peer's journal is certified
abbrev pub certifier_closing : Certifier → List ℕ
certifier_closing c = certified_bytes c.peer.journal

-- nothing is answered before the end
abbrev pub audit_meaning : Meaning Auditing
audit_meaning = record {
  output = λ f cut more. audited cut (f.bytes.items ++ more);
  part = λ f more. audit_part (f.bytes.items ++ more);
  leaves = λ f cut more last. ⊤;
  waits = λ f. ⊤;
}
