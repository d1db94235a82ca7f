use Rattle.std.proofs.Common.{◌≡◌, take, map}
use Rattle.edit_frame.specs.declared.frame.Frame.TheVariants.{Item}
use Rattle.audit_cert.specs.Basis.{IsBasisOf}
use Rattle.audit_cert.specs.Audit.{messages_of_frames}
use Rattle.audit_cert.proofs.basis.Basis.take_frames.Given as goal

abbrev pub invariant-loop-place : goal.invariant-loop-place
invariant-loop-place g l =
    record {
      basis : IsBasisOf (messages_of_frames (take l.place l.frames)) l.self.log (g.E.Elements.names l.self.elements) l.self.ids;
      items : take l.place l.frames ≡ map Item (messages_of_frames (take l.place l.frames));
    }
