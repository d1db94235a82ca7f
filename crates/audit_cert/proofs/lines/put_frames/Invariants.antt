use Rattle.std.proofs.Common.{◌≡◌, ◌++◌, drop, length}
use Rattle.std.specs.Prelude.{IsTrue}
use Rattle.std.specs.List.{flat_map, list_all}
use Rattle.audit_cert.specs.Audit.{messages_of_frames}
use Rattle.audit_cert.specs.Basis.{may_be_judged, message_bytes}
use Rattle.audit_cert.proofs.lines.put_frames.Given as goal

abbrev pub invariant-loop-frame : goal.invariant-loop-frame
invariant-loop-frame g l =
    let names = g.P.Places.names l.judging.places.now in
    let log = l.judging.log.now in
    record {
      judged : IsTrue (list_all (may_be_judged names (length log)) (messages_of_frames (drop l.frame-index l.frames)));
      written : l.out.items ++ flat_map (message_bytes names log) (messages_of_frames (drop l.frame-index l.frames))
          ≡ l.fn.out.items ++ flat_map (message_bytes names log) (messages_of_frames l.frames);
    }
