use Rattle.std.proofs.Common.{◌≡◌, ◌++◌, drop, length}
use Rattle.std.specs.Prelude.{IsTrue}
use Rattle.std.specs.List.{flat_map, list_all}
use Rattle.audit_cert.specs.Basis.{may_be_judged, message_bytes}
use Rattle.audit_cert.proofs.lines.put_requests.Given as goal

abbrev pub invariant-loop-item : goal.invariant-loop-item
invariant-loop-item g l =
    let names = g.P.Places.names l.judging.places.now in
    let log = l.judging.log.now in
    record {
      judged : IsTrue (list_all (may_be_judged names (length log)) (drop l.item-index l.journal));
      written : l.out.items ++ flat_map (message_bytes names log) (drop l.item-index l.journal)
          ≡ l.fn.out.items ++ flat_map (message_bytes names log) l.journal;
    }
