use Rattle.std.proofs.Common.{◌≡◌, ◌+◌, ◌-◌, map, sym, ap, ◌∙◌, arith}
use Rattle.std.specs.List.{range_with_len}
use Rattle.element_name.specs.Cases.{first_of}
use Rattle.check_remote.specs.State.{denial_at}
use Rattle.audit_cert.specs.Grants.{granting_at, put_in_front, grants_over}
use Rattle.audit_cert.proofs.GrantRuns.{grant}
use Rattle.audit_cert.proofs.GrantWalks.{run_to_next}
use Rattle.audit_cert.proofs.WalkedStates.{granted_to_next}
use Rattle.audit_cert.proofs.findings.run_from.Goals as goal

pub returns : goal.returns
returns g c =
    let judging = c.args.judging.now in
    let names = g.P.Places.names judging.places.now in
    let log = judging.log.now in
    let a = c.args in
    let next = c.next-next.result in
    let found = c.next-next.ensures in
    let back : next - 1 + 1 ≡ next = omega (arith, found.from) in
    record {
      some = omega (arith, found.from);
      within = omega (arith, found.from, found.end);
      state = granted_to_next names log a.request judging.table.now a.first next a.end a.by _ c.requires.table c.requires.within c.user.ensures found.from found.end found.none
          c.requires.granted c.requires.other
          ∙ ap (λ n. first_of (map (denial_at names log a.request) (range_with_len n (a.end - n)))) (sym back);
      grants = ap (λ n. put_in_front (grant a.first (next - 1) a.by) (grants_over (granting_at names log a.request) (range_with_len n (a.end - n)))) back
          ∙ run_to_next names log a.request judging.table.now a.first next a.end a.by _ c.requires.table c.requires.within c.user.ensures found.from found.end found.none
          c.requires.granted;
    }
