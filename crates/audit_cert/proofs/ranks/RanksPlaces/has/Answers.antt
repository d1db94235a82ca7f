use Rattle.std.proofs.Common.{◌≡◌, length, ap, ◌∙◌, arith}
use Rattle.std.specs.Prelude.{nat_lt}
use Rattle.element_name.specs.Places.{place_in}
use Rattle.audit_cert.proofs.Rankings.{place_below}
use Rattle.audit_cert.proofs.ranks.RanksPlaces.has.Goals as goal

pub returns-clause-found : goal.returns-clause-found
returns-clause-found c =
    let names = c.args.self.now in
    let size : c.len.result ≡ length names = omega (arith, c.len.ensures, c.self.inside.names.ok, ap length c.self.view_is) in
    ap (λ k. nat_lt k c.len.result) c.place.ensures.place ∙ ap (nat_lt (place_in names c.args.n)) size ∙ place_below names c.args.n
