use Rattle.std.proofs.Common.{◌≡◌, ℕ, List, length, ap, ◌∙◌, arith}
use Rattle.std.specs.declared.option.Option.{Option}
use Rattle.std.specs.Prelude.{position, unwrap_or}
use Rattle.element_name.specs.Name.{Name, name_eq}
use Rattle.element_name.specs.Places.{place_in}
use Rattle.tomb_seq.specs.Runs.{number_at}
use Rattle.audit_cert.proofs.Rankings.{place_found}
use Rattle.audit_cert.proofs.ranks.Ranks.place.Goals as goal

pub returns-clause-place : goal.returns-clause-place
returns-clause-place c =
    let names = c.self.inside.names.items in
    let n = c.args.n in
    let size : c.len.result ≡ length names = omega (arith, c.len.ensures, c.self.inside.names.ok) in
    c.unwrap_or.ensures
    ∙ ap (λ (o : Option ℕ). unwrap_or o c.len.result) (c.get.ensures.value ∙ ap (number_at c.self.inside.places) c.of.ensures ∙ c.self.invariant.places n)
    ∙ ap (unwrap_or (position (name_eq n) names)) size
    ∙ place_found names n
    ∙ ap (λ (ns : List Name). place_in ns n) c.self.view_is
