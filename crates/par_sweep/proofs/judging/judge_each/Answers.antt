use Rattle.std.proofs.Common.{◌≡◌, ap, ◌∙◌}
use Rattle.std.proofs.lemmas.Slice.Zip.{AllZip-map}
use Rattle.rayon.proofs.ListFacts.{IfOk-then}
use Rattle.rayon.proofs.ToStd.{slice-AllZip}
use Rattle.element_name.specs.Name.{Name}
use Rattle.par_sweep.specs.Judged.{judgement_on}
use Rattle.par_sweep.proofs.judging.judge_each.Goals as goal

pub returns : goal.returns
returns g c =
    let judged = λ (n : Name). judgement_on (g.P.Places.names c.args.places.now) c.args.policy.now c.args.states.now n in
    let slice = ap (λ it. it.slice.now) c.with_min_len.ensures.base ∙ c.par_iter.ensures in
    IfOk-then c.collect.result _ _ c.collect.ensures (λ v h.
    let chain = rw (c.map.ensures.base, c.map.ensures.f) at h.1 in
    h.2 ∙ AllZip-map judged c.args.ids.now h.0 (slice-AllZip chain.0 c.args.ids.now (chain.1 ∙ slice) (λ x y. y ≡ judged x) h.0 chain.2))
