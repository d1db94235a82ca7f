use Rattle.std.specs.Prelude.{⊤}
use Rattle.line_engine.proofs.Pumping.{ran_nothing}
use Rattle.form_certificate.specs.Certify.{certify_output, certify_part}
use Rattle.form_certificate.proofs.CertifierStreams.{certified_ran}
use Rattle.form_certificate.proofs.certifying.certify_stream.Goals as goal

pub returns-in_default-clause-ran : goal.returns-in_default-clause-ran
returns-in_default-clause-ran g c = ran_nothing (certify_output c.args.site) certify_part (λ cut bytes. ⊤) _ _

pub returns-clause-ran : goal.returns-clause-ran
returns-clause-ran g c =
    let ran = c.feed_intake-status.ensures.ran in
    (ran.0, ran.1, certified_ran c.args.site (record { peer = c.in-Ok.peer }) c.in-Ok.ensures _ _ _ _ _ _ _ _ ran.2)
