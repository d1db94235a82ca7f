use Rattle.std.proofs.Common.{◌≡◌, length, arith}
use Rattle.line_input.proofs.Readings.{gives_status, gives_steps, gives_cause}
use Rattle.line_input.proofs.reading.read_steps.Goals as goal

pub input_end-end-requires-clause-status : goal.input_end-end-requires-clause-status
input_end-end-requires-clause-status g c =
    let v = c.into_steps-steps.result in
    let counted : c.len.result ≡ length v.items = omega (arith, v.ok.0) in
    gives_status _ _ _ _ _ _ _ c.new.ensures c.into_steps-steps.ensures counted c.run_world-lines.ensures.ran c.run_world-lines.ensures.write_cause

pub returns-clause-read : goal.returns-clause-read
returns-clause-read g c =
    let v = c.into_steps-steps.result in
    let counted : c.len.result ≡ length v.items = omega (arith, v.ok.0) in
    gives_steps _ _ _ _ _ _ _ c.new.ensures c.into_steps-steps.ensures counted c.run_world-lines.ensures.ran _ _ c.input_end-end.ensures
    c.told_steps-steps.ensures.none c.told_steps-steps.ensures.all

pub returns-clause-cause : goal.returns-clause-cause
returns-clause-cause g c = gives_cause _ _ _ _ _ c.input_end-end.ensures c.run_world-lines.ensures.read_cause
