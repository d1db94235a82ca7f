use Rattle.std.proofs.Common.{◌≡◌, ◌-◌, suc, cond, List, Option, ℕ}
use Rattle.line_engine.specs.declared.limits.TheConstants.{MAX_INPUT}
use Rattle.peer_step.specs.declared.step.Step.{Step}
use Rattle.form_keep.specs.Reader.{to_pass, StepsRead}
use Rattle.form_keep.proofs.reader.StepReader.line_len.Given as goal

abbrev pub invariant-chunks : goal.invariant-chunks
invariant-chunks g l = record {
  read : (left : Option (List ℕ)) (steps : List Step) → StepsRead left (g.S.Source.left l.fn.source) l.fn.self steps → StepsRead left (g.S.Source.left l.source) l.self steps;
  budget : to_pass l.self ≡ to_pass l.fn.self;
  faults : g.S.Source.faults l.source ≡ g.S.Source.faults l.fn.source;
}

abbrev pub decreases-chunks : goal.decreases-chunks
decreases-chunks g l = cond l.self.ended 0 (suc (MAX_INPUT - l.self.count))
