use Rattle.form_link.specs.Form.{Serves, Dials}
use Rattle.form_link.proofs.Complete.{complete_run}
use Rattle.form_link.proofs.laws.completeness.Goals as goal

pub returns-clause-serve : goal.returns-clause-serve
returns-clause-serve g c site links steps d d' =
    complete_run (Serves g.D.Line.Link.got g.D.Line.Link.sent g.D.Line.Link.faults g.D.Line.Link.closes site links steps d d') d d'

pub returns-clause-dial : goal.returns-clause-dial
returns-clause-dial g c site rounds end steps d d' =
    complete_run (Dials g.D.Line.Link.got g.D.Line.Link.sent g.D.Line.Link.faults g.D.Line.Link.closes site rounds end steps d d') d d'
