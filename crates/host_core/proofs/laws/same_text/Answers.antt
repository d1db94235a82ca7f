use Rattle.host_core.proofs.Texts.{replay, page}
use Rattle.host_core.proofs.Samples.{page_sample}
use Rattle.host_core.proofs.laws.same_text.Goals as goal

pub returns-clause-replay : goal.returns-clause-replay
returns-clause-replay c = replay

pub returns-clause-page : goal.returns-clause-page
returns-clause-page c = page c.same_sets.ensures

pub returns-clause-sample : goal.returns-clause-sample
returns-clause-sample c = page_sample
