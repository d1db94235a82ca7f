use Rattle.std.proofs.Common.{ap}
use Rattle.peer_lock.specs.KnownPass.{KnownPass}
use Rattle.screen_read.proofs.Shows.{published_as, first_page}
use Rattle.screen_read.proofs.screen.screen_of.Goals as goal

pub invariant_of-result : goal.invariant_of-result
invariant_of-result g c = published_as c.of.result.value.view c.args.pass.now.view c.args.writer.pages _ (ap (λ (k : KnownPass). k.view) c.of.ensures) c.requires (first_page c.args.pass.now.view)

pub returns-clause-published : goal.returns-clause-published
returns-clause-published g c = published_as c.of.result.value.view c.args.pass.now.view c.args.writer.pages _ (ap (λ (k : KnownPass). k.view) c.of.ensures) c.requires (first_page c.args.pass.now.view)
