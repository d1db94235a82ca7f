use Rattle.std.proofs.Common.{sym, ◌∙◌}
use Rattle.host_core.proofs.Refused.{told}
use Rattle.host_core.proofs.host.Host.ask.Goals as goal

pub returns-in-Some-clause-cause : goal.returns-in-Some-clause-cause
returns-in-Some-clause-cause g c = told c.args.self.now.register c.args.link c.args.step c.in-Some.refusal (sym c.ask_refusal.ensures ∙ c.in-Some.is)
