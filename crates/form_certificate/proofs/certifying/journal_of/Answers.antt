use Rattle.form_certificate.proofs.Certified.{one_more}
use Rattle.form_certificate.proofs.certifying.journal_of.Goals as goal

pub loop-i-preserved : goal.loop-i-preserved
loop-i-preserved c =
    one_more c.args.peer.now.journal c.loop-i.i c.in-Some.item c.loop-i.items.items c.push.new.self.items c.loop-i.invariant c.in-Some.ensures c.in_ok-push.ensures.items
