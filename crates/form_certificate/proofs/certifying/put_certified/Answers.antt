use Rattle.std.proofs.Common.{◌∙◌}
use Rattle.form_certificate.proofs.Certified.{put_together}
use Rattle.form_certificate.proofs.certifying.put_certified.Goals as goal

pub returns : goal.returns
returns c =
    put_together c.put_certificate.result c.args.peer.now.journal c.deref.result.now c.deref-2.result.now c.args.out.now.items c.put_journal.new.out.items
    c.encode.new.out.items c.put_certificate.new.out.items (c.deref.ensures.value ∙ c.in_ok-journal.ensures.journal)
    (c.deref-2.ensures.value ∙ c.in_ok-journal.ensures.journal) c.in_ok-put_journal.ensures c.in_ok-encode.ensures.ok c.put_certificate.ensures
