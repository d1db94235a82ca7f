use Rattle.form_certificate.proofs.AuditForms.{told_holds, told_fault}
use Rattle.form_certificate.proofs.auditing.put_audit_answer.Goals as goal

pub returns-in_ok-put_holds-in-Ok-clause-told : goal.returns-in_ok-put_holds-in-Ok-clause-told
returns-in_ok-put_holds-in-Ok-clause-told c =
    told_holds c.args.bytes.now c.in-Ok.counts c.args.out.now.items c.put_holds.new.out.items c.in-Ok.ensures.certified c.in_ok-put_holds-in-Ok.ensures c.requires

pub returns-in-Err-clause-told : goal.returns-in-Err-clause-told
returns-in-Err-clause-told c =
    told_fault c.put_fault.result c.args.bytes.now c.in-Err.fault c.put_fault.new.out.items c.in-Err.ensures.fault c.put_fault.ensures.told c.put_fault.ensures.whole
