use Rattle.std.proofs.Common.{List, sym, subst}
use Rattle.edit_frame.specs.declared.frame.Frame.{Frame}
use Rattle.audit_cert.specs.Audit.{IsClosed}
use Rattle.audit_cert.proofs.Audits.{fault_by, no_fault, if_err}
use Rattle.audit_cert.proofs.auditing.audit.Goals as goal

pub returns-in-Err-clause-refused : goal.returns-in-Err-clause-refused
returns-in-Err-clause-refused c = λ other counts certified. no_fault c.args.bytes.now counts certified c.in-Err.fault c.in-Err.ensures.fault other

pub returns-in-Ok-clause-refused : goal.returns-in-Ok-clause-refused
returns-in-Ok-clause-refused c =
    let bytes = c.args.bytes.now in
    let told = c.in-Ok.opened.told.now in
    let frames = c.deref.result.now in
    let closed = subst (λ (fs : List Frame). IsClosed bytes fs told) (sym c.deref.ensures.value) c.in-Ok.ensures.ok in
    if_err c.check.result (λ fault h other counts certified. no_fault bytes counts certified fault (fault_by bytes told frames fault closed h) other) c.check.ensures.fault
