use Rattle.std.proofs.Common.{◌≡◌, length, refl, arith}
use Rattle.form_watch.proofs.Forms.{form_wrote, nothing_wrote, bad_wrote, long_wrote, fault_wrote}
use Rattle.form_watch.proofs.form.watch_form.Goals as goal

pub returns-in-BadLine-clause-watched : goal.returns-in-BadLine-clause-watched
returns-in-BadLine-clause-watched g c =
    let steps = c.read_steps-steps.result.steps in
    let counted : c.len.result ≡ length steps.items = omega (arith, steps.ok.0) in
    form_wrote c.args.site c.args.reads _ _ _ _ _ _ _ steps.items steps.items _ _ _ _ c.read_steps-steps.ensures.read c.read_steps-steps.ensures.cause refl counted c.watch_end.ensures.end c.in-BadLine.is
    (bad_wrote _ _ _ _ _ _ _ c.tell_bad_line.ensures.says)

pub returns-in-TooLong-clause-watched : goal.returns-in-TooLong-clause-watched
returns-in-TooLong-clause-watched g c =
    let steps = c.read_steps-steps.result.steps in
    let counted : c.len.result ≡ length steps.items = omega (arith, steps.ok.0) in
    form_wrote c.args.site c.args.reads _ _ _ _ _ _ _ steps.items steps.items _ _ _ _ c.read_steps-steps.ensures.read c.read_steps-steps.ensures.cause refl counted c.watch_end.ensures.end c.in-TooLong.is
    (long_wrote _ _ _ _ _ _ c.say.ensures.says)

pub returns-in-ReadFault-clause-watched : goal.returns-in-ReadFault-clause-watched
returns-in-ReadFault-clause-watched g c =
    let steps = c.read_steps-steps.result.steps in
    let counted : c.len.result ≡ length steps.items = omega (arith, steps.ok.0) in
    form_wrote c.args.site c.args.reads _ _ _ _ _ _ _ steps.items steps.items _ _ _ _ c.read_steps-steps.ensures.read c.read_steps-steps.ensures.cause refl counted c.watch_end.ensures.end c.in-ReadFault.is
    (fault_wrote _ _ _ _)

pub returns-clause-watched : goal.returns-clause-watched
returns-clause-watched g c =
    let steps = c.read_steps-steps.result.steps in
    let counted : c.len.result ≡ length steps.items = omega (arith, steps.ok.0) in
    form_wrote c.args.site c.args.reads _ _ _ _ _ _ _ steps.items steps.items _ _ _ _ c.read_steps-steps.ensures.read c.read_steps-steps.ensures.cause refl counted c.watch_end.ensures.end c.in-NoMemory.is
    (nothing_wrote _ _ _ _ _)
