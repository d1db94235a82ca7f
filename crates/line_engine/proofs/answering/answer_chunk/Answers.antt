use Rattle.std.proofs.Common.{◌≡◌, arith, ◌∙◌, sym}
use Rattle.line_engine.specs.declared.form.Next.TheVariants.{Answered, Bad, Waiting}
use Rattle.line_engine.proofs.Gathering.{gives_up, breaks_off, gathers_more, ends_bad, takes_all}
use Rattle.line_engine.proofs.answering.answer_chunk.Goals as goal

pub returns-in-Err-answer-clause-err : goal.returns-in-Err-answer-clause-err
returns-in-Err-answer-clause-err g c =
    gives_up c.answers.invariant.run c.answer.new.form _ _ _ (c.deref.ensures.value ∙ c.in-Err-answer.ensures.kept) c.give_up.ensures.fails c.give_up.ensures.begins

pub returns-in-Err-offer_due-clause-err : goal.returns-in-Err-offer_due-clause-err
returns-in-Err-offer_due-clause-err g c =
    breaks_off c.answers.invariant.run c.answer.new.form c.answer.new.form c.answer.new.gathered.items c.in-Ok.next _ _ c.in-Ok.ensures.answers
    c.in-Err-offer_due.ensures.fails c.in-Err-offer_due.ensures.err

pub answers-preserved : goal.answers-preserved
answers-preserved g c =
    let answers = rw c.in-Answered.is at c.in-Ok.ensures.answers in
    record {
      run = gathers_more c.answers.invariant.run c.answer.new.form c.answer.new.gathered.items c.offer_due.new.gathered.items _ c.in_default-offer_due.ensures.ok answers;
      empty = c.in-Ok.ensures.empty;
      load = omega (arith, c.answers.invariant.load, c.answer.ensures.load);
      faults = c.in_default-offer_due.ensures.cause.counted ∙ c.answers.invariant.faults;
    }

pub returns-in-Bad-clause-err : goal.returns-in-Bad-clause-err
returns-in-Bad-clause-err g c =
    let answers = rw c.in-Bad.is at c.in-Ok.ensures.answers in
    ends_bad c.answers.invariant.run c.answer.new.form c.answer.new.gathered.items c.offer_due.new.gathered.items _ c.in_default-offer_due.ensures.ok answers
    (c.in_default-offer_due.ensures.all (λ e. let other : Bad ≡ Answered = sym c.in-Bad.is ∙ e in cc))

pub returns-in-Waiting-clause-ok : goal.returns-in-Waiting-clause-ok
returns-in-Waiting-clause-ok g c =
    let answers = rw c.in-Waiting.is at c.in-Ok.ensures.answers in
    takes_all c.answers.invariant.run c.answer.new.form c.answer.new.gathered.items c.offer_due.new.gathered.items _ c.in_default-offer_due.ensures.ok answers
    (c.in_default-offer_due.ensures.all (λ e. let other : Waiting ≡ Answered = sym c.in-Waiting.is ∙ e in cc))
