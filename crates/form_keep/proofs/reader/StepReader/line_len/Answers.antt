use Rattle.std.proofs.Common.{inl, inr}
use Rattle.std.proofs.lemmas.Result.{err_from_is_err_and}
use Rattle.line_engine.proofs.Bytes.{rest_is}
use Rattle.form_keep.proofs.Reading.{found_line, whole_line, refill_stops}
use Rattle.form_keep.proofs.reader.StepReader.line_len.Goals as goal
use Rattle.form_keep.proofs.reader.StepReader.line_len.Goals.{then-self-via-then-self, then-self-via-else-self+then-len-gt-MAX_LINE}

pub returns-in-Some-clause-line : goal.returns-in-Some-clause-line
returns-in-Some-clause-line g c =
    let r = c.chunks.self in
    found_line r _ c.in-Some.len (rest_is c.deref.result.now r.held.items r.at c.deref.ensures.value) c.in-Some.ensures.within c.in-Some.ensures.found c.in-Some.ensures.first

pub returns-then-self-clause-line : goal.returns-then-self-clause-line
returns-then-self-clause-line g c =
    let r = c.chunks.self in
    whole_line r _ (rest_is c.deref.result.now r.held.items r.at c.deref.ensures.value) c.in_default.ensures.none
    (elim c.then-self.branch [
      | then-self-via-then-self w ↦ inl w.if-self.true
      | then-self-via-else-self+then-len-gt-MAX_LINE w ↦ inr w.if-len-gt-MAX_LINE.true
    ])

pub returns-in_err-refill-clause-stops : goal.returns-in_err-refill-clause-stops
returns-in_err-refill-clause-stops g c =
    let p = err_from_is_err_and c.from_residual.result c.from_residual.ensures.1 in
    let r = c.chunks.self in
    rw (p.1, p.2) (λ left steps so_far. refill_stops left (g.S.Source.left c.chunks.source) (g.S.Source.left c.refill.new.source) r steps _ (c.chunks.invariant.read left steps so_far) c.if-self.false
    (rest_is c.deref.result.now r.held.items r.at c.deref.ensures.value) c.in_default.ensures.none c.if-len-gt-MAX_LINE.false c.in_err-refill.field-0.0 c.in_err-refill.ensures.stops)
