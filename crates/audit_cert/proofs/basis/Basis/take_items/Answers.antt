use Rattle.std.proofs.Common.{List, [], ◌∷◌, ◌++◌, take, refl, sym, ap, subst, ◌∙◌, arith}
use Rattle.std.proofs.lemmas.List.{take_all}
use Rattle.edit_message.specs.declared.message.Message.{Message}
use Rattle.peer_tables.specs.Journal.{IsWithin}
use Rattle.audit_cert.specs.Basis.{IsBasisOf}
use Rattle.audit_cert.proofs.Prefixes.{one_further}
use Rattle.audit_cert.proofs.basis.Basis.take_items.Goals as goal

pub returns-then-not-taken-clause-fail : goal.returns-then-not-taken-clause-fail
returns-then-not-taken-clause-fail g c =
    let now = c.loop-place in
    let J = c.args.journal.now in
    let more = one_further J now.place c.index-journal-place.result c.loop-place-test.true c.index-journal-place.is in
    let is = c.in_ok-message.ensures in (
      now.place,
      refl,
      record {
        there = c.loop-place-test.true;
        before = now.invariant.within;
        fails = subst (λ (K : List Message). ¬ IsWithin K) (ap (λ (m : Message). take now.place J ++ m ∷ []) is ∙ sym more)
            (c.in_ok-taken.ensures.refused c.if-not-taken.true (take now.place J) now.invariant);
      },
    )

pub loop-place-preserved : goal.loop-place-preserved
loop-place-preserved g c =
    let now = c.loop-place in
    let J = c.args.journal.now in
    let more = one_further J now.place c.index-journal-place.result c.loop-place-test.true c.index-journal-place.is in
    let is = c.in_ok-message.ensures in
    subst (λ (K : List Message). IsBasisOf K c.take.new.self.log (g.E.Elements.names c.take.new.self.elements) c.take.new.self.ids) (ap (λ (m : Message). take now.place J ++ m ∷ []) is ∙ sym more)
    (c.in_ok-taken.ensures.taken c.if-not-taken.false (take now.place J) now.invariant)

pub returns-clause-ok : goal.returns-clause-ok
returns-clause-ok g c =
    let now = c.loop-place in
    let J = c.args.journal.now in
    subst (λ (K : List Message). IsBasisOf K now.self.log (g.E.Elements.names now.self.elements) now.self.ids) (take_all now.place J (omega (arith, c.loop-place-test.false))) now.invariant
