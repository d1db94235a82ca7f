use Rattle.std.proofs.Common.{◌∙◌, ap, List, map}
use Rattle.std.proofs.lemmas.List.{take_all}
use Rattle.element_name.specs.Name.{Name}
use Rattle.tomb_seq.specs.declared.slot.Slot.{Slot}
use Rattle.tomb_seq.specs.Slots.{names_in, marked_among, with_mark}
use Rattle.tomb_seq.proofs.MarkLemmas.{among_more, among_none, names_among}
use Rattle.tomb_seq.proofs.seq.TombSeq.mark_these.Goals as goal

pub loop-name-init : goal.loop-name-init
loop-name-init g c = among_none (g.T.Shows.is_shown c.args.test.now) c.args.self.now

pub loop-name-preserved : goal.loop-name-preserved
loop-name-preserved g c =
    let test = g.T.Shows.is_shown c.args.test.now in
    c.mark_by.ensures
    ∙ ap (λ (slots : List Slot). with_mark slots c.name-item.result (test c.name-item.result)) c.loop-name.invariant
    ∙ among_more test c.args.names.now c.loop-name.name-index c.name-item.result c.args.self.now c.loop-name-test.true c.name-item.is

pub returns-clause-slots : goal.returns-clause-slots
returns-clause-slots g c =
    let test = g.T.Shows.is_shown c.args.test.now in
    c.loop-name.invariant ∙ ap (λ (names : List Name). map (marked_among names test) c.args.self.now) (take_all c.loop-name.name-index c.args.names.now c.loop-name-test.false)

pub returns-clause-names : goal.returns-clause-names
returns-clause-names g c =
    let test = g.T.Shows.is_shown c.args.test.now in
    ap names_in (returns-clause-slots g c) ∙ names_among c.args.names.now test c.args.self.now
