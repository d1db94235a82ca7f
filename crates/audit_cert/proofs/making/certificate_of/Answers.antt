use Rattle.std.proofs.Common.{List, length, ap, ◌∙◌}
use Rattle.std.specs.List.{list_all}
use Rattle.element_name.specs.Name.{Name}
use Rattle.coop_request.specs.History.{text_order}
use Rattle.policy_book.specs.Entry.{Entry}
use Rattle.edit_message.specs.declared.message.Message.{Message}
use Rattle.edit_message.specs.Message.{requests_of}
use Rattle.tomb_seq.specs.Slots.{names_in}
use Rattle.audit_cert.specs.Basis.{may_be_judged}
use Rattle.audit_cert.proofs.LineLists.{all_judgeable, written}
use Rattle.audit_cert.proofs.making.certificate_of.Goals as goal

pub put_requests-requires-clause-judged : goal.put_requests-requires-clause-judged
put_requests-requires-clause-judged c =
    let J : List Message = c.args.journal.now in
    let log : List Entry = c.args.basis.now.log in
    let basis = c.requires in
    ap (λ (ns : List Name). list_all (may_be_judged ns (length log)) J) basis.elements
    ∙ ap (λ (L : List Entry). list_all (may_be_judged (text_order (requests_of J)) (length L)) J) basis.entries
    ∙ all_judgeable J basis.within.journal_is

pub returns : goal.returns
returns c =
    let kept = c.args.basis.now in
    written c.args.journal.now kept.log (names_in kept.elements) kept.ids c.requires
    c.len.result c.from.result c.deref.result.now c.new-lines.result.items c.put_counts.new.out.items c.put_elements.new.out.items c.put_requests.new.out.items
    c.new-lines.ensures.items c.len.ensures (c.from.ensures ∙ c.len-2.ensures.count) (c.deref.ensures.value ∙ c.in_ok-names.ensures)
    c.in_ok-put_counts.ensures c.in_ok-put_elements.ensures c.in_ok-put_requests.ensures
