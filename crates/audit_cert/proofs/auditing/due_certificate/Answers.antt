use Rattle.std.proofs.Common.{◌≡◌, List, ◌++◌, length, ap, ◌∙◌}
use Rattle.std.specs.List.{flat_map, list_all}
use Rattle.element_name.specs.Name.{Name, are_distinct}
use Rattle.coop_request.specs.History.{text_order}
use Rattle.policy_book.specs.Entry.{Entry}
use Rattle.edit_message.specs.declared.message.Message.{Message}
use Rattle.edit_message.specs.Message.{requests_of}
use Rattle.peer_tables.proofs.JournalLemmas.{history_law}
use Rattle.audit_cert.specs.Basis.{may_be_judged, message_bytes}
use Rattle.audit_cert.specs.Audit.{messages_of_frames}
use Rattle.audit_cert.proofs.LineLists.{all_judgeable, written}
use Rattle.audit_cert.proofs.Audits.{order_once}
use Rattle.audit_cert.proofs.auditing.due_certificate.Goals as goal

pub of-requires : goal.of-requires
of-requires c =
    let J : List Message = messages_of_frames c.args.frames.now in
    let basis = c.requires.basis in
    ap are_distinct (c.in_ok-names.ensures ∙ basis.elements) ∙ order_once (requests_of J) (history_law J basis.within.journal_is)

pub put_frames-requires-clause-judged : goal.put_frames-requires-clause-judged
put_frames-requires-clause-judged c =
    let J : List Message = messages_of_frames c.args.frames.now in
    let log : List Entry = c.args.basis.now.log in
    let basis = c.requires.basis in
    ap (λ (ns : List Name). list_all (may_be_judged ns (length log)) J) (c.in_ok-places.ensures ∙ c.in_ok-names.ensures ∙ basis.elements)
    ∙ ap (λ (L : List Entry). list_all (may_be_judged (text_order (requests_of J)) (length L)) J) basis.entries
    ∙ all_judgeable J basis.within.journal_is

pub returns : goal.returns
returns c =
    let J : List Message = messages_of_frames c.args.frames.now in
    let kept = c.args.basis.now in
    let ranked : c.in_ok-places.places ≡ kept.elements = c.in_ok-places.ensures ∙ c.in_ok-names.ensures in
    written J kept.log kept.elements kept.ids c.requires.basis
    c.len.result c.from.result c.names-2.result.now c.new-due.result.items c.put_counts.new.out.items c.put_elements.new.out.items c.put_frames.new.out.items
    c.new-due.ensures.items c.len.ensures (c.from.ensures ∙ c.len-2.ensures.count) (c.names-2.ensures ∙ ranked)
    c.in_ok-put_counts.ensures c.in_ok-put_elements.ensures
    (c.in_ok-put_frames.ensures ∙ ap (λ (ns : List Name). c.put_elements.new.out.items ++ flat_map (message_bytes ns kept.log) J) ranked)
