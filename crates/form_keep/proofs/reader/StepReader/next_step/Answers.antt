use Rattle.std.proofs.Common.{◌≡◌, ◌<◌, ◌≤◌, [], Err, length, sym, ap, ◌∙◌, arith}
use Rattle.std.proofs.lemmas.List.{length-drop, drop_all}
use Rattle.line_read.specs.Step.{step_line}
use Rattle.form_keep.specs.Reader.{unread}
use Rattle.form_keep.proofs.Reading.{whole, passed, bad, no_memory, ended_there, part_is}
use Rattle.form_keep.proofs.reader.StepReader.next_step.Goals as goal

pub returns-then-self-len-clause-none : goal.returns-then-self-len-clause-none
returns-then-self-len-clause-none g c e left steps so_far =
    let r = c.line_len.new.self in
    let none : unread r ≡ [] = drop_all r.at r.held.items (omega arith) in
    let few : length (unread r) ≤ 0 = omega (arith, ap length none) in
    whole left (g.S.Source.left c.line_len.new.source) r steps (c.in_ok-len.ensures.read left steps so_far) (ended_there r c.in_ok-len.len c.in_ok-len.ensures.line few) none

pub returns-in-Ok-clause-some : goal.returns-in-Ok-clause-some
returns-in-Ok-clause-some g c left steps so_far =
    let r = c.line_len.new.self in
    let some : 0 < length (unread r) = omega (arith, length-drop r.at r.held.items, r.within) in
    passed left (g.S.Source.left c.line_len.new.source) r steps (c.in_ok-len.ensures.read left steps so_far) c.pass.new.self c.in-Ok.step c.in_ok-len.len c.in_ok-len.ensures.line some
    (ap step_line (sym (part_is c.deref.result.now r.held.items r.at c.in_ok-len.len c.deref.ensures.value)) ∙ c.in-Ok.ensures.ok)
    c.pass.ensures.unread c.pass.ensures.number c.pass.ensures.count c.pass.ensures.ended

pub returns-in-Err-Bad-clause-stops : goal.returns-in-Err-Bad-clause-stops
returns-in-Err-Bad-clause-stops g c left steps so_far =
    let r = c.line_len.new.self in
    let some : 0 < length (unread r) = omega (arith, length-drop r.at r.held.items, r.within) in
    bad left (g.S.Source.left c.line_len.new.source) r steps (c.in_ok-len.ensures.read left steps so_far) c.in_ok-len.len c.in_ok-len.ensures.line some
    (ap step_line (sym (part_is c.deref.result.now r.held.items r.at c.in_ok-len.len c.deref.ensures.value)) ∙ c.in-Err-Bad.ensures.bad (ap Err c.in-Err-Bad.field-0-is))

pub returns-in-Err-NoMemory-clause-stops : goal.returns-in-Err-NoMemory-clause-stops
returns-in-Err-NoMemory-clause-stops g c left steps so_far =
    no_memory left (g.S.Source.left c.line_len.new.source) c.line_len.new.self steps (c.in_ok-len.ensures.read left steps so_far)
