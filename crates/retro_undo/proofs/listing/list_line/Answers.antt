use Rattle.std.proofs.Common.{List, [], ◌∷◌, ◌++◌, length, ap, sym, ◌∙◌, append_assoc, arith}
use Rattle.std.proofs.lemmas.List.{append-nil}
use Rattle.element_name.specs.Name.{Name}
use Rattle.retro_undo.specs.Listed.{taken_of, taken_above}
use Rattle.retro_undo.proofs.Within.{taken_step, taken_end}
use Rattle.retro_undo.proofs.listing.list_line.Goals as goal

pub loop-request-init : goal.loop-request-init
loop-request-init c = ap (λ (n : Name). c.args.list.now.items ++ taken_above (taken_of c.args.taken) c.args.whose n c.args.states.now) c.start-above.ensures

pub loop-request-smaller : goal.loop-request-smaller
loop-request-smaller c =
    let take = taken_of c.args.taken in
    let step = taken_step take c.args.whose c.loop-request.above c.in-Some.request c.args.states.now c.next_tentative.ensures.in_order (sym c.next_tentative.ensures.found ∙ c.in-Some.is) in
    let fewer = ap (λ (names : List Name). length names) step in
    let same = ap (λ (n : Name). length (taken_above take c.args.whose n c.args.states.now)) c.id-above.ensures.value in
    omega (arith, fewer, same)

pub loop-request-preserved : goal.loop-request-preserved
loop-request-preserved c =
    let take = taken_of c.args.taken in
    let above = λ (n : Name). taken_above take c.args.whose n c.args.states.now in
    let step = taken_step take c.args.whose c.loop-request.above c.in-Some.request c.args.states.now c.next_tentative.ensures.in_order (sym c.next_tentative.ensures.found ∙ c.in-Some.is) in
    ap (λ (n : Name). c.push.new.self.items ++ above n) c.id-above.ensures.value
    ∙ ap (λ (names : List Name). names ++ above c.in-Some.request.id) c.in_ok-push.ensures.items
    ∙ append_assoc c.loop-request.list.items (c.of.result ∷ []) (above c.in-Some.request.id)
    ∙ ap (λ (n : Name). c.loop-request.list.items ++ n ∷ above c.in-Some.request.id) c.of.ensures
    ∙ ap (λ (names : List Name). c.loop-request.list.items ++ names) (sym step)
    ∙ c.loop-request.invariant

pub returns : goal.returns
returns c =
    sym (append-nil c.loop-request.list.items)
    ∙ ap (λ (names : List Name). c.loop-request.list.items ++ names)
    (sym (taken_end (taken_of c.args.taken) c.args.whose c.loop-request.above c.args.states.now (sym c.next_tentative.ensures.found ∙ c.in_default.is)))
    ∙ c.loop-request.invariant
