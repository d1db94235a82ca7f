use Rattle.std.proofs.Common.{◌≡◌, ℕ, List, ◌++◌, sym, ap, subst, ◌∙◌, length}
use Rattle.std.specs.Prelude.{OnOk}
use Rattle.std.proofs.lemmas.List.{append-nil}
use Rattle.audit_cert.proofs.KeptFrameLemmas.{nothing_of, lines_of, judged_here}
use Rattle.audit_cert.proofs.lines.put_frame.Goals as goal

pub put_message-requires-clause-judged : goal.put_message-requires-clause-judged
put_message-requires-clause-judged g c =
    judged_here (g.P.Places.names c.args.judging.now.places.now) (length c.args.judging.now.log.now) c.args.frame.now c.in-Some.message (sym c.in_ok-item.ensures ∙ c.in-Some.is) c.requires.judged

pub returns-in-Some : goal.returns-in-Some
returns-in-Some g c =
    let names = g.P.Places.names c.args.judging.now.places.now in
    subst (λ (xs : List ℕ). OnOk c.put_message.result (c.put_message.new.out.items ≡ c.args.out.now.items ++ xs))
    (lines_of names c.args.judging.now.log.now c.args.frame.now c.in-Some.message (sym c.in_ok-item.ensures ∙ c.in-Some.is)) c.put_message.ensures

pub returns-in-None : goal.returns-in-None
returns-in-None g c =
    let names = g.P.Places.names c.args.judging.now.places.now in
    let nothing = nothing_of names c.args.judging.now.log.now c.args.frame.now (sym c.in_ok-item.ensures ∙ c.in-None.is) in
    sym (append-nil c.args.out.now.items) ∙ ap (λ (xs : List ℕ). c.args.out.now.items ++ xs) (sym nothing)
