use Rattle.std.proofs.Common.{◌++◌, ◌∷◌, [], List, length, ◌<◌, sym, subst, ◌∙◌, arith}
use Rattle.std.proofs.lemmas.List.{take_more}
use Rattle.edit_message.specs.declared.message.Message.{Message}
use Rattle.peer_tables.specs.Journal.{IsWithin}
use Rattle.peer_core.proofs.peer.restoring.take_all.Goals as goal

-- `search` gives up here, past what it is told of each part of the journal that is let go
pub returns-then-not-taken-clause-fail : goal.returns-then-not-taken-clause-fail
returns-then-not-taken-clause-fail c =
    let messages : List Message = c.args.messages.now in
    let there : c.loop-place.place < length messages = omega (arith, c.loop-place-test.true) in
    let m : Message = c.index-messages-place.result in
    record {
      there = there;
      before = subst IsWithin c.loop-place.invariant c.len-before.ensures.within;
      fails = λ within. c.in_ok-taken.ensures.refused c.if-not-taken.true (subst IsWithin (take_more messages c.loop-place.place m there ∙ (λ i. sym c.loop-place.invariant i ++ sym c.index-messages-place.is i ∷ [])) within);
    }
