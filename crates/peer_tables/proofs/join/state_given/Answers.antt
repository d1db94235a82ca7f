use Rattle.std.proofs.Common.{subst}
use Rattle.std.specs.declared.option.Option.{Option}
use Rattle.request_state.specs.declared.state.State.{State}
use Rattle.tomb_seq.specs.Slots.{names_in}
use Rattle.peer_tables.specs.Kept.{IsGivenState}
use Rattle.peer_tables.proofs.join.state_given.Goals as goal

pub returns-in-Some : goal.returns-in-Some
returns-in-Some c = subst (λ (given : Option State). IsGivenState given (names_in c.args.seq.now) c.args.log.now c.args.request.now) c.in-Some.is c.requires.given
