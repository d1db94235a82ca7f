use Rattle.std.proofs.Common.{sym, ◌∙◌}
use Rattle.policy_book.specs.declared.reach.Reach.TheVariants.{Nobody, Users}
use Rattle.retro_undo.proofs.Parts.{states_of_none, undone_of_none}
use Rattle.retro_undo.proofs.Steps.{states_reached, undone_reached}
use Rattle.retro_undo.proofs.sweep.sweep_reach.Goals as goal

pub returns-in-Nobody : goal.returns-in-Nobody
returns-in-Nobody g c =
    let names = g.P.Places.names c.args.places.now in
    let p = c.args.policy.now in
    record {
      states = sym (states_of_none names p c.args.version c.args.states.now)
          ∙ states_reached names p c.args.version c.args.reach Nobody c.args.states.now c.in-Nobody.is c.requires.outside;
      count = sym (undone_of_none names p c.args.version c.args.states.now)
          ∙ undone_reached names p c.args.version c.args.reach Nobody c.args.states.now c.in-Nobody.is c.requires.outside;
    }

pub returns-in-Users : goal.returns-in-Users
returns-in-Users g c =
    let names = g.P.Places.names c.args.places.now in
    let p = c.args.policy.now in
    let users = c.in-Users.users in
    record {
      states = c.sweep_users.ensures.states
          ∙ states_reached names p c.args.version c.args.reach (Users users) c.args.states.now c.in-Users.is c.requires.outside;
      count = c.sweep_users.ensures.count
          ∙ undone_reached names p c.args.version c.args.reach (Users users) c.args.states.now c.in-Users.is c.requires.outside;
    }

pub returns-in-Everyone : goal.returns-in-Everyone
returns-in-Everyone g c = record {
  states = c.sweep_line.ensures.states;
  count = c.sweep_line.ensures.count;
}
