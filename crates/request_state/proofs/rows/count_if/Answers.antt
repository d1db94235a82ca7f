use Rattle.request_state.proofs.rows.count_if.Goals as goal

pub count_in-requires-clause-room : goal.count_in-requires-clause-room
count_in-requires-clause-room c = c.requires.room c.requires.other
