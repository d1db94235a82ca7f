use Rattle.std.proofs.Common.{sym}
use Rattle.peer_step.specs.Lent.{local_edit_lent}
use Rattle.line_read.specs.Words.{bytes_of}
use Rattle.script_text.proofs.OwnEdits.{edit_line}
use Rattle.script_text.proofs.own_edit.edit_of_peer.Goals as goal

pub returns-clause-says : goal.returns-clause-says
returns-clause-says c =
    edit_line c.args.peers c.in_ok-peer.peer c.args.number.now (bytes_of c.args.words.now) (local_edit_lent c.in_ok-edit.edit) (sym c.in_ok-peer.ensures.value) c.in_ok-edit.ensures
