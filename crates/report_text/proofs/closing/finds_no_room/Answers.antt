use Rattle.std.proofs.Common.{◌≡◌, ℕ, ◌-◌, length, sym, ap, ◌∙◌, arith}
use Rattle.std.specs.Prelude.{nat_le}
use Rattle.coop_request.specs.declared.request.TheConstants.{MAX_REQUESTS}
use Rattle.edit_message.specs.declared.message.Message.{Message}
use Rattle.edit_message.specs.Message.{requests_of}
use Rattle.peer_tables.specs.Derived.{finds_no_room}
use Rattle.peer_tables.proofs.KeptLemmas.Reads.{sizes}
use Rattle.report_text.proofs.closing.finds_no_room.Goals as goal

pub overflow_sub-result : goal.overflow_sub-result
overflow_sub-result c = omega (arith, sizes c.args.peer.now.journal, c.journal_len.ensures, c.front.ensures)

pub returns-in-Coop : goal.returns-in-Coop
returns-in-Coop c =
    let J = c.args.peer.now.journal in
    let requests : c.journal_len.result - c.front.result ≡ length (requests_of J) = omega (arith, sizes J, c.journal_len.ensures, c.front.ensures) in
    ap (λ (n : ℕ). nat_le MAX_REQUESTS n) requests ∙ ap (λ (m : Message). finds_no_room J m) (sym c.in-Coop.is)
