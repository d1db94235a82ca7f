use Rattle.std.proofs.Common.{ap, sym, ◌∙◌}
use Rattle.std.specs.Prelude.{unwrap_or}
use Rattle.peer_store.proofs.Again.{read_again}
use Rattle.peer_store.proofs.laws.one_step.Goals as goal

pub returns : goal.returns
returns c version bytes first second is also =
    ap (λ found. unwrap_or found first) (sym (read_again version first bytes is) ∙ read_again version second bytes also)
