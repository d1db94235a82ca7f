use Rattle.peer_tables.proofs.StableLemmas.{stable_order, stable_verdict, stable_state, stable_entry}
use Rattle.peer_tables.proofs.laws.stable.Goals as goal

pub returns : goal.returns
returns c = record { order = stable_order; verdict = stable_verdict; request = stable_state; entry = stable_entry }
