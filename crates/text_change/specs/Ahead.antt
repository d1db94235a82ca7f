-- What a step may change, as it shows before the step.
use Rattle.std.specs.Prelude.{◌≡◌, ℕ, true, List, Some, None}
use Rattle.std.specs.BTreeMap.{btree_map_len, IsOrdered}
use Rattle.std.specs.Ordering.{nat_cmp}
use Rattle.element_name.specs.Name.{Name}
use Rattle.coop_request.specs.Request.{Request, element_of}
use Rattle.peer_tables.specs.Undoing.{HaveUndone}
use Rattle.peer_step.specs.declared.step.Step.{Step}
use Rattle.peer_step.specs.declared.step.Step.TheVariants.{Edit}
use Rattle.peer_core.specs.After.{peer_after}
use Rattle.peer_core.specs.Changes.{is_received}
use Rattle.peer_core.specs.Peer.{Peer, history, log}
use Rattle.peer_core.specs.Sound.{IsSound}
use Rattle.text_change.specs.declared.ahead.Touched.{Touched}
use Rattle.text_change.specs.declared.ahead.Touched.TheVariants.{Own, One, Many}
use Rattle.text_change.specs.Seen.{seen_of, seen_at}
use Rattle.text_change.specs.Told.{request_by, step_edit}

-- how many rows there may be
abbrev pub most_rows : Touched → ℕ
most_rows (Own edit) = 1
most_rows (One seen) = 1
most_rows (Many seen) = btree_map_len seen

-- this may change at a step: an own edit is its row, a request changes its element, an entry those of the requests that it undoes
abbrev pub Touches : Peer → Step → Touched → Type 0
Touches p step (Own edit) = step ≡ Edit edit
Touches p step (One seen) = (q : Request) × (request_by p step ≡ Some q) × (seen ≡ seen_of p (element_of q))
Touches p step (Many seen) = (step_edit step ≡ None) × (request_by p step ≡ None)
    × ((elements : List Name) × HaveUndone (history p) (log p) (log (peer_after p step)) elements × (seen.entries ≡ seen_at p elements) × IsOrdered nat_cmp seen)

-- a sound peer is to make a step that is well formed, at which this may change
pub record IsAheadOf (p : Peer) (step : Step) (touched : Touched) : Type 0 where
  pub sound : IsSound p
  pub formed : is_received step ≡ true
  pub touches : Touches p step touched
