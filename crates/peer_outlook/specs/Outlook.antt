-- What an operation would do, and what steps would undo.
use Rattle.std.specs.Prelude.{◌≡◌, ℕ, Bool, false, ◌&&◌, map, filter, fold, List, Option, None}
use Rattle.std.specs.Option.{option_map_or}
use Rattle.element_name.specs.Name.{Name}
use Rattle.element_name.specs.Cases.{when}
use Rattle.coop_request.specs.Request.{Request}
use Rattle.policy_book.specs.declared.op.AdminOp.{AdminOp}
use Rattle.policy_book.specs.Entry.{Entry}
use Rattle.edit_message.specs.declared.message.Key.{Key}
use Rattle.edit_message.specs.declared.message.Key.TheVariants.{Coop, Admin}
use Rattle.request_state.specs.declared.state.State.{State}
use Rattle.request_state.specs.declared.state.Undone.{Undone}
use Rattle.request_state.specs.State.{is_tentative, is_invalid}
use Rattle.peer_step.specs.declared.step.Step.{Step}
use Rattle.peer_step.specs.declared.step.Step.TheVariants.{Administer}
use Rattle.peer_step.specs.declared.answer.Answer.{Answer}
use Rattle.peer_step.specs.declared.answer.Answer.TheVariants.{Issued}
use Rattle.peer_tables.specs.Undoing.{is_undone_between}
use Rattle.peer_core.specs.Peer.{Peer, history, log, state_of_name}
use Rattle.peer_core.specs.Answers.{answer_of}
use Rattle.peer_core.specs.After.{peer_after}
use Rattle.peer_core.specs.Restore.{peer_of_journal}

-- the requests of a peer that are Tentative there, and Invalid by the log of another
abbrev pub requests_undone : Peer → Peer → List Request
requests_undone old new = filter (is_undone_between (history old) (log old) (log new)) (history old)

-- the names of the requests that an operation undoes at a peer, in order of integration
abbrev pub names_undone : Peer → AdminOp → List Name
names_undone p op = map (λ q. q.id) (requests_undone p (peer_after p (Administer op)))

-- an entry that is issued says that it undoes so many
abbrev pub SaysUndone : Answer → ℕ → Type 0
SaysUndone answer n = (e : Entry) (undone : Undone) → answer ≡ Issued e undone → undone.count ≡ n

-- the request of a name has such a state
abbrev pub has_state : (State → Bool) → Peer → Name → Bool
has_state test p n = option_map_or test (state_of_name p n) false

-- the request of a name is Tentative at one peer, and Invalid at another
abbrev pub is_undone_name : Peer → Peer → Name → Bool
is_undone_name old new n = has_state is_tentative old n && has_state is_invalid new n

-- the name of a key's request, if it is so
abbrev pub undone_by_key : Peer → Peer → Key → Option Name
undone_by_key old new (Coop n) = when (is_undone_name old new n) n
undone_by_key old new (Admin version) = None

-- the names of the requests of a peer that are Tentative there, and Invalid at another, in order of integration
abbrev pub names_between : Peer → Peer → List Name
names_between old new = filter (is_undone_name old new) (map (λ q. q.id) (history old))

-- the names of those that steps undo, one after another, at a peer of the same site and journal
abbrev pub names_undone_by : Peer → List Step → List Name
names_undone_by p steps = names_between p (fold peer_after (peer_of_journal p.site p.journal) steps)

-- what a step answered at another peer, what it left there, and which requests of the first it undid there
pub record IsTried (first old new : Peer) (step : Step) (answer : Answer) (names : List Name) : Type 0 where
  pub answered : answer ≡ answer_of old step
  pub after : new ≡ peer_after old step
  pub undone : names ≡ names_between first new
