-- What an operation would be answered, and whose requests it would undo.
use Rattle.std.specs.Prelude.{◌≡◌, ◌↔◌, ℕ, ◌<◌, ◌==◌, List, [], ◌∷◌, ◌++◌, Some, None, Contains, count_by, flat_map, decimal, codes}
use Rattle.std.specs.List.Sorted.{IsStrictlyIncreasing}
use Rattle.element_name.specs.Name.{Name}
use Rattle.policy_book.specs.declared.op.AdminOp.{AdminOp}
use Rattle.peer_step.specs.declared.step.Step.TheVariants.{Administer}
use Rattle.peer_core.specs.Peer.{Peer}
use Rattle.peer_core.specs.Answers.{answer_of}
use Rattle.line_spelling.specs.Line.{line_of}
use Rattle.line_spelling.specs.Values.{spaced}
use Rattle.line_spelling.specs.Answers.{answer_line}
use Rattle.line_read.specs.Step.{step_line}
use Rattle.host_core.specs.declared.event.HostEvent.{HostEvent}
use Rattle.host_core.specs.Past.{host_peer}
use Rattle.peer_outlook.specs.Outlook.{names_undone}

-- how many of these names are a user's
abbrev pub names_by : List Name → ℕ → ℕ
names_by names user = count_by (λ name. name.site == user) names

-- the line of a user and a number
abbrev pub user_line : ℕ → ℕ → List ℕ
user_line user count = line_of (spaced (codes "of" ∷ decimal user ∷ decimal count ∷ []))

-- a line for each user who has some of these names, by ascending users, with how many
pub record AreUserLines (names : List Name) (lines : List ℕ) : Type 0 where
  pub users : List ℕ
  pub ascending : IsStrictlyIncreasing users
  pub each : (user : ℕ) → Contains users user ↔ (0 < names_by names user)
  pub said : lines ≡ flat_map (λ user. user_line user (names_by names user)) users

-- the line of the answer that an operation would get at a peer, and behind it those of the users whose requests it would undo
pub record IsOutlook (p : Peer) (op : AdminOp) (lines : List ℕ) : Type 0 where
  pub whose : List ℕ
  pub undone : AreUserLines (names_undone p op) whose
  pub said : lines ≡ answer_line None (answer_of p (Administer op)) ++ whose

-- a text is the line of an operation, and these are its lines at a host's peer
pub record IsForeseen (text : List ℕ) (past : List HostEvent) (lines : List ℕ) : Type 0 where
  pub op : AdminOp
  pub said : step_line text ≡ Some (Administer op)
  pub outlook : IsOutlook (host_peer past) op lines
