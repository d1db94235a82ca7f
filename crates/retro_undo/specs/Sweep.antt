-- When a sweep may be made, and what it makes of states.
use Rattle.std.specs.Prelude.{◌≡◌, ℕ, ◌<◌, ◌^◌, Bool, true, List, length}
use Rattle.element_name.specs.Name.{Name}
use Rattle.coop_request.specs.Request.{Request}
use Rattle.policy_book.specs.Policy.{Policy}
use Rattle.request_state.specs.declared.kept.Kept.{Kept}
use Rattle.retro_undo.specs.Undo.{have_elements, states_after_in, undone_in}

-- the part that is all requests: a sweep of it makes `states_after`, and undoes `undone_count`
abbrev pub every_request : Request → Bool
every_request q = true

-- the judged element of each request is one of the names, and a number of 32 bits counts the requests
pub record MaySweep (names : List Name) (states : List Kept) : Type 0 where
  pub elements : have_elements names states ≡ true
  pub few : length states < 2 ^ 32

-- of the part, the Tentative requests that the policy of the version denies were undone, so many; no other state changed
pub record IsSwept (part : Request → Bool) (names : List Name) (p : Policy) (version : ℕ) (old new : List Kept) (undone : ℕ) : Type 0 where
  pub states : new ≡ states_after_in part names p version old
  pub count : undone ≡ undone_in part names p old
