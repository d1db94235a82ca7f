-- The laws of renewals.
use Rattle.std.specs.Prelude.{◌≡◌, ◌↔◌, ℕ, true, false, List, Some, slice_get}
use Rattle.std.specs.List.{list_all}
use Rattle.element_name.specs.Name.{Name}
use Rattle.coop_request.specs.declared.edit.Right.{Right}
use Rattle.coop_request.specs.History.{text_order}
use Rattle.coop_request.specs.Request.{Request}
use Rattle.policy_book.specs.Entry.{Entry}
use Rattle.request_state.specs.State.{is_invalid}
use Rattle.check_remote.specs.State.{state_of}
use Rattle.auth_match.specs.declared.verdict.Verdict.TheVariants.{Granted}
use Rattle.auth_match.specs.Verdict.{object_covers, verdict}
use Rattle.peer_core.specs.Peer.{Peer, fresh_peer, history}
use Rattle.peer_renewal.specs.Coverage.{front_policy, element_bytes, is_kept}
use Rattle.peer_renewal.specs.Renewal.{IsRenewalOf}

-- both elements show a byte of one number, each in its peer, and no object is of an author's elements
pub record ShareByte (old new : Peer) (a b : Name) : Type 0 where
  pub place : ℕ
  pub before : slice_get (element_bytes old) place ≡ Some a
  pub after : slice_get (element_bytes new) place ≡ Some b
  pub kept : list_all (λ o. is_kept o.extent) (front_policy old).objects ≡ true

-- the objects cover an element of a renewed text that covered the old one which showed the same byte
abbrev pub SameCoverageLaw : Type 0
SameCoverageLaw =
    (old new : Peer) (a b : Name) (object : ℕ) → IsRenewalOf old new → ShareByte old new a b
    → object_covers (text_order (history new)) (front_policy new) b object ≡ object_covers (text_order (history old)) (front_policy old) a object

-- and it is open to the same users by the same rights
abbrev pub SameRightsLaw : Type 0
SameRightsLaw =
    (old new : Peer) (a b : Name) (user : ℕ) (right : Right) → IsRenewalOf old new → ShareByte old new a b
    → (verdict (text_order (history new)) (front_policy new) user right b ≡ Granted) ↔ (verdict (text_order (history old)) (front_policy old) user right a ≡ Granted)

-- no request of a renewal is ever denied, over whatever order and log
abbrev pub NeverUndoneLaw : Type 0
NeverUndoneLaw =
    (old new : Peer) (i : ℕ) (q : Request) (names : List Name) (entries : List Entry) → IsRenewalOf old new → slice_get (history new) i ≡ Some q
    → is_invalid (state_of names entries q) ≡ false

-- a peer that has integrated nothing renews one like it
abbrev pub FreshRenewal : Type 0
FreshRenewal = IsRenewalOf (fresh_peer 0) (fresh_peer 0)
