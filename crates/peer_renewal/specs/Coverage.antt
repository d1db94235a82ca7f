-- Which bytes of the text that shows an extent covers.
use Rattle.std.specs.Prelude.{ℕ, Bool, true, false, List, [], ◌∷◌, ◌++◌, length, map, filter, replicate}
use Rattle.element_name.specs.Name.{Name}
use Rattle.coop_request.specs.History.{text_order}
use Rattle.policy_book.specs.Policy.{Policy}
use Rattle.policy_book.specs.declared.parts.Object.{Object}
use Rattle.policy_book.specs.declared.auth.Extent.{Extent}
use Rattle.policy_book.specs.declared.auth.Extent.TheVariants.{All, Span, Elems, By}
use Rattle.auth_match.specs.Coverage.{covers}
use Rattle.admin_log.specs.Log.{policy_of}
use Rattle.peer_core.specs.Peer.{Peer, history, log, text, shown_elements}

-- the policy of a peer's front
abbrev pub front_policy : Peer → Policy
front_policy p = policy_of (log p)

-- for each byte of the elements' pieces, its element
abbrev pub each_byte : List Name → List (List ℕ) → List Name
each_byte (e ∷ names) (piece ∷ pieces) = replicate (length piece) e ++ each_byte names pieces
each_byte names pieces = []

-- for each byte that shows, its element
abbrev pub element_bytes : Peer → List Name
element_bytes p = each_byte (shown_elements p) (text p)

-- for each byte that shows, whether the extent covers its element
abbrev pub covered_bytes : Peer → Extent → List Bool
covered_bytes p extent = map (covers (text_order (history p)) extent) (element_bytes p)

-- an extent that is made anew: one of an author's elements isn't, since all of a renewed text is the administrator's
abbrev pub is_kept : Extent → Bool
is_kept All = true
is_kept (Span first last) = true
is_kept (Elems names) = true
is_kept (By user) = false

abbrev pub kept_objects : List Object → List Object
kept_objects objects = filter (λ o. is_kept o.extent) objects
