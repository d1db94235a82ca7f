-- What a program has of a text that shows, by what it is told.
use Rattle.std.specs.Prelude.{◌≡◌, ℕ, List, Option, Some, None}
use Rattle.std.specs.List.{concat}
use Rattle.peer_core.specs.Peer.{text}
use Rattle.follow_core.specs.declared.event.FollowEvent.{FollowEvent}
use Rattle.follow_core.specs.Past.{follow_peer}
use Rattle.follow_text.specs.declared.text_row.TextRow.{TextRow}
use Rattle.follow_text.specs.declared.tracked.Tracked.{Tracked}
use Rattle.follow_text.specs.Rows.{with_row, Makes}
use Rattle.follow_text.specs.Tracked.{told_bytes}

-- one text is the other, but for a row that waits
abbrev pub Meets : List ℕ → Option TextRow → List ℕ → Type 0
Meets told None shown = told ≡ shown
Meets told (Some row) shown = Makes told shown row

-- a row that waits makes of each text what another makes of it
abbrev pub MeetsAs : Option TextRow → Option TextRow → Type 0
MeetsAs before after = (told shown : List ℕ) → Meets told before shown → Meets told after shown

-- what a program has that asked for the text, once it has seen the rows that it was told, is what shows but for the row that waits
abbrev pub IsInStep : Option Tracked → Option TextRow → List (List ℕ) → Type 0
IsInStep None pending shown = Unit {0}
IsInStep (Some tracked) pending shown = Meets (told_bytes tracked) pending (concat shown)

-- what a program has that asked for the text, once it has seen the rows that it was told, is this one
abbrev pub HasText : Option Tracked → List (List ℕ) → Type 0
HasText None pieces = Unit {0}
HasText (Some tracked) pieces = told_bytes tracked ≡ concat pieces

-- a row puts what waited and the next change together
abbrev pub TakesIn : Option TextRow → TextRow → Option TextRow → Type 0
TakesIn before row after = (told mid new : List ℕ) → Meets told before mid → Makes mid new row → Meets told after new

-- a program that asked for the text was told one more row
abbrev pub WasTold : Option Tracked → TextRow → Option Tracked → Type 0
WasTold None row None = Unit {0}
WasTold (Some old) row (Some new) = told_bytes new ≡ with_row (told_bytes old) row
WasTold old row new = ⊥

-- the text that shows is the one of the follower's peer
abbrev pub ShowsText : List (List ℕ) → List FollowEvent → Type 0
ShowsText shown es = shown ≡ text (follow_peer es)
