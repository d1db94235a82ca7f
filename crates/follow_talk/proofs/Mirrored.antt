-- What a program has of a text that shows, as that changes and it is told.
use Rattle.std.proofs.Common.{◌≡◌, ℕ, List, sym, subst, ◌∙◌, arith}
use Rattle.std.specs.Prelude.{Option, Some, None, IsSome}
use Rattle.std.proofs.Math.Logic.{∥∥₁_map}
use Rattle.std.proofs.lemmas.Grind.{merely}
use Rattle.std.specs.List.{concat}
use Rattle.follow_text.specs.declared.text_row.TextRow.{TextRow}
use Rattle.follow_text.specs.declared.tracked.Tracked.{Tracked}
use Rattle.follow_text.specs.Rows.{Makes, IsDifference}
use Rattle.follow_text.specs.Tracked.{told_bytes}
use Rattle.follow_text.specs.Joins.{IsJoin}
use Rattle.follow_talk.specs.Mirrors.{Meets, MeetsAs, IsInStep, HasText, TakesIn, WasTold}

-- the row of a change waits
pub behind_none : (row : TextRow) → TakesIn None row (Some row)
behind_none row told mid new same makes = subst (λ (t : List ℕ). Makes t new row) (sym same) makes

-- or is one with the row that waited
pub behind_some : (first row joined : TextRow) → IsJoin first row joined → TakesIn (Some first) row (Some joined)
behind_some first row joined join told mid new makes then = join told mid new makes then

step_behind : (tracked : Option Tracked) (before after : Option TextRow) (row : TextRow) (old new : List (List ℕ)) → TakesIn before row after → Makes (concat old) (concat new) row
    → IsInStep tracked before old → IsInStep tracked after new
step_behind None before after row old new behind makes h = tt
step_behind (Some t) before after row old new behind makes h = behind (told_bytes t) (concat old) (concat new) h makes

-- behind a change with its row the program is in step
pub in_step_behind : (tracked : Option Tracked) (before after : Option TextRow) (row : TextRow) (old new : List (List ℕ)) → TakesIn before row after → Makes (concat old) (concat new) row
    → ∥ IsInStep tracked before old ∥₁ → ∥ IsInStep tracked after new ∥₁
in_step_behind tracked before after row old new behind makes h = ∥∥₁_map h (step_behind tracked before after row old new behind makes)

step_told : (old new : Option Tracked) (row : TextRow) (shown : List (List ℕ)) → WasTold old row new → IsInStep old (Some row) shown → IsInStep new None shown
step_told None None row shown told h = tt
step_told None (Some u) row shown told h = absurd told
step_told (Some t) None row shown told h = absurd told
step_told (Some t) (Some u) row shown told h = told ∙ h.made

-- and behind the telling of the row that waited
pub in_step_told : (old new : Option Tracked) (row : TextRow) (shown : List (List ℕ)) → WasTold old row new → ∥ IsInStep old (Some row) shown ∥₁ → ∥ IsInStep new None shown ∥₁
in_step_told old new row shown told h = ∥∥₁_map h (step_told old new row shown told)

-- the row of all that differs waits
pub step_rest : (t : Tracked) (row : Option TextRow) (shown : List (List ℕ)) → IsDifference (told_bytes t) (concat shown) row → IsInStep (Some t) row shown
step_rest t None shown same = same
step_rest t (Some row) shown makes = makes

step_text : (tracked : Option Tracked) (shown : List (List ℕ)) → IsInStep tracked None shown → HasText tracked shown
step_text None shown h = tt
step_text (Some t) shown h = h

-- where no row waits the program has the text
pub has_text : (tracked : Option Tracked) (pending : Option TextRow) (shown : List (List ℕ)) → pending ≡ None → ∥ IsInStep tracked pending shown ∥₁ → ∥ HasText tracked shown ∥₁
has_text tracked pending shown none h = ∥∥₁_map (subst (λ (p : Option TextRow). ∥ IsInStep tracked p shown ∥₁) none h) (step_text tracked shown)

-- where the program's text isn't known nothing is claimed of it
pub unknown : (pending : Option TextRow) (shown : List (List ℕ)) → ∥ IsInStep None pending shown ∥₁
unknown pending shown = merely tt

step_seen : (t u : Tracked) (pending : Option TextRow) (shown : List (List ℕ)) → told_bytes u ≡ told_bytes t → IsInStep (Some t) pending shown → IsInStep (Some u) pending shown
step_seen t u pending shown same h = subst (λ (bytes : List ℕ). Meets bytes pending (concat shown)) (sym same) h

-- what it has seen of the rows that it was told doesn't matter
pub in_step_seen : (t u : Tracked) (pending : Option TextRow) (shown : List (List ℕ)) → told_bytes u ≡ told_bytes t → ∥ IsInStep (Some t) pending shown ∥₁ → ∥ IsInStep (Some u) pending shown ∥₁
in_step_seen t u pending shown same h = ∥∥₁_map h (step_seen t u pending shown same)

step_as : (tracked : Option Tracked) (before after : Option TextRow) (shown : List (List ℕ)) → MeetsAs before after → IsInStep tracked before shown → IsInStep tracked after shown
step_as None before after shown as_ h = tt
step_as (Some t) before after shown as_ h = as_ (told_bytes t) (concat shown) h

-- and where the row that waits makes what it made
pub in_step_as : (tracked : Option Tracked) (before after : Option TextRow) (shown : List (List ℕ)) → MeetsAs before after → ∥ IsInStep tracked before shown ∥₁ → ∥ IsInStep tracked after shown ∥₁
in_step_as tracked before after shown as_ h = ∥∥₁_map h (step_as tracked before after shown as_)

-- a program whose text was known is told a row, and it still is
pub told_known : (old new : Option Tracked) (row : TextRow) → WasTold old row new → IsSome old → IsSome new
told_known None new row told h = absurd cc
told_known (Some t) None row told h = absurd told
told_known (Some t) (Some u) row told h = search (arith)
