-- What a link was given, or was told of, was saved by then.
use Rattle.std.proofs.Common.{◌≡◌, Bool, List, [], ◌∷◌, Some, None, subst}
use Rattle.std.specs.Prelude.{Option, IfSome, IsTrue, Contains}
use Rattle.edit_message.specs.declared.message.Message.{Message}
use Rattle.host_core.specs.declared.event.LinkId.{LinkId}
use Rattle.host_core.specs.declared.event.HostEvent.{HostEvent}
use Rattle.host_core.specs.declared.event.HostEvent.TheVariants.{Gave, Told}
use Rattle.host_core.specs.Past.{saved_journal}
use Rattle.host_core.specs.Happens.{IsPast, IsAllSaved}
use Rattle.host_core.proofs.Saving.{saved_before}

-- a message, if it was given any
pub given_saved : (found : Option Message) (old before new : List HostEvent) (link : LinkId) → before ≡ old → IfSome found (λ m. new ≡ Gave link m ∷ before) → IsPast new
    → IfSome found (λ m. Contains (saved_journal old) m)
given_saved None old before new link same given past = tt
given_saved (Some m) old before new link same given past =
    subst (λ (es : List HostEvent). Contains (saved_journal es) m) same (saved_before [] before link m (rw given at past))

-- and all, if it was told answers
pub all_saved : (told : Bool) (old before new : List HostEvent) (link : LinkId) → before ≡ old → (IsTrue told → new ≡ Told link ∷ before) → IsPast new → IsTrue told
    → IsAllSaved old
all_saved told old before new link same happened past is =
    let all = rw (happened is) at past in
    subst IsAllSaved same all.0.1
