-- What was passed on a link, in order.
use Rattle.std.proofs.Common.{◌≡◌, ◌+◌, List, [], ◌∷◌, ◌++◌, Some, subst, arith}
use Rattle.std.specs.Prelude.{option_map}
use Rattle.std.specs.declared.option.Option.{Option}
use Rattle.std.proofs.lemmas.Option.{same_Some}
use Rattle.edit_message.specs.declared.message.Message.{Message}
use Rattle.peer_core.specs.Answers.{answer_of}
use Rattle.peer_core.proofs.AfterLemmas.{journal_grows}
use Rattle.host_core.specs.Laws.{InOrder}
use Rattle.host_core.proofs.InOrder.{opened_in_order, grown_in_order, saved_in_order, given_in_order, whole_in_order}
use Rattle.follow_core.specs.declared.event.Stretch.{Stretch}
use Rattle.follow_core.specs.declared.event.FollowEvent.{FollowEvent}
use Rattle.follow_core.specs.declared.event.FollowEvent.TheVariants.{Began, Made, Saved, Linked, Passed}
use Rattle.follow_core.specs.Past.{follow_peer, follow_saved, back_of, standing_link, longer_stretch, passed_on, stretch_from}
use Rattle.follow_core.specs.Laws.{PassedInOrderLaw, AllPassedLaw}
use Rattle.follow_core.proofs.Saving.{beginning, short_saved, back_saved}

-- what was passed on a link is in order
abbrev StretchInOrder : List FollowEvent → List Message → Stretch → Type 0
StretchInOrder es passed x = InOrder (follow_peer es).journal (follow_saved es) passed x.from x.mark

pub in_order : PassedInOrderLaw
in_order [] x h is = absurd cc
in_order (Began p back ∷ es) x h is = let bad : standing_link [] ≡ Some x = subst (λ (fs : List FollowEvent). standing_link fs ≡ Some x) h.0.0 is in absurd cc
in_order (Made step ∷ es) x h is =
    grown_in_order (follow_peer es).journal (follow_peer (Made step ∷ es)).journal (follow_saved es) (passed_on es) x.from x.mark
    (journal_grows (follow_peer es) step (answer_of (follow_peer es) step)) (short_saved es h.1) (in_order es x h.1 is)
in_order (Saved ∷ es) x h is =
    saved_in_order (follow_peer es).journal (follow_saved es) (follow_peer es).journal (passed_on es) x.from x.mark (short_saved es h.1) (in_order es x h.1 is)
in_order (Linked from ∷ es) x h is =
    let saved = back_saved es h.1 in
    let same : from ≡ back_of es = h.0 in
    subst (StretchInOrder es []) (same_Some (stretch_from from) x is) (opened_in_order (follow_peer es).journal (follow_saved es) from (omega arith))
in_order (Passed m ∷ es) x h is =
    subst (StretchInOrder es (passed_on es ++ m ∷ []))
    (same_Some (longer_stretch h.0.link) x (subst (λ (o : Option Stretch). option_map longer_stretch o ≡ Some x) h.0.link_is is))
    (given_in_order (follow_peer es).journal (follow_saved es) (passed_on es) m h.0.link.from h.0.link.mark h.0.next h.0.saved (in_order es h.0.link h.1 h.0.link_is))
in_order (e ∷ es) x h is = in_order es x h.1 is

pub all_passed : AllPassedLaw
all_passed es x h is whole =
    whole_in_order (follow_peer es).journal (follow_saved es) (passed_on es) x.from x.mark (beginning es h) whole (in_order es x h is)
