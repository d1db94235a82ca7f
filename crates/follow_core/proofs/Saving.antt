-- What is saved, and what was passed of it.
use Rattle.std.proofs.Common.{◌≡◌, ℕ, ◌+◌, ◌<◌, ◌≤◌, inl, inr, ⊎_elim, List, [], ◌∷◌, ◌++◌, length, Some, refl, ap, sym, subst, ◌∙◌, arith}
use Rattle.std.specs.Prelude.{slice_get, fold, Contains}
use Rattle.std.proofs.lemmas.List.Sums.{fold_push}
use Rattle.edit_message.specs.declared.message.Message.{Message}
use Rattle.peer_core.specs.Peer.{Peer}
use Rattle.peer_core.specs.Answers.{answer_of}
use Rattle.peer_core.specs.After.{peer_after}
use Rattle.peer_core.proofs.AfterLemmas.{journal_grows}
use Rattle.peer_core.proofs.BeginningLemmas.{Begins, same_begins, begins_on, begins_has, begins_short, begins_whole, begins_early, begins_longer, none_before}
use Rattle.peer_core.proofs.KeyLemmas.{one_message}
use Rattle.tomb_seq.proofs.Has.{Has, Has-from_Contains}
use Rattle.host_core.proofs.Saving.{held_before}
use Rattle.follow_core.specs.declared.event.FollowEvent.{FollowEvent}
use Rattle.follow_core.specs.declared.event.FollowEvent.TheVariants.{Began, Made, Saved, Told, CameBack, Passed}
use Rattle.follow_core.specs.Past.{starting_peer, follow_peer, follow_saved, back_of, first_back, follow_steps}
use Rattle.follow_core.specs.Happens.{HasSavedAll, IsFollowPast}
use Rattle.follow_core.specs.Laws.{SavedBeforePassedLaw, SavedFirstLaw, ProgramToldLaw, WasPassed, OneMessageLaw, BackLaw, CameBackAt, SameAnswersLaw}

-- ---- what is saved

-- what is saved is a beginning of the journal
pub beginning : SavedFirstLaw
beginning [] h = same_begins []
beginning (Began p back ∷ es) h = same_begins p.journal
beginning (Made step ∷ es) h =
    begins_on (follow_saved es) (follow_peer es).journal (follow_peer (Made step ∷ es)).journal (beginning es h.1)
    (journal_grows (follow_peer es) step (answer_of (follow_peer es) step))
beginning (Saved ∷ es) h = same_begins (follow_peer es).journal
beginning (e ∷ es) h = beginning es h.1

-- so it is no longer
pub short_saved : (es : List FollowEvent) → IsFollowPast es → length (follow_saved es) ≤ length (follow_peer es).journal
short_saved es h = begins_short (follow_saved es) (follow_peer es).journal (beginning es h)

-- where all is saved it is the journal
pub all_saved : (es : List FollowEvent) → IsFollowPast es → HasSavedAll es → follow_saved es ≡ (follow_peer es).journal
all_saved es h all = begins_whole (follow_saved es) (follow_peer es).journal (beginning es h) all

-- what came back is saved
pub back_saved : (es : List FollowEvent) → IsFollowPast es → back_of es ≤ length (follow_saved es)
back_saved [] h = omega arith
back_saved (Began p back ∷ es) h = h.0.1
back_saved (CameBack place ∷ es) h = let saved = h.0.saved in omega arith
back_saved (Saved ∷ es) h =
    let old = back_saved es h.1 in
    let short = short_saved es h.1 in
    omega arith
back_saved (e ∷ es) h = back_saved es h.1

-- what stands in the journal where it is saved is among what is saved
pub next_saved : (es : List FollowEvent) (i : ℕ) (m : Message) → IsFollowPast es → slice_get (follow_peer es).journal i ≡ Some m → i < length (follow_saved es)
    → Contains (follow_saved es) m
next_saved es i m h next saved = begins_early (follow_saved es) (follow_peer es).journal i m (beginning es h) saved next

-- what happened before is a past
pub past_before : (later es : List FollowEvent) → IsFollowPast (later ++ es) → IsFollowPast es
past_before later es h = held_before IsFollowPast (λ (e : FollowEvent) (fs : List FollowEvent) past. past.1) later es h

pub saved_before : SavedBeforePassedLaw
saved_before later earlier m h =
    let here = past_before later (Passed m ∷ earlier) h in
    next_saved earlier here.0.link.mark m here.1 here.0.next here.0.saved

-- ---- what stays

-- what was saved stays
saved_stays : (later es : List FollowEvent) → IsFollowPast (later ++ es) → Begins (follow_saved es) (follow_saved (later ++ es))
saved_stays [] es h = same_begins (follow_saved es)
saved_stays (Began p back ∷ later) es h =
    subst (λ (fs : List FollowEvent). Begins (follow_saved fs) p.journal) (sym (none_before later es h.0.0)) (p.journal, refl)
saved_stays (Saved ∷ later) es h =
    begins_on (follow_saved es) (follow_saved (later ++ es)) (follow_peer (later ++ es)).journal (saved_stays later es h.1) (beginning (later ++ es) h.1)
saved_stays (e ∷ later) es h = saved_stays later es h.1

-- what the journal had stays
journal_stays : (later es : List FollowEvent) → IsFollowPast (later ++ es) → Begins (follow_peer es).journal (follow_peer (later ++ es)).journal
journal_stays [] es h = same_begins (follow_peer es).journal
journal_stays (Began p back ∷ later) es h =
    subst (λ (fs : List FollowEvent). Begins (follow_peer fs).journal p.journal) (sym (none_before later es h.0.0)) (p.journal, refl)
journal_stays (Made step ∷ later) es h =
    begins_on (follow_peer es).journal (follow_peer (later ++ es)).journal (follow_peer (Made step ∷ (later ++ es))).journal (journal_stays later es h.1)
    (journal_grows (follow_peer (later ++ es)) step (answer_of (follow_peer (later ++ es)) step))
journal_stays (e ∷ later) es h = journal_stays later es h.1

pub told_saved : ProgramToldLaw
told_saved later between es h =
    let here = past_before later (Told ∷ (between ++ es)) h in
    let all : HasSavedAll (between ++ es) = here.0 in
    let then = journal_stays between es here.1 in
    let grown = begins_short (follow_peer es).journal (follow_peer (between ++ es)).journal then in
    begins_longer (follow_peer es).journal (follow_saved (between ++ es)) (follow_peer (between ++ es)).journal then (beginning (between ++ es) here.1) (omega arith)

-- ---- no fork

-- what the follower had first stays
first_stays : (es : List FollowEvent) → Begins (starting_peer es).journal (follow_peer es).journal
first_stays [] = same_begins []
first_stays (Began p back ∷ es) = same_begins p.journal
first_stays (Made step ∷ es) =
    begins_on (starting_peer es).journal (follow_peer es).journal (follow_peer (Made step ∷ es)).journal (first_stays es)
    (journal_grows (follow_peer es) step (answer_of (follow_peer es) step))
first_stays (e ∷ es) = first_stays es

-- what was passed is saved
passed_saved : (es : List FollowEvent) (m : Message) → IsFollowPast es → WasPassed es m → Has (follow_saved es) m
passed_saved es m h was =
    let past : IsFollowPast (was.later ++ Passed m ∷ was.earlier) = subst IsFollowPast was.passed h in
    let then : Has (follow_saved was.earlier) m = Has-from_Contains (follow_saved was.earlier) m (saved_before was.later was.earlier m past) in
    subst (λ (fs : List FollowEvent). Has (follow_saved fs) m) (sym was.passed)
    (begins_has (follow_saved was.earlier) (follow_saved (was.later ++ Passed m ∷ was.earlier)) m (saved_stays was.later (Passed m ∷ was.earlier) past) then)

pub no_fork : OneMessageLaw
no_fork es fs m n h g sound continues first second key =
    one_message (follow_saved es) (starting_peer fs).journal (follow_saved fs) (follow_peer fs).journal m n sound.journal
    (continues.more, continues.journal) (first_stays fs) (beginning fs g) (passed_saved es m h first) (passed_saved fs n g second) key

-- ---- what came back

-- a request that came back came back before something else happened
came_before : (e : FollowEvent) (es : List FollowEvent) (place : ℕ) → CameBackAt es place → CameBackAt (e ∷ es) place
came_before e es place at = record { later = e ∷ at.later; earlier = at.earlier; came = ap (λ (fs : List FollowEvent). e ∷ fs) at.came }

pub back_law : BackLaw
back_law [] = inl refl
back_law (Began p from ∷ es) = inl refl
back_law (CameBack place ∷ es) = inr (place, refl, record { later = []; earlier = es; came = refl })
back_law (e ∷ es) = ⊎_elim
    (λ (first : back_of es ≡ first_back es). inl first)
    (λ (came : (place : ℕ) × (back_of es ≡ place + 1) × CameBackAt es place). inr (came.0, came.1, came_before e es came.0 came.2))
    (back_law es)

-- ---- the steps

pub replay : SameAnswersLaw
replay [] h = refl
replay (Began p back ∷ es) h = subst (λ (fs : List FollowEvent). p ≡ fold peer_after p (follow_steps fs)) (sym h.0.0) refl
replay (Made step ∷ es) h = ap (λ (p : Peer). peer_after p step) (replay es h.1) ∙ sym (fold_push peer_after (starting_peer es) (follow_steps es) step)
replay (e ∷ es) h = replay es h.1
