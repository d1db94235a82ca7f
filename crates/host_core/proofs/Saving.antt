-- What is saved, and what was given of it.
use Rattle.std.proofs.Common.{◌≡◌, ℕ, ◌<◌, ◌≤◌, List, [], ◌∷◌, ◌++◌, length, Some, None, refl, sym, subst, arith}
use Rattle.std.specs.Prelude.{slice_get, Contains}
use Rattle.edit_message.specs.declared.message.Message.{Message}
use Rattle.peer_core.specs.Peer.{Peer}
use Rattle.peer_core.specs.Answers.{answer_of}
use Rattle.tomb_seq.proofs.Has.{Has, Has-from_Contains}
use Rattle.peer_core.proofs.AfterLemmas.{journal_grows}
use Rattle.peer_core.proofs.BeginningLemmas.{Begins, same_begins, begins_on, begins_has, begins_short, begins_whole, begins_early, begins_longer, none_before, reads_early}
use Rattle.peer_core.proofs.KeyLemmas.{one_message}
use Rattle.host_core.specs.declared.event.HostEvent.{HostEvent}
use Rattle.host_core.specs.declared.event.HostEvent.TheVariants.{Began, Made, Saved, Gave, Told}
use Rattle.host_core.specs.Past.{first_peer, host_peer, saved_journal}
use Rattle.host_core.specs.Happens.{IsAllSaved, IsPast}
use Rattle.host_core.specs.Laws.{SavedLaw, BeginningLaw, WholeSavedLaw, ToldLaw, WasGiven, NoForkLaw}

-- what is saved is a beginning of the journal
pub beginning : BeginningLaw
beginning [] h = same_begins []
beginning (Began p document ∷ es) h = same_begins p.journal
beginning (Made by step ∷ es) h =
    begins_on (saved_journal es) (host_peer es).journal (host_peer (Made by step ∷ es)).journal (beginning es h.1)
    (journal_grows (host_peer es) step (answer_of (host_peer es) step))
beginning (Saved ∷ es) h = same_begins (host_peer es).journal
beginning (e ∷ es) h = beginning es h.1

-- so it is no longer
pub short_saved : (es : List HostEvent) → IsPast es → length (saved_journal es) ≤ length (host_peer es).journal
short_saved es h = begins_short (saved_journal es) (host_peer es).journal (beginning es h)

-- where all is saved it is the journal
pub all_saved : (es : List HostEvent) → IsPast es → IsAllSaved es → saved_journal es ≡ (host_peer es).journal
all_saved es h all = begins_whole (saved_journal es) (host_peer es).journal (beginning es h) all

-- what stands in the journal where it is saved is among what is saved
pub next_saved : (es : List HostEvent) (i : ℕ) (m : Message) → IsPast es → slice_get (host_peer es).journal i ≡ Some m → i < length (saved_journal es)
    → Contains (saved_journal es) m
next_saved es i m h next saved = begins_early (saved_journal es) (host_peer es).journal i m (beginning es h) saved next

-- so something stands there, in the journal of any peer that begins with what is saved
pub not_there : (saved : List Message) (p q : Peer) (i : ℕ) → Begins saved q.journal → p ≡ q → i < length saved → slice_get p.journal i ≡ None → ⊥
not_there saved p q i begins same within none = reads_early saved q.journal i begins within (subst (λ (r : Peer). slice_get r.journal i ≡ None) same none)

-- what, where it holds of a past, holds without the newest event too, held at any time before
pub held_before : {E : Type 0} (Holds : List E → Type 0) → ((e : E) (es : List E) → Holds (e ∷ es) → Holds es) → (later es : List E) → Holds (later ++ es) → Holds es
held_before Holds one [] es h = h
held_before Holds one (e ∷ later) es h = held_before Holds one later es (one e (later ++ es) h)

-- so what happened before is a past
pub past_before : (later es : List HostEvent) → IsPast (later ++ es) → IsPast es
past_before later es h = held_before IsPast (λ (e : HostEvent) (fs : List HostEvent) past. past.1) later es h

pub saved_before : SavedLaw
saved_before later earlier l m h =
    let here = past_before later (Gave l m ∷ earlier) h in
    next_saved earlier here.0.link.mark m here.1 here.0.next here.0.saved

-- ---- no fork

-- what was saved stays
saved_stays : (later es : List HostEvent) → IsPast (later ++ es) → Begins (saved_journal es) (saved_journal (later ++ es))
saved_stays [] es h = same_begins (saved_journal es)
saved_stays (Began p document ∷ later) es h =
    subst (λ (fs : List HostEvent). Begins (saved_journal fs) p.journal) (sym (none_before later es h.0)) (p.journal, refl)
saved_stays (Saved ∷ later) es h =
    begins_on (saved_journal es) (saved_journal (later ++ es)) (host_peer (later ++ es)).journal (saved_stays later es h.1) (beginning (later ++ es) h.1)
saved_stays (e ∷ later) es h = saved_stays later es h.1

-- what the journal had stays
host_stays : (later es : List HostEvent) → IsPast (later ++ es) → Begins (host_peer es).journal (host_peer (later ++ es)).journal
host_stays [] es h = same_begins (host_peer es).journal
host_stays (Began p document ∷ later) es h =
    subst (λ (fs : List HostEvent). Begins (host_peer fs).journal p.journal) (sym (none_before later es h.0)) (p.journal, refl)
host_stays (Made by step ∷ later) es h =
    begins_on (host_peer es).journal (host_peer (later ++ es)).journal (host_peer (Made by step ∷ (later ++ es))).journal (host_stays later es h.1)
    (journal_grows (host_peer (later ++ es)) step (answer_of (host_peer (later ++ es)) step))
host_stays (e ∷ later) es h = host_stays later es h.1

pub whole_saved : WholeSavedLaw
whole_saved later es h enough =
    begins_longer (host_peer es).journal (saved_journal (later ++ es)) (host_peer (later ++ es)).journal (host_stays later es h) (beginning (later ++ es) h) enough

pub told_saved : ToldLaw
told_saved later between es l h =
    let here = past_before later (Told l ∷ (between ++ es)) h in
    let all : IsAllSaved (between ++ es) = here.0.1 in
    let grown = begins_short (host_peer es).journal (host_peer (between ++ es)).journal (host_stays between es here.1) in
    whole_saved between es here.1 (omega arith)

-- what the host had first stays
first_stays : (es : List HostEvent) → Begins (first_peer es).journal (host_peer es).journal
first_stays [] = same_begins []
first_stays (Began p document ∷ es) = same_begins p.journal
first_stays (Made by step ∷ es) =
    begins_on (first_peer es).journal (host_peer es).journal (host_peer (Made by step ∷ es)).journal (first_stays es)
    (journal_grows (host_peer es) step (answer_of (host_peer es) step))
first_stays (e ∷ es) = first_stays es

-- what was given is saved
given_saved : (es : List HostEvent) (m : Message) → IsPast es → WasGiven es m → Has (saved_journal es) m
given_saved es m h was =
    let past : IsPast (was.later ++ Gave was.link m ∷ was.earlier) = subst IsPast was.gave h in
    let then : Has (saved_journal was.earlier) m = Has-from_Contains (saved_journal was.earlier) m (saved_before was.later was.earlier was.link m past) in
    subst (λ (fs : List HostEvent). Has (saved_journal fs) m) (sym was.gave)
    (begins_has (saved_journal was.earlier) (saved_journal (was.later ++ Gave was.link m ∷ was.earlier)) m (saved_stays was.later (Gave was.link m ∷ was.earlier) past) then)

pub no_fork : NoForkLaw
no_fork es fs m n h g sound continues first second key =
    one_message (saved_journal es) (first_peer fs).journal (saved_journal fs) (host_peer fs).journal m n sound.journal
    (continues.more, continues.journal) (first_stays fs) (beginning fs g) (given_saved es m h first) (given_saved fs n g second) key
