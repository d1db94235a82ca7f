-- What small pasts give.
use Rattle.std.proofs.Common.{◌≡◌, ℕ, ◌<◌, zero, suc, true, List, [], ◌∷◌, refl, arith, lit<, inl, get_or}
use Rattle.std.specs.Prelude.{bytes_eq, nat_eq, IsTrue}
use Rattle.std.specs.List.{list_all}
use Rattle.std.specs.Str.{is_utf8}
use Rattle.std.proofs.lemmas.Str.{IsUtf8-from_ascii, is_utf8-from_IsUtf8}
use Rattle.sha2.specs.Sha256.{sha256}
use Rattle.tomb_seq.proofs.Has.{Contains-from_Has}
use Rattle.edit_message.specs.declared.message.Message.TheVariants.{Coop, Admin}
use Rattle.edit_message.specs.Formed.{is_message}
use Rattle.peer_core.specs.Restore.{peer_of_journal}
use Rattle.peer_core.specs.Sound.{IsSound}
use Rattle.host_core.proofs.Closing.{same_test}
use Rattle.host_core.specs.declared.event.Role.TheVariants.{Writer}
use Rattle.host_core.specs.declared.event.HostEvent.TheVariants.{Saved}
use Rattle.host_core.specs.Samples.{sample_link, sample_request, sample_message, sample_entry, linked, offered}
use Rattle.host_core.specs.Samples.{SampleHappens, SampleGiven, SampleDoor, SampleClosed, AuthenticSample, OrderedSample, SavedSample, NoForkSample, InOrderSample, ClosedSample, DeviceClosedSample, ShareSample, PageSample}

-- bytes are equal to themselves
same_bytes : (xs : List ℕ) → bytes_eq xs xs ≡ true
same_bytes [] = refl
same_bytes (x ∷ xs) = let head : nat_eq x x ≡ true = same_test x in rw (head, same_bytes xs) refl

pub happens : SampleHappens
happens document secret = (
  record { link = _; open_is = refl; next = refl; saved = omega arith },
  (tt, (refl, (rw (same_bytes document, same_bytes (sha256 secret)) refl, ((refl, lit< tt), (refl, (refl, tt)))))),
)

pub given : SampleGiven
given document secret = refl

pub door : SampleDoor
door document secret = (refl, refl, refl)

pub closed : SampleClosed
closed document secret step = refl

-- ---- of each law

pub authentic_sample : AuthenticSample
authentic_sample document secret = (happens document secret, Contains-from_Has (sample_message ∷ []) sample_message (inl refl), refl)

pub ordered_sample : OrderedSample
ordered_sample document secret = (
  (refl, (rw (same_bytes document, same_bytes (sha256 secret)) refl, ((refl, lit< tt), (refl, (refl, tt))))),
  Contains-from_Has (Admin sample_entry ∷ []) (Admin sample_entry) (inl refl),
  refl,
)

pub saved_sample : SavedSample
saved_sample document secret = (((refl, omega arith), happens document secret), refl, refl, refl)

-- the letter is text
letter_is_text : is_utf8 (97 ∷ []) ≡ true
letter_is_text = is_utf8-from_IsUtf8 (97 ∷ []) (IsUtf8-from_ascii (97 ∷ []) low)
  where
    low : (i : ℕ) → get_or (97 ∷ []) i 0 < 128
    low zero = omega arith
    low (suc i) = omega arith

-- a peer that has the request of a user alone is sound
pub sound_alone : (site user : ℕ) → IsTrue (list_all is_message (Coop (sample_request 1 user) ∷ [])) → IsSound (peer_of_journal site (Coop (sample_request 1 user) ∷ []))
sound_alone site user formed = record {
  journal = (record { new = refl; complete = refl; legal = refl }, tt);
  keys = (refl, tt);
  formed = formed;
  requests = omega arith;
  entries = omega arith;
  few_held = omega arith;
  foreign = refl;
}

-- the writer's
sound_offered : (site : ℕ) → IsSound (peer_of_journal site (sample_message ∷ []))
sound_offered site = sound_alone site 1 (rw letter_is_text refl)

-- and the owner's
pub sound_written : (site : ℕ) → IsSound (peer_of_journal site (Coop (sample_request 1 0) ∷ []))
sound_written site = sound_alone site 0 (rw letter_is_text refl)

pub no_fork_sample : NoForkSample
no_fork_sample document secret = (
  happens document secret,
  (
    record { link = _; open_is = refl; next = refl; saved = omega arith },
    (rw (same_bytes document, same_bytes (sha256 secret)) refl, ((refl, lit< tt), (refl, (refl, tt)))),
  ),
  sound_offered 0,
  record { more = []; journal = refl },
  record { link = sample_link; later = []; earlier = Saved ∷ offered document secret; gave = refl },
  record { link = sample_link; later = []; earlier = linked (peer_of_journal 0 (sample_message ∷ [])) Writer document secret; gave = refl },
)

pub in_order_sample : InOrderSample
in_order_sample document secret = (happens document secret, refl, refl)

pub closed_sample : ClosedSample
closed_sample document secret = (
  (
    record { link = _; open_is = refl; next = refl; saved = omega arith },
    (rw (same_bytes document, same_bytes (sha256 secret)) refl, (refl, happens document secret)),
  ),
  omega arith,
  refl,
)

pub device_closed_sample : DeviceClosedSample
device_closed_sample document secret = (
  record { link = _; open_is = refl; next = refl; saved = omega arith },
  (rw (same_bytes document, same_bytes (sha256 secret)) refl, ((refl, lit< tt), (refl, happens document secret))),
)

pub share_sample : ShareSample
share_sample document secret = ((happens document secret).1.1, refl, lit< tt, refl, refl, refl)

pub page_sample : PageSample
page_sample document secret = (
  (refl, (rw (same_bytes document, same_bytes (sha256 secret)) refl, ((refl, lit< tt), (refl, (refl, tt))))),
  sound_written 0,
  record { journal = (sound_written 1).journal; forth = λ q h. h; back = λ q h. h; log = refl },
  refl,
)
