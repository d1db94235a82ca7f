-- What small pasts give.
use Rattle.std.proofs.Common.{[], ◌∷◌, refl, arith, inl}
use Rattle.tomb_seq.proofs.Has.{Contains-from_Has}
use Rattle.peer_core.specs.Restore.{peer_of_journal}
use Rattle.host_core.proofs.Samples.{sound_written}
use Rattle.follow_core.specs.declared.event.FollowEvent.TheVariants.{Began, Saved, Told, Linked}
use Rattle.follow_core.specs.Happens.{IsFollowPast}
use Rattle.follow_core.specs.Samples.{written_message, written_past, sent_past}
use Rattle.follow_core.specs.Samples.{SavedBeforePassedSample, OneMessageSample, PassedInOrderSample, BackSample, TakenOnceSample, ReplaySample}

happens : IsFollowPast sent_past
happens = (record { link = _; link_is = refl; next = refl; saved = omega arith }, (refl, (omega arith, (tt, (tt, ((refl, omega arith), tt))))))

pub saved_sample : SavedBeforePassedSample
saved_sample = (happens, refl, refl, refl)

pub no_fork_sample : OneMessageSample
no_fork_sample = (
  happens,
  (record { link = _; link_is = refl; next = refl; saved = omega arith }, (refl, ((refl, omega arith), tt))),
  sound_written 0,
  record { more = []; journal = refl },
  record { later = []; earlier = Linked 0 ∷ Told ∷ Saved ∷ written_past; passed = refl },
  record { later = []; earlier = Linked 0 ∷ Began (peer_of_journal 0 (written_message ∷ [])) 0 ∷ []; passed = refl },
)

pub in_order_sample : PassedInOrderSample
in_order_sample = (happens, refl, refl, refl)

pub back_sample : BackSample
back_sample = (
  (refl, (record { behind = omega arith; saved = omega arith; own = refl }, (tt, happens))),
  refl,
  refl,
)

pub taken_once_sample : TakenOnceSample
taken_once_sample = (sound_written 0, Contains-from_Has (written_message ∷ []) written_message (inl refl))

pub replay_sample : ReplaySample
replay_sample = (happens, refl, refl)
