-- A message that a peer has integrated is answered so, and changes nothing.
use Rattle.std.proofs.Common.{◌≡◌, ℕ, zero, suc, inl, inr, Bool, true, false, cond, List, [], ◌∷◌, ◌++◌, Some, refl, ap, ◌∙◌}
use Rattle.std.specs.Prelude.{slice_get, find, option_map, unwrap_or}
use Rattle.std.specs.declared.option.Option.{Option}
use Rattle.edit_message.specs.declared.message.Message.{Message}
use Rattle.edit_message.specs.Message.{key_of, find_key}
use Rattle.edit_message.proofs.SameMessages.{message_Decides}
use Rattle.peer_step.specs.declared.step.Step.TheVariants.{Receive}
use Rattle.peer_step.specs.declared.answer.Answer.TheVariants.{Repeat, Conflict}
use Rattle.element_name.specs.Cases.{first_of}
use Rattle.tomb_seq.proofs.Has.{Has, Has-from_Contains}
use Rattle.peer_tables.proofs.ItemLemmas.{found_again}
use Rattle.peer_core.specs.Peer.{Peer, missing}
use Rattle.peer_core.specs.Answers.{answer_of, answer_known, answer_missing, answer_taken, rows_of_message}
use Rattle.peer_core.specs.After.{changed_by}
use Rattle.peer_core.specs.Sound.{IsSound}
use Rattle.follow_core.specs.Laws.{TakenOnceLaw}

-- where a message stands
place_of : (J : List Message) (m : Message) → Has J m → (i : ℕ) × (slice_get J i ≡ Some m)
place_of [] m h = absurd h
place_of (x ∷ J) m (inl p) = (zero, ap Some p)
place_of (x ∷ J) m (inr h) = let rest = place_of J m h in (suc rest.0, rest.1)

-- what is found in a list is found with more behind it
found_in_front : (test : Message → Bool) (J H : List Message) (x : Message) → find test J ≡ Some x → find test (J ++ H) ≡ Some x
found_in_front test [] H x h = absurd cc
found_in_front test (y ∷ J) H x h = by (test y) h (found_in_front test J H x)
  where
    by : (b : Bool) → cond b (Some y) (find test J) ≡ Some x → (find test J ≡ Some x → find test (J ++ H) ≡ Some x) → cond b (Some y) (find test (J ++ H)) ≡ Some x
    by true g rest = g
    by false g rest = rest g

-- it is found by its key
found : (p : Peer) (m : Message) → IsSound p → Has p.journal m → find_key (key_of m) (p.journal ++ p.held) ≡ Some m
found p m sound has =
    let at = place_of p.journal m has in
    found_in_front _ p.journal p.held m (found_again p.journal at.0 (key_of m) sound.journal (ap (option_map key_of) at.1) ∙ at.1)

-- it is answered so
repeated : (p : Peer) (m : Message) → IsSound p → Has p.journal m → answer_of p (Receive m) ≡ Repeat
repeated p m sound has =
    ap (λ (o : Option Message). unwrap_or (first_of (option_map (answer_known m) o ∷ rows_of_message p m ++ option_map (answer_missing p) (missing p m) ∷ [])) (answer_taken p m)) (found p m sound has)
    ∙ ap (λ (b : Bool). cond b Repeat (Conflict m)) ((message_Decides m m).1 refl)

pub taken_once : TakenOnceLaw
taken_once p m sound contains =
    let same = repeated p m sound (Has-from_Contains p.journal m contains) in
    (same, ap (changed_by p (Receive m)) same)
