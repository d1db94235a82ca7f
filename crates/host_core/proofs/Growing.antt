-- What a step makes of what a peer has.
use Rattle.std.proofs.Common.{◌≡◌, ℕ, zero, suc, inl, inr, ⊎_elim, Bool, true, false, cond, List, [], ◌∷◌, ◌++◌, Some, refl, ap, subst}
use Rattle.std.specs.Prelude.{◌⊎◌, find, remove}
use Rattle.std.specs.List.{position_or_len}
use Rattle.edit_message.specs.declared.message.Message.{Message}
use Rattle.edit_message.specs.declared.message.Message.TheVariants.{Coop, Admin}
use Rattle.request_state.specs.declared.state.Undone.{Undone}
use Rattle.peer_step.specs.declared.step.Step.{Step}
use Rattle.peer_step.specs.declared.step.Step.TheVariants.{Receive}
use Rattle.peer_step.specs.declared.answer.Answer.{Answer}
use Rattle.peer_step.specs.declared.answer.Answer.TheVariants.{Done, Issued, Held, Taken, Advanced, Dropped, Settled}
use Rattle.tomb_seq.proofs.Has.{Has, Has-append_cases, Has-append_right, Has-from_Contains, Contains-from_Has}
use Rattle.std.proofs.lemmas.List.Elements.{Contains-append_left}
use Rattle.peer_tables.specs.Derived.{is_due}
use Rattle.peer_core.specs.Peer.{Peer}
use Rattle.peer_core.specs.Answers.{answer_of}
use Rattle.peer_core.specs.After.{changed_by, peer_after}
use Rattle.peer_core.proofs.AnswerLemmas.Causes.{Cause, cause}
use Rattle.host_core.specs.Laws.{messages_had}

-- ---- what stands in lists

has_left : (xs ys : List Message) (x : Message) → Has xs x → Has (xs ++ ys) x
has_left xs ys x h = Has-from_Contains (xs ++ ys) x (Contains-append_left xs ys x (Contains-from_Has xs x h))

-- what was found stands there
found_there : (test : Message → Bool) (xs : List Message) (x : Message) → find test xs ≡ Some x → Has xs x
found_there test [] x h = absurd cc
found_there test (y ∷ xs) x h = by (test y) h (found_there test xs x)
  where
    by : (b : Bool) → cond b (Some y) (find test xs) ≡ Some x → (find test xs ≡ Some x → Has xs x) → Has (y ∷ xs) x
    by true g rest = inl cc
    by false g rest = inr (rest g)

-- what is held after one was taken out was held before
still_held : (held : List Message) (k : ℕ) (x : Message) → Has (remove held k) x → Has held x
still_held [] zero x h = absurd h
still_held [] (suc k) x h = absurd h
still_held (y ∷ held) zero x h = inr h
still_held (y ∷ held) (suc k) x (inl p) = inl p
still_held (y ∷ held) (suc k) x (inr h) = inr (still_held held k x h)

-- with one more in the first of two lists
one_more : (J H : List Message) (y x : Message) → Has ((J ++ y ∷ []) ++ H) x → Has (J ++ H) x ⊎ (y ≡ x)
one_more J H y x h = ⊎_elim
    (λ (front : Has (J ++ y ∷ []) x). ⊎_elim
    (λ (old : Has J x). inl (has_left J H x old))
    (λ (new : Has (y ∷ []) x). last new)
    (Has-append_cases J (y ∷ []) x front))
    (λ (held : Has H x). inl (Has-append_right J H x held))
    (Has-append_cases (J ++ y ∷ []) H x h)
  where
    last : Has (y ∷ []) x → Has (J ++ H) x ⊎ (y ≡ x)
    last (inl same) = inr same
    last (inr none) = absurd none

-- with one more in the second
one_more_held : (J H : List Message) (y x : Message) → Has (J ++ (H ++ y ∷ [])) x → Has (J ++ H) x ⊎ (y ≡ x)
one_more_held J H y x h = ⊎_elim
    (λ (old : Has J x). inl (has_left J H x old))
    (λ (more : Has (H ++ y ∷ []) x). ⊎_elim
    (λ (held : Has H x). inl (Has-append_right J H x held))
    (λ (new : Has (y ∷ []) x). last new)
    (Has-append_cases H (y ∷ []) x more))
    (Has-append_cases J (H ++ y ∷ []) x h)
  where
    last : Has (y ∷ []) x → Has (J ++ H) x ⊎ (y ≡ x)
    last (inl same) = inr same
    last (inr none) = absurd none

-- with fewer in the second
fewer_held : (J H : List Message) (k : ℕ) (x : Message) → Has (J ++ remove H k) x → Has (J ++ H) x
fewer_held J H k x h = ⊎_elim
    (λ (old : Has J x). has_left J H x old)
    (λ (held : Has (remove H k) x). Has-append_right J H x (still_held H k x held))
    (Has-append_cases J (remove H k) x h)

-- ---- where a message comes from

-- a request of the peer's own site, or an entry that the answer issued
abbrev pub IsOwnMessage : Peer → Answer → Message → Type 0
IsOwnMessage p answer (Coop q) = q.id.site ≡ p.site
IsOwnMessage p answer (Admin e) = (undone : Undone) × (answer ≡ Issued e undone)

-- it was there, or was received, or is the peer's own
abbrev pub Origin : Peer → Step → Answer → Message → Type 0
Origin p step answer m = Has (messages_had p) m ⊎ ((step ≡ Receive m) ⊎ IsOwnMessage p answer m)

origin_of : (p : Peer) (step : Step) (answer : Answer) (m : Message) → Cause p step answer → Has (messages_had (changed_by p step answer)) m → Origin p step answer m
origin_of p step (Done q) m own h = ⊎_elim
    (λ (old : Has (messages_had p) m). inl old)
    (λ (new : Coop q ≡ m). inr (inr (subst (IsOwnMessage p (Done q)) new own)))
    (one_more p.journal p.held (Coop q) m h)
origin_of p step (Issued e undone) m own h = ⊎_elim
    (λ (old : Has (messages_had p) m). inl old)
    (λ (new : Admin e ≡ m). inr (inr (subst (IsOwnMessage p (Issued e undone)) new (undone, refl))))
    (one_more p.journal p.held (Admin e) m h)
origin_of p (Receive y) (Held what) m own h = ⊎_elim
    (λ (old : Has (messages_had p) m). inl old)
    (λ (new : y ≡ m). inr (inl (ap Receive new)))
    (one_more_held p.journal p.held y m h)
origin_of p (Receive y) (Taken state) m own h = ⊎_elim
    (λ (old : Has (messages_had p) m). inl old)
    (λ (new : y ≡ m). inr (inl (ap Receive new)))
    (one_more p.journal p.held y m h)
origin_of p (Receive y) (Advanced e undone) m own h = ⊎_elim
    (λ (old : Has (messages_had p) m). inl old)
    (λ (new : y ≡ m). inr (inl (ap Receive new)))
    (one_more p.journal p.held y m h)
origin_of p step (Dropped e fault) m own h = inl (fewer_held p.journal p.held (position_or_len (is_due p.journal) p.held) m h)
origin_of p step (Settled y outcome) m own h = ⊎_elim
    (λ (old : Has (p.journal ++ remove p.held (position_or_len (is_due p.journal) p.held)) m). inl (fewer_held p.journal p.held (position_or_len (is_due p.journal) p.held) m old))
    (λ (new : y ≡ m). inl (Has-append_right p.journal p.held m (subst (Has p.held) new (found_there (is_due p.journal) p.held y own))))
    (one_more p.journal (remove p.held (position_or_len (is_due p.journal) p.held)) y m h)
origin_of p step answer m own h = inl h

pub origin : (p : Peer) (step : Step) (m : Message) → Has (messages_had (peer_after p step)) m → Origin p step (answer_of p step) m
origin p step m h = origin_of p step (answer_of p step) m (cause p step) h
