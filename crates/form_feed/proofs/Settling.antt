-- Settle steps, one after the other.
use Rattle.std.proofs.Common.{◌≡◌, ℕ, zero, suc, ◌≤◌, ◌<◌, Bool, true, false, List, [], length, Option, Some, None, ◌++◌, cond, refl, sym, ap, subst, ◌∙◌, append_assoc, arith}
use Rattle.std.specs.Prelude.{not, find, remove}
use Rattle.std.specs.Option.{option_map_or}
use Rattle.std.specs.List.{flat_map, position_or_len}
use Rattle.std.proofs.lemmas.Bool.{true≢false}
use Rattle.std.proofs.lemmas.List.{append-nil}
use Rattle.std.proofs.lemmas.List.Folds.{find_at}
use Rattle.std.proofs.lemmas.List.Concat.{flat_map-cons}
use Rattle.std.proofs.lemmas.List.Edits.{length-remove}
use Rattle.std.proofs.lemmas.Option.{slice_get_within}
use Rattle.policy_book.specs.declared.fault.EntryFault.{EntryFault}
use Rattle.policy_book.specs.Entry.{Entry}
use Rattle.edit_message.specs.declared.message.Message.{Message}
use Rattle.edit_message.specs.declared.message.Message.TheVariants.{Coop, Admin}
use Rattle.peer_step.specs.declared.step.Step.TheVariants.{Settle}
use Rattle.peer_step.specs.declared.answer.Answer.{Answer}
use Rattle.peer_step.specs.declared.answer.Answer.TheVariants.{Quiet, Dropped, Settled}
use Rattle.peer_tables.specs.Derived.{is_due}
use Rattle.peer_core.specs.Peer.{Peer}
use Rattle.peer_core.specs.Answers.{answer_due, answer_settle, fault_in, outcome_of}
use Rattle.peer_core.specs.After.{peer_after, changed_by, let_go}
use Rattle.peer_step.specs.Answers.{is_quiet}
use Rattle.form_feed.specs.Turn.{settle_told, SettleRun, run_first, settle_steps, all_settle_steps}

pub quiet_is : (a : Answer) → is_quiet a ≡ true → a ≡ Quiet
quiet_is Quiet h = refl
quiet_is answer h = absurd cc

-- ---- one step

-- where nothing is due the peer stays
pub quiet_stays : (p : Peer) → is_quiet (answer_settle p) ≡ true → peer_after p Settle ≡ p
quiet_stays p h = ap (changed_by p Settle) (quiet_is (answer_settle p) h)

-- an entry that is due is held no more, be it legal or not
entry_leaves : (p : Peer) (e : Entry) (fault : Option EntryFault)
    → (changed_by p Settle (option_map_or (Dropped e) fault (Settled (Admin e) (outcome_of p (Admin e))))).held ≡ (let_go p).held
entry_leaves p e (Some fault) = refl
entry_leaves p e None = refl

-- nor is a message that is due
due_leaves : (p : Peer) (m : Message) → (changed_by p Settle (answer_due p m)).held ≡ (let_go p).held
due_leaves p (Coop q) = refl
due_leaves p (Admin e) = entry_leaves p e (fault_in p (Admin e))

-- a step that isn't quiet takes a held message away
less_by : (p : Peer) (found : Option Message) → find (is_due p.journal) p.held ≡ found → is_quiet (answer_settle p) ≡ false
    → length (peer_after p Settle).held < length p.held
less_by p None e h =
    let quiet : is_quiet (answer_settle p) ≡ true = ap (λ (o : Option Message). is_quiet (option_map_or (answer_due p) o Quiet)) e in
    absurd (true≢false (sym quiet ∙ h))
less_by p (Some m) e h =
    let place : ℕ = position_or_len (is_due p.journal) p.held in
    let within : place < length p.held = slice_get_within p.held place m (sym (find_at (is_due p.journal) p.held) ∙ e) in
    let left : (peer_after p Settle).held ≡ remove p.held place
    = ap (λ (o : Option Message). (changed_by p Settle (option_map_or (answer_due p) o Quiet)).held) e ∙ due_leaves p m in
    omega (arith, ap length left, length-remove p.held place within)

pub settle_less : (p : Peer) → is_quiet (answer_settle p) ≡ false → length (peer_after p Settle).held < length p.held
settle_less p h = less_by p (find (is_due p.journal) p.held) refl h

-- ---- all steps

abbrev one_by : Bool → ℕ → Peer → SettleRun
one_by quiet n p = elim quiet [
  | true ↦ record { answers = []; peer = p }
  | false ↦ run_first (answer_settle p) (settle_steps n (peer_after p Settle))
]

steps_quiet : (n : ℕ) (p : Peer) → is_quiet (answer_settle p) ≡ true → settle_steps n p ≡ record { answers = []; peer = p }
unfolding settle_steps
steps_quiet zero p h = refl
steps_quiet (suc n) p h = ap (λ (quiet : Bool). one_by quiet n p) h

steps_more : (n : ℕ) (p : Peer) → is_quiet (answer_settle p) ≡ false → settle_steps (suc n) p ≡ run_first (answer_settle p) (settle_steps n (peer_after p Settle))
unfolding settle_steps
steps_more n p h = ap (λ (quiet : Bool). one_by quiet n p) h

-- nothing is due where nothing is held
none_left : (p : Peer) → is_quiet (answer_settle p) ≡ false → length p.held ≤ 0 → ⊥
none_left p h none = omega (arith, settle_less p h, none)

-- with as many steps as there are held messages, all are made
enough : (n m : ℕ) (p : Peer) (quiet : Bool) → is_quiet (answer_settle p) ≡ quiet → length p.held ≤ n → length p.held ≤ m → settle_steps n p ≡ settle_steps m p
enough n m p true h le lf = steps_quiet n p h ∙ sym (steps_quiet m p h)
enough zero m p false h le lf = absurd (none_left p h le)
enough (suc n) zero p false h le lf = absurd (none_left p h lf)
enough (suc n) (suc m) p false h le lf =
    let less = settle_less p h in
    let q : Peer = peer_after p Settle in
    steps_more n p h
    ∙ ap (run_first (answer_settle p)) (enough n m q (is_quiet (answer_settle q)) refl (omega (arith, less, le)) (omega (arith, less, lf)))
    ∙ sym (steps_more m p h)

pub settled_quiet : (p : Peer) → is_quiet (answer_settle p) ≡ true → all_settle_steps p ≡ record { answers = []; peer = p }
unfolding all_settle_steps
settled_quiet p h = steps_quiet (length p.held) p h

pub settled_more : (p : Peer) → is_quiet (answer_settle p) ≡ false → all_settle_steps p ≡ run_first (answer_settle p) (all_settle_steps (peer_after p Settle))
unfolding all_settle_steps
settled_more p h =
    let less = settle_less p h in
    let q : Peer = peer_after p Settle in
    enough (length p.held) (suc (length p.held)) p false h (omega arith) (omega arith)
    ∙ steps_more (length p.held) p h
    ∙ ap (run_first (answer_settle p)) (enough (length p.held) (length q.held) q (is_quiet (answer_settle q)) refl (omega (arith, less)) (omega arith))

-- where nothing is held there are none
settled_none : (p : Peer) → length p.held ≤ 0 → all_settle_steps p ≡ record { answers = []; peer = p }
unfolding all_settle_steps settle_steps
settled_none p none = let zero_held : length p.held ≡ 0 = omega arith in ap (λ n. settle_steps n p) zero_held

-- after them nothing is due
steps_end : (n : ℕ) (p : Peer) (quiet : Bool) → is_quiet (answer_settle p) ≡ quiet → length p.held ≤ n → is_quiet (answer_settle (settle_steps n p).peer) ≡ true
steps_end n p true h le = ap (λ (a : SettleRun). is_quiet (answer_settle a.peer)) (steps_quiet n p h) ∙ h
steps_end zero p false h le = absurd (none_left p h le)
steps_end (suc n) p false h le =
    let q : Peer = peer_after p Settle in
    ap (λ (a : SettleRun). is_quiet (answer_settle a.peer)) (steps_more n p h)
    ∙ steps_end n q (is_quiet (answer_settle q)) refl (omega (arith, settle_less p h, le))

pub settled_ends : (p : Peer) → answer_settle (all_settle_steps p).peer ≡ Quiet
unfolding all_settle_steps
settled_ends p = quiet_is _ (steps_end (length p.held) p (is_quiet (answer_settle p)) refl (omega arith))

-- ---- the loop of steps, from the peer p with what was told so far to the peer q with what is told now

-- whether a message was due tells whether the answer is quiet
pub is_due_by : (due quiet : Bool) → due ≡ not quiet → due ≡ true → quiet ≡ false
is_due_by due false e h = refl
is_due_by due true e h = absurd (true≢false (sym h ∙ e))

pub not_due_by : (due quiet : Bool) → due ≡ not quiet → due ≡ false → quiet ≡ true
not_due_by due true e h = refl
not_due_by due false e h = absurd (true≢false (sym e ∙ h))

-- where nothing is held all is told, and the peer is the last one
pub lines_over : (line : Answer → List ℕ) (p : Peer) (lines all : List ℕ) → length p.held ≤ 0 → lines ++ flat_map line (all_settle_steps p).answers ≡ all → lines ≡ all
lines_over line p lines all none so_far =
    sym (append-nil lines) ∙ ap (λ (a : SettleRun). lines ++ flat_map line a.answers) (sym (settled_none p none)) ∙ so_far

pub peer_over : (p last : Peer) → length p.held ≤ 0 → (all_settle_steps p).peer ≡ last → p ≡ last
peer_over p last none so_far = ap (λ (a : SettleRun). a.peer) (sym (settled_none p none)) ∙ so_far

module _ (line : Answer → List ℕ) (p q : Peer) (lines now : List ℕ) (told : now ≡ lines ++ settle_told line (answer_settle p)) (after : q ≡ peer_after p Settle) where
  -- what is told of the steps from a peer on
  abbrev still : Peer → List ℕ
  still r = flat_map line (all_settle_steps r).answers

  -- at the end all is told, and the peer is the last one
  pub lines_end : (all : List ℕ) → is_quiet (answer_settle p) ≡ true → lines ++ still p ≡ all → now ≡ all
  lines_end all h so_far =
      told
      ∙ ap (λ (quiet : Bool). lines ++ cond quiet [] (line (answer_settle p))) h
      ∙ ap (λ (a : SettleRun). lines ++ flat_map line a.answers) (sym (settled_quiet p h))
      ∙ so_far

  pub peer_end : (last : Peer) → is_quiet (answer_settle p) ≡ true → (all_settle_steps p).peer ≡ last → q ≡ last
  peer_end last h so_far = after ∙ quiet_stays p h ∙ ap (λ (a : SettleRun). a.peer) (sym (settled_quiet p h)) ∙ so_far

  -- before it the same is still to come
  pub lines_more : (all : List ℕ) → is_quiet (answer_settle p) ≡ false → lines ++ still p ≡ all → now ++ still q ≡ all
  lines_more all h so_far =
      let one : List ℕ = line (answer_settle p) in
      let later : List ℕ = still (peer_after p Settle) in
      let first : still p ≡ one ++ later
      = ap (λ (a : SettleRun). flat_map line a.answers) (settled_more p h) ∙ flat_map-cons line (answer_settle p) (all_settle_steps (peer_after p Settle)).answers in
      ap (λ (r : Peer). now ++ still r) after
      ∙ ap (λ (l : List ℕ). l ++ later) (told ∙ ap (λ (quiet : Bool). lines ++ cond quiet [] one) h)
      ∙ append_assoc lines one later
      ∙ ap (λ (l : List ℕ). lines ++ l) (sym first)
      ∙ so_far

  pub peer_more : (last : Peer) → is_quiet (answer_settle p) ≡ false → (all_settle_steps p).peer ≡ last → (all_settle_steps q).peer ≡ last
  peer_more last h so_far = ap (λ (r : Peer). (all_settle_steps r).peer) after ∙ ap (λ (a : SettleRun). a.peer) (sym (settled_more p h)) ∙ so_far

  -- and there is less of it
  pub held_less : is_quiet (answer_settle p) ≡ false → length q.held < length p.held
  held_less h = subst (λ (r : Peer). length r.held < length p.held) (sym after) (settle_less p h)
