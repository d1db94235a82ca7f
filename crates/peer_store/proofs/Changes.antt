-- A step changes a peer exactly where it changes a count of messages.
use Rattle.std.proofs.Common.{◌≡◌, ℕ, suc, ◌≤◌, ◌<◌, Bool, true, false, not, ◌||◌, ◌==◌, List, [], ◌∷◌, ◌++◌, length, refl, ◌∙◌, ap, arith, length-append, ⊎_elim}
use Rattle.std.specs.Prelude.{remove}
use Rattle.std.specs.List.{position_or_len}
use Rattle.std.proofs.lemmas.Bool.{cases_lt, eqb-true, eq-eqb, true≢false, false≢true}
use Rattle.std.proofs.lemmas.List.{append-nil, drop_all, take_all}
use Rattle.std.proofs.lemmas.List.Edits.{length-remove}
use Rattle.edit_message.specs.declared.message.Message.{Message}
use Rattle.edit_message.specs.declared.message.Message.TheVariants.{Coop, Admin}
use Rattle.peer_step.specs.declared.step.Step.{Step}
use Rattle.peer_step.specs.declared.step.Step.TheVariants.{Edit, Administer, Receive, Settle, ValidateNext, Look, Show}
use Rattle.peer_step.specs.declared.answer.Answer.{Answer}
use Rattle.peer_step.specs.declared.answer.Answer.TheVariants.{Done}
use Rattle.peer_step.specs.declared.answer.Answer.TheVariants.{Issued, Held}
use Rattle.peer_step.specs.declared.answer.Answer.TheVariants.{Taken, Advanced, Dropped, Settled}
use Rattle.peer_tables.specs.Derived.{is_due}
use Rattle.peer_core.specs.Peer.{Peer}
use Rattle.peer_core.specs.Answers.{answer_of}
use Rattle.peer_core.specs.After.{let_go, changed_by, peer_after}
use Rattle.peer_store.specs.Steps.{differs_in_counts, changes, is_look}

-- neither of two tests fails
neither : (x y : Bool) → (not x || not y) ≡ false → (x ≡ true) × (y ≡ true)
neither true true none = (refl, refl)
neither true false none = absurd (true≢false none)
neither false y none = absurd (true≢false none)

-- peers that don't differ in their counts have as many messages, and hold as many
same_counts : (p r : Peer) → differs_in_counts p r ≡ false → (length r.journal ≡ length p.journal) × (length r.held ≡ length p.held)
same_counts p r same =
    let both = neither (length r.journal == length p.journal) (length r.held == length p.held) same in
    (eqb-true (length r.journal) (length p.journal) both.0, eqb-true (length r.held) (length p.held) both.1)

-- a peer doesn't differ from itself
pub no_difference : (p : Peer) → differs_in_counts p p ≡ false
no_difference p i = not (eq-eqb (length p.journal) (length p.journal) refl i) || not (eq-eqb (length p.held) (length p.held) refl i)

-- a removal that takes nothing out leaves the list
nothing_out : {X : Type 0} (xs : List X) (i : ℕ) → length (remove xs i) ≡ length xs → remove xs i ≡ xs
nothing_out xs i same = ⊎_elim
    (λ (within : i < length xs). absurd (omega (arith, length-remove xs i within, same)))
    (λ (past : length xs ≤ i). (λ k. take_all i xs past k ++ drop_all (suc i) xs (omega (arith, past)) k) ∙ append-nil xs)
    (cases_lt i (length xs))

-- with one message more it isn't as many
more : {A : Type 0} (messages : List Message) (m : Message) → length (messages ++ m ∷ []) ≡ length messages → A
more messages m same = absurd (omega (arith, same, length-append messages (m ∷ [])))

with_held : Peer → List Message → Peer
with_held p held = record { site = p.site; journal = p.journal; held = held }

let_go_same : (p : Peer) → length (let_go p).held ≡ length p.held → let_go p ≡ p
unfolding with_held
let_go_same p same = ap (with_held p) (nothing_out p.held (position_or_len (is_due p.journal) p.held) same)

unchanged_by : (p : Peer) (step : Step) (a : Answer) → length (changed_by p step a).journal ≡ length p.journal → length (changed_by p step a).held ≡ length p.held → changed_by p step a ≡ p
unchanged_by p step (Done q) joined held = more p.journal (Coop q) joined
unchanged_by p step (Issued e undone) joined held = more p.journal (Admin e) joined
unchanged_by p (Receive m) (Held what) joined held = more p.held m held
unchanged_by p (Receive m) (Taken state) joined held = more p.journal m joined
unchanged_by p (Receive m) (Advanced e undone) joined held = more p.journal m joined
unchanged_by p step (Dropped e fault) joined held = let_go_same p held
unchanged_by p step (Settled m outcome) joined held = more p.journal m joined
unchanged_by p step _ joined held = refl

-- a step that changes no count leaves the peer
pub unchanged : (p : Peer) (step : Step) → changes p step ≡ false → peer_after p step ≡ p
unchanged p step quiet =
    let same = same_counts p (peer_after p step) quiet in
    unchanged_by p step (answer_of p step) same.0 same.1

-- a step that leaves the peer changes no count
pub quiet_where_same : (p : Peer) (step : Step) → peer_after p step ≡ p → changes p step ≡ false
quiet_where_same p step same = ap (differs_in_counts p) same ∙ no_difference p

pub looks_change_nothing : (p : Peer) (step : Step) → is_look step ≡ true → changes p step ≡ false
looks_change_nothing p (Edit edit) look = absurd (false≢true look)
looks_change_nothing p (Administer op) look = absurd (false≢true look)
looks_change_nothing p (Receive m) look = absurd (false≢true look)
looks_change_nothing p Settle look = absurd (false≢true look)
looks_change_nothing p ValidateNext look = absurd (false≢true look)
looks_change_nothing p (Look from) look = no_difference p
looks_change_nothing p Show look = no_difference p
