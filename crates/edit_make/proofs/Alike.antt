-- Peers that look alike have equal lines behind their numbers.
use Rattle.std.proofs.Common.{◌≡◌, ℕ, ◌+◌, ◌<◌, ◌≤◌, inl, inr, Bool, Option, Some, None, List, [], ◌∷◌, ◌++◌, length, refl, ap, sym, ◌∙◌, arith}
use Rattle.std.specs.Prelude.{count_by, filter_map, option_map, codes, decimal}
use Rattle.std.specs.List.{cons_option, concat}
use Rattle.tomb_seq.proofs.Has.{Has}
use Rattle.line_spelling.specs.Line.{line_of}
use Rattle.line_spelling.specs.Values.{spaced}
use Rattle.coop_request.specs.Request.{Request}
use Rattle.coop_request.specs.History.{request_of}
use Rattle.edit_message.specs.declared.message.Message.{Message}
use Rattle.edit_message.specs.declared.message.Message.TheVariants.{Coop, Admin}
use Rattle.edit_message.specs.Message.{requests_of}
use Rattle.request_state.specs.declared.state.State.{State}
use Rattle.request_state.specs.State.{is_tentative, is_invalid}
use Rattle.peer_core.specs.Peer.{Peer, history, state_at, text}
use Rattle.peer_tables.specs.Journal.{IsJournal}
use Rattle.peer_tables.specs.Laws.{HaveSameSets, LookAlike, SetLaw}
use Rattle.peer_tables.proofs.JournalLemmas.{history_law}
use Rattle.peer_tables.proofs.HistoryLemmas.{once_law}
use Rattle.peer_tables.proofs.SameSetLemmas.{has_found}
use Rattle.replay_net.specs.World.{World, peer_of}
use Rattle.replay_net.proofs.SameCounts.{count_cons, same_states_count}
use Rattle.replay_net.proofs.Settling.{settled_sets}
use Rattle.edit_make.specs.declared.limits.TheConstants.{PEERS, MAX_EDITS}
use Rattle.edit_make.specs.Schedule.{made_lines, made_world}
use Rattle.edit_make.specs.Summary.{is_valid, state_kept, count_kept, head_words, words_behind_number}
use Rattle.edit_make.specs.Laws.{MadeHonestLaw, MadeSettledLaw, MadeAlikeLaw, SummaryAlikeLaw}
use Rattle.edit_make.proofs.HonestCourses.{made_honest}
use Rattle.edit_make.proofs.Rounds.{made_all}

-- ---- how many requests of a journal are kept in a state

-- they are counted among its requests
kept_among : (test : State → Bool) (p : Peer) (messages : List Message) → ((q : Request) → Has (requests_of messages) q → request_of (history p) q.id ≡ Some q)
    → count_kept test p messages ≡ count_by (λ q. test (state_at p q)) (requests_of messages)
unfolding state_kept
kept_among test p [] found = refl
kept_among test p (Admin e ∷ messages) found = kept_among test p messages found
kept_among test p (Coop q ∷ messages) found = by (request_of (history p) q.id) (found q (inl refl)) (kept_among test p messages (λ r h. found r (inr h)))
  where
    by : (o : Option Request) → o ≡ Some q → count_kept test p messages ≡ count_by (λ r. test (state_at p r)) (requests_of messages)
        → count_by test (cons_option (option_map (state_at p) o) (filter_map (state_kept p) messages)) ≡ count_by (λ r. test (state_at p r)) (q ∷ requests_of messages)
    by None is rest = absurd cc
    by (Some r) is rest =
        let same : r ≡ q = cc in
        let one : count_by test (state_at p r ∷ []) ≡ count_by (λ x. test (state_at p x)) (q ∷ []) = ap (λ (x : Request). count_by test (state_at p x ∷ [])) same in
        omega (arith, count_cons test (state_at p r) (filter_map (state_kept p) messages), count_cons (λ x. test (state_at p x)) q (requests_of messages), one, rest)

kept_counted : (test : State → Bool) (p : Peer) → IsJournal p.journal → count_kept test p p.journal ≡ count_by (λ q. test (state_at p q)) (history p)
kept_counted test p journal =
    kept_among test p p.journal (λ q h. has_found (history p) q (once_law (history p) (history_law p.journal journal)) h)

-- as many in peers with the same requests and the same log
same_kept : (test : State → Bool) (p q : Peer) → HaveSameSets p.journal q.journal → LookAlike p.journal q.journal
    → count_kept test p p.journal ≡ count_kept test q q.journal
same_kept test p q sets look = kept_counted test p sets.first ∙ same_states_count test p q sets look ∙ sym (kept_counted test q sets.second)

-- ---- the words

-- what is said of these counts and this text
said : ℕ → ℕ → ℕ → List (List ℕ) → List (List ℕ)
said valid tentative invalid pieces =
    (codes "valid" ∷ decimal valid ∷ codes "tentative" ∷ decimal tentative ∷ codes "invalid" ∷ decimal invalid ∷ codes "length" ∷ decimal (length pieces) ∷ [])
    ++ head_words (concat pieces)

-- peers that look alike have the same words behind their numbers
pub same_words : (p q : Peer) → HaveSameSets p.journal q.journal → LookAlike p.journal q.journal → words_behind_number p ≡ words_behind_number q
unfolding said
same_words p q sets look =
    let valid = same_kept is_valid p q sets look in
    let tentative = same_kept is_tentative p q sets look in
    let invalid = same_kept is_invalid p q sets look in
    ap (λ (n : ℕ). said n (count_kept is_tentative p p.journal) (count_kept is_invalid p p.journal) (text p)) valid
    ∙ ap (λ (n : ℕ). said (count_kept is_valid q q.journal) n (count_kept is_invalid p p.journal) (text p)) tentative
    ∙ ap (λ (n : ℕ). said (count_kept is_valid q q.journal) (count_kept is_tentative q q.journal) n (text p)) invalid
    ∙ ap (λ (pieces : List (List ℕ)). said (count_kept is_valid q q.journal) (count_kept is_tentative q q.journal) (count_kept is_invalid q q.journal) pieces) look.texts

-- ---- the laws

pub made_honest_law : MadeHonestLaw
made_honest_law seed edits = record { few = omega arith; lines_are = made_honest seed edits }

pub made_settled_law : MadeSettledLaw
made_settled_law seed edits i most within = made_all seed edits most i within

-- any two peers have the same requests and the same log in the end
made_sets : (seed edits i j : ℕ) → edits ≤ MAX_EDITS → i < PEERS → j < PEERS
    → HaveSameSets (peer_of (made_world seed edits) i).journal (peer_of (made_world seed edits) j).journal
made_sets seed edits i j most first second =
    settled_sets PEERS i j (made_lines seed edits) (made_honest_law seed edits) first second (made_all seed edits most i first) (made_all seed edits most j second)

pub made_alike_law : SetLaw → MadeAlikeLaw
made_alike_law set seed edits i j most first second =
    let w : World = made_world seed edits in
    set (peer_of w i).journal (peer_of w j).journal (made_sets seed edits i j most first second)

pub summary_alike_law : SetLaw → SummaryAlikeLaw
summary_alike_law set seed edits i most within =
    let w : World = made_world seed edits in
    let first : 0 < PEERS = omega arith in
    ap (λ (words : List (List ℕ)). line_of (spaced (codes "peer" ∷ decimal i ∷ words)))
    (same_words (peer_of w i) (peer_of w 0) (made_sets seed edits i 0 most within first) (made_alike_law set seed edits i 0 most within first))
