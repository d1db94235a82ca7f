-- Peers with the same requests and the same log have as many requests in each state.
use Rattle.std.proofs.Common.{◌≡◌, ℕ, ◌+◌, Bool, cond, List, [], ◌∷◌, ap, ◌∙◌}
use Rattle.std.specs.Prelude.{count_by}
use Rattle.std.proofs.lemmas.List.Sums.{sum_by-append}
use Rattle.coop_request.specs.Request.{Request}
use Rattle.tomb_seq.proofs.Has.{Has-from_Contains, Contains-from_Has}
use Rattle.request_state.specs.declared.state.State.{State}
use Rattle.peer_core.specs.Peer.{Peer, history, state_at}
use Rattle.peer_tables.specs.Laws.{HaveSameSets, LookAlike}
use Rattle.peer_tables.proofs.JournalLemmas.{history_law}
use Rattle.peer_tables.proofs.HistoryLemmas.{once_law}
use Rattle.peer_tables.proofs.SameSetLemmas.{IsOnce, AreAlike, alike_from}
use Rattle.peer_tables.proofs.KeptLemmas.Tables.{count_alike}

-- one more
pub count_cons : {X : Type 0} (test : X → Bool) (x : X) (xs : List X) → count_by test (x ∷ xs) ≡ count_by test (x ∷ []) + count_by test xs
count_cons {X} test x xs = let weight : X → ℕ = λ y. cond (test y) 1 0 in sum_by-append weight (x ∷ []) xs

-- as many of the requests are kept in a state that passes the test
pub same_states_count : (test : State → Bool) (p q : Peer) → HaveSameSets p.journal q.journal → LookAlike p.journal q.journal
    → count_by (λ r. test (state_at p r)) (history p) ≡ count_by (λ r. test (state_at q r)) (history q)
same_states_count test p q sets look =
    let R : List Request = history p in
    let S : List Request = history q in
    let once_R : IsOnce R = once_law R (history_law p.journal sets.first) in
    let once_S : IsOnce S = once_law S (history_law q.journal sets.second) in
    let alike : AreAlike R S = alike_from R S once_R once_S
    (λ r h. Has-from_Contains S r (sets.forth r (Contains-from_Has R r h)))
    (λ r h. Has-from_Contains R r (sets.back r (Contains-from_Has S r h))) in
    count_alike (λ r. test (state_at p r)) R S once_R once_S alike
    ∙ ap (λ (state : Request → State). count_by (λ r. test (state r)) S) (λ i r. look.states r i)
