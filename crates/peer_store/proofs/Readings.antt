-- That bytes are one store, if they are any.
use Rattle.std.proofs.Common.{◌≡◌, inl, inr, ⊎_elim, ℕ, ◌+◌, List, [], ◌∷◌, ◌++◌, take, refl, sym, ◌∙◌, ap, subst, append_assoc}
use Rattle.std.specs.Prelude.{fold}
use Rattle.std.proofs.lemmas.Bool.{both_ways}
use Rattle.std.proofs.lemmas.List.Elements.{All-push}
use Rattle.peer_disk.specs.declared.layout.TheConstants.{FIRST_GATE}
use Rattle.peer_disk.specs.Records.{file_head, HasHead, records, FitsRecord, HasBodies, BreaksAfter, IsNoRecord}
use Rattle.peer_disk.proofs.Readings.{continues}
use Rattle.peer_store.specs.Body.{IsBody}
use Rattle.peer_step.specs.declared.step.Step.{Step}
use Rattle.peer_core.specs.Peer.{Peer, fresh_peer, front}
use Rattle.peer_core.specs.After.{peer_after}
use Rattle.peer_store.specs.Steps.{changes, replay_of}
use Rattle.peer_store.specs.Store.{KeptAs, StandsFor, IsNoStep, BeginsWithNoStep, BreaksOffAt, IsNoStoreFrom}
use Rattle.peer_store.proofs.Replays.{behind_made}

-- bodies are read in one way
abbrev pub OneReading : Type 0
OneReading = (site : ℕ) (file : List ℕ) (first second : List (List ℕ)) → HasBodies site first file → HasBodies site second file → first ≡ second

abbrev pub BrokenHasNone : Type 0
BrokenHasNone = (site : ℕ) (file : List ℕ) (first second : List (List ℕ)) → BreaksAfter site first file → HasBodies site second file → ⊥

abbrev pub OneStep : Type 0
OneStep = (version : ℕ) (bytes : List ℕ) (first second : Step) → IsBody version first bytes → IsBody version second bytes → first ≡ second

-- ---- steps by their bodies

pub same_steps : OneStep → (p : Peer) (bodies : List (List ℕ)) (first second : List Step) → KeptAs p first bodies → KeptAs p second bodies → first ≡ second
same_steps one p [] [] [] a b = refl
same_steps one p [] [] (t ∷ second) a b = absurd b
same_steps one p [] (s ∷ first) second a b = absurd a
same_steps one p (body ∷ bodies) [] second a b = absurd a
same_steps one p (body ∷ bodies) (s ∷ first) [] a b = absurd b
same_steps one p (body ∷ bodies) (s ∷ first) (t ∷ second) a b =
    let same : s ≡ t = one (front p + 1) body s t a.0 b.0 in
    let rest : first ≡ second = same_steps one (peer_after p t) bodies first second (subst (λ x. KeptAs (peer_after p x) first bodies) same a.2) b.2 in
    (λ i. same i ∷ rest i)

-- behind the steps of these bodies no step has a body of none
pub clash : OneStep → (p : Peer) (made others : List (List ℕ)) (body : List ℕ) (steps all : List Step) → KeptAs p steps made → KeptAs p all (made ++ body ∷ others) → IsNoStep (fold peer_after p steps) body → ⊥
clash one p [] others body [] [] kept whole none = absurd whole
clash one p [] others body [] (t ∷ all) kept whole none = both_ways (changes p t) (none t whole.0) whole.1
clash one p [] others body (s ∷ steps) all kept whole none = absurd kept
clash one p (m ∷ made) others body [] all kept whole none = absurd kept
clash one p (m ∷ made) others body (s ∷ steps) [] kept whole none = absurd whole
clash one p (m ∷ made) others body (s ∷ steps) (t ∷ all) kept whole none =
    let same : t ≡ s = one (front p + 1) m t s whole.0 kept.0 in
    clash one (peer_after p s) made others body steps all kept.2 (subst (λ x. KeptAs (peer_after p x) all (made ++ body ∷ others)) same whole.2) none

pub one_list : OneReading → OneStep → (site : ℕ) (file : List ℕ) (first second : List Step) → StandsFor site first file → StandsFor site second file → first ≡ second
one_list reading one site file first second a b =
    same_steps one (fresh_peer site) b.bodies first second (subst (KeptAs (fresh_peer site) first) (reading site file a.bodies b.bodies a.has b.has) a.spelled) b.spelled

-- ---- a file that is no store

head_of_store : (site : ℕ) (steps : List Step) (file : List ℕ) → StandsFor site steps file → HasHead site file
head_of_store site steps file stands = ap (take FIRST_GATE) stands.has.bytes

begins_with_none : OneStep → (site offset : ℕ) (file : List ℕ) (steps : List Step) (stop : BreaksOffAt site offset file) → BeginsWithNoStep (replay_of site stop.steps) stop.rest → StandsFor site steps file → ⊥
begins_with_none one site offset file steps stop none stands =
    let has = stands.has in
    let made = stop.bodies ++ none.body ∷ [] in
    let begun : file_head site ++ records made ++ none.rest ≡ file_head site ++ records stands.bodies ++ has.gate ∷ has.rest
    = behind_made site stop.bodies [] none.body none.rest ∙ ap (λ (l : List ℕ). file_head site ++ records stop.bodies ++ l) (sym none.bytes_are) ∙ sym stop.bytes ∙ has.bytes in
    let more = continues site made stands.bodies has.gate none.rest has.rest (All-push FitsRecord stop.bodies none.body stop.short none.short) has.short has.closed begun in
    clash one (fresh_peer site) stop.bodies more.others none.body stop.steps steps stop.spelled
    (subst (KeptAs (fresh_peer site) steps) (more.all_are ∙ append_assoc stop.bodies (none.body ∷ []) more.others) stands.spelled) none.no_step

pub no_store : BrokenHasNone → OneStep → (site offset : ℕ) (file : List ℕ) (steps : List Step) → IsNoStoreFrom site offset file → StandsFor site steps file → ⊥
no_store broken one site offset file steps (inl otherwise) stands = otherwise.1 (head_of_store site steps file stands)
no_store broken one site offset file steps (inr stop) stands = ⊎_elim
    (λ (none : IsNoRecord stop.rest). broken site file stop.bodies stands.bodies (record { rest = stop.rest; broken = none; short = stop.short; bytes = stop.bytes }) stands.has)
    (λ (none : BeginsWithNoStep (replay_of site stop.steps) stop.rest). begins_with_none one site offset file steps stop none stands)
    stop.stops
