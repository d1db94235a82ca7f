-- A first line opens a world, and a later one is one that the world takes; both are well formed.
use Rattle.std.proofs.Common.{◌≡◌, ℕ, Bool, true, not, ◌&&◌, List, [], ◌∷◌, refl}
use Rattle.std.specs.Prelude.{nat_lt, nat_le, option_map, codes}
use Rattle.std.specs.declared.option.Option.{Option}
use Rattle.std.proofs.lemmas.Bool.{and_from, and_parts}
use Rattle.element_name.specs.Cases.{◌>>=◌}
use Rattle.edit_message.specs.Formed.{is_message}
use Rattle.peer_step.specs.declared.step.Step.{Step}
use Rattle.peer_step.specs.Formed.{is_step}
use Rattle.peer_step.specs.declared.step.Step.TheVariants.{Edit, Administer, ValidateNext, Look, Settle, Show}
use Rattle.replay_net.specs.declared.line.TheConstants.{MAX_PEERS}
use Rattle.replay_net.specs.declared.line.Line.{Line}
use Rattle.replay_net.specs.declared.line.Line.TheVariants.{Peers, Local, Give, Hand, StateOf}
use Rattle.replay_net.specs.Line.{is_receive, is_opening, is_world_line, is_formed_line}
use Rattle.line_read.specs.declared.numbers.TheConstants.{MAX_WIDE}
use Rattle.line_read.specs.Words.{is_alone}
use Rattle.line_read.specs.Numbers.{read_number, read_wide, read_name}
use Rattle.line_read.specs.Operation.{read_operation}
use Rattle.line_read.specs.Step.{read_local_edit}
use Rattle.script_text.specs.Peers.{read_count, read_peer, one_peer}
use Rattle.script_text.specs.Line.{read_own, read_local, read_give, read_hand, read_look, read_state, read_later, one_count, read_first}
use Rattle.line_read.proofs.Passing.{Passes, none, some, where_, tested, either, first, then, mapped}
use Rattle.line_read.proofs.FormedSteps.{number_low, operation, message, local_edit}

-- ---- peers and their own steps

-- P is one of so many peers
peer : (peers : ℕ) (word : List ℕ) → Passes (λ p. nat_lt p peers) (read_peer peers word)
peer peers word = tested (λ p. nat_lt p peers) (read_wide word)

-- one argument, a peer
a_peer : (peers : ℕ) (args : List (List ℕ)) → Passes (λ p. nat_lt p peers) (one_peer peers args)
a_peer peers (word ∷ []) = peer peers word
a_peer peers args = none (λ p. nat_lt p peers)

-- a step that takes no message, and is well formed
abbrev is_own : Step → Bool
is_own step = not (is_receive step) && is_step step

-- a step of a peer's own is one
own : (args : List (List ℕ)) → Passes is_own (read_own args)
unfolding read_own
own args =
    first is_own _ _ (mapped is_own Edit (read_local_edit args) (local_edit args))
    (first is_own _ _ (where_ is_own (is_alone (codes "validatenext") args) ValidateNext (λ h. refl))
    (first is_own _ _ (mapped is_own Administer (read_operation args) (operation args)) (none is_own)))

-- ---- lines

-- a line that is well formed, and that a world of so many peers takes
abbrev fits : ℕ → Line → Bool
fits peers line = is_formed_line line && is_world_line peers line

-- what is read for a peer
for_peer : (peers : ℕ) (word : List ℕ) (f : ℕ → Option Line) → ((p : ℕ) → nat_lt p peers ≡ true → Passes (fits peers) (f p)) → Passes (fits peers) (read_peer peers word >>= f)
for_peer peers word f each = then (fits peers) (read_peer peers word) f (λ p read. each p (peer peers word p read))

-- the line of one of the peers with such a step
own_line : (peers p : ℕ) (step : Step) → nat_lt p peers ≡ true → is_own step ≡ true → fits peers (Local p step) ≡ true
own_line peers p step below is =
    let parts = and_parts (not (is_receive step)) (is_step step) is in
    and_from (is_step step) (nat_lt p peers && not (is_receive step)) parts.1 (and_from (nat_lt p peers) (not (is_receive step)) below parts.0)

-- a peer and its step
local : (peers : ℕ) (number : List ℕ) (args : List (List ℕ)) → Passes (fits peers) (read_local peers number args)
unfolding read_local
local peers number args =
    for_peer peers number _ (λ p below. then (fits peers) _ _ (λ step read. some (fits peers) (Local p step) (own_line peers p step below (own args step read))))

-- a message that is given
give : (peers : ℕ) (args : List (List ℕ)) → Passes (fits peers) (read_give peers args)
give peers (a ∷ b ∷ []) = then (fits peers) (read_count MAX_WIDE a) _ (λ m is_m. for_peer peers b _ (λ p below. some (fits peers) (Give m p) below))
give peers args = none (fits peers)

-- a message that is handed in
hand : (peers : ℕ) (args : List (List ℕ)) → Passes (fits peers) (read_hand peers args)
hand peers [] = none (fits peers)
hand peers (a ∷ args) = for_peer peers a _ (λ p below. then (fits peers) _ _ (λ m is_m. some (fits peers) (Hand p m) (and_from (is_message m) (nat_lt p peers) (message args m is_m) below)))

-- a look
look : (peers : ℕ) (args : List (List ℕ)) → Passes (fits peers) (read_look peers args)
look peers (a ∷ b ∷ []) = for_peer peers a _ (λ p below. then (fits peers) (read_wide b) _ (λ at is_at. some (fits peers) (Local p (Look at)) (own_line peers p (Look at) below refl)))
look peers args = none (fits peers)

-- a question for a state
state : (peers : ℕ) (args : List (List ℕ)) → Passes (fits peers) (read_state peers args)
state peers (a ∷ b ∷ []) = for_peer peers a _ (λ p below. then (fits peers) (read_name b) _ (λ n is_n. some (fits peers) (StateOf p n) below))
state peers args = none (fits peers)

-- a step of one word, for a peer
of_peer : (peers : ℕ) (args : List (List ℕ)) (step : Step) → is_own step ≡ true → Passes (fits peers) (option_map (λ p. Local p step) (one_peer peers args))
of_peer peers args step is = mapped (fits peers) (λ p. Local p step) (one_peer peers args) (λ p read. own_line peers p step (a_peer peers args p read) is)

-- every line after the first
later : (peers : ℕ) (args : List (List ℕ)) → Passes (fits peers) (read_later peers args)
later peers [] = none (fits peers)
later peers (word ∷ args) =
    either (fits peers) _ _ _ (give peers args)
    (either (fits peers) _ _ _ (hand peers args)
    (either (fits peers) _ _ _ (of_peer peers args Settle refl)
    (either (fits peers) _ _ _ (look peers args)
    (either (fits peers) _ _ _ (of_peer peers args Show refl)
    (either (fits peers) _ _ _ (state peers args) (local peers word args))))))

pub later-formed : (peers : ℕ) (args : List (List ℕ)) → Passes is_formed_line (read_later peers args)
later-formed peers args line read = (and_parts (is_formed_line line) (is_world_line peers line) (later peers args line read)).0

pub later-taken : (peers : ℕ) (args : List (List ℕ)) → Passes (is_world_line peers) (read_later peers args)
later-taken peers args line read = (and_parts (is_formed_line line) (is_world_line peers line) (later peers args line read)).1

-- ---- the first line

-- from 1 to 64
abbrev is_count : ℕ → Bool
is_count n = nat_lt 0 n && nat_le n MAX_PEERS

-- N is a number of peers
count : (word : List ℕ) → Passes is_count (read_count MAX_PEERS word)
count word =
    then is_count (read_number MAX_PEERS word) _ (λ n read. where_ is_count (nat_lt 0 n) n
    (λ above. and_from (nat_lt 0 n) (nat_le n MAX_PEERS) above (number_low MAX_PEERS word n read)))

-- one argument, a number of peers
a_count : (args : List (List ℕ)) → Passes is_count (one_count args)
a_count (word ∷ []) = count word
a_count args = none is_count

-- the first line opens a world
pub read_first-first : (args : List (List ℕ)) → Passes is_opening (read_first args)
read_first-first [] = none is_opening
read_first-first (word ∷ args) = either is_opening _ _ _ (mapped is_opening Peers (one_count args) (a_count args)) (none is_opening)

-- a line that opens a world is well formed
opening-formed : (line : Line) → is_opening line ≡ true → is_formed_line line ≡ true
opening-formed (Peers n) h = refl
opening-formed line h = absurd cc

pub first-formed : (args : List (List ℕ)) → Passes is_formed_line (read_first args)
first-formed args line read = opening-formed line (read_first-first args line read)
