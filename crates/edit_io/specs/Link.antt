-- The lists of messages that a link may tell, and what a call adds to them.
use Rattle.std.specs.Prelude.{ℕ, List, [], ◌∷◌, ◌++◌, Option, None, Some, Result, Ok, Err, Vec}
use Rattle.edit_io.specs.declared.fail.OutFail.{OutFail}

-- the list with these put last, where it is told
abbrev pub with_last : {A : Type 0} → Option (List A) → List A → Option (List A)
with_last None more = None
with_last (Some xs) more = Some (xs ++ more)

-- the message that a `recv` gave, if it gave one
abbrev pub came_by : {A : Type 0} → Result (Option (Vec ℕ A)) OutFail → List (List ℕ)
came_by (Ok (Some message)) = message.items ∷ []
came_by (Ok None) = []
came_by (Err fail) = []

-- how often a `recv` found that the other end had closed: once or not at all
abbrev pub closes_by : {A : Type 0} → Result (Option (Vec ℕ A)) OutFail → ℕ
closes_by (Ok (Some message)) = 0
closes_by (Ok None) = 1
closes_by (Err fail) = 0

-- the message that a `send` took, if it took it
abbrev pub went_by : Result (Unit {0}) OutFail → List ℕ → List (List ℕ)
went_by (Ok done) message = message ∷ []
went_by (Err fail) message = []
