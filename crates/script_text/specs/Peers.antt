-- Numbers of peers and of messages, as words.
use Rattle.std.specs.Prelude.{ℕ, List, [], ◌∷◌, Option, None, nat_lt}
use Rattle.element_name.specs.Cases.{when, ◌>>=◌}
use Rattle.line_read.specs.Numbers.{read_number, read_wide}

-- a number from 1
abbrev pub read_count : ℕ → List ℕ → Option ℕ
read_count limit word = do
  n ← read_number limit word
  when (nat_lt 0 n) n

-- P: the number of one of so many peers
abbrev pub read_peer : ℕ → List ℕ → Option ℕ
read_peer peers word = do
  p ← read_wide word
  when (nat_lt p peers) p

-- one word, P, and no more
abbrev pub one_peer : ℕ → List (List ℕ) → Option ℕ
one_peer peers (a ∷ []) = read_peer peers a
one_peer peers args = None
