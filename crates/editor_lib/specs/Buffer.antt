-- Buffers that a call writes to.
use Rattle.std.specs.Prelude.{ℕ, ◌++◌, List, length, drop, nat_le, if◌then◌else◌}

-- a buffer with these bytes at its front, if they fit; else as it was
abbrev pub with_front : List ℕ → List ℕ → List ℕ
with_front bytes buffer = if nat_le (length bytes) (length buffer) then bytes ++ drop (length bytes) buffer else buffer
