-- What has been read of a file chunk by chunk.
use Rattle.std.proofs.Common.{◌≡◌, ℕ, List, [], ◌++◌, length, drop, refl, Option, None, Some, IfSome}

-- a file begins with what was read, where it is told
abbrev pub BeginsSo : Option (List ℕ) → List ℕ → Type 0
BeginsSo seen bytes = IfSome seen (λ file. file ≡ bytes ++ drop (length bytes) file)

pub begins : (seen : Option (List ℕ)) → BeginsSo seen []
begins None = tt
begins (Some file) = refl
