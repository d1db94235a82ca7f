-- Where gates stand, in a disk that tells its file.
use Rattle.std.proofs.Common.{◌≡◌, ℕ, ◌+◌, ◌-◌, ◌≤◌, ◌<◌, List, [], ◌++◌, length, take, drop, ap, arith, length-append, length-drop, Option, None, Some, option_map, IfSome, Result, Ok, Err}
use Rattle.std.proofs.lemmas.List.{length-take}
use Rattle.edit_io.specs.declared.fail.Failed.{Failed}
use Rattle.peer_disk.specs.Disk.{overwritten, Writes}
use Rattle.peer_disk.specs.Records.{IsNoShorter}

overwritten_size : (file : List ℕ) (from : ℕ) (bytes : List ℕ) → from ≤ length file → length (overwritten file from bytes) ≡ from + length bytes + (length file - (from + length bytes))
overwritten_size file from bytes within =
    omega (arith, length-append (take from file ++ bytes) (drop (from + length bytes) file), length-append (take from file) bytes, length-take from file, length-drop (from + length bytes) file, within)

-- a write leaves a file no shorter
pub no_shorter : (result : Result (Unit {0}) Failed) (from : ℕ) (bytes : List ℕ) (old new : Option (List ℕ)) → IfSome old (λ file. from ≤ length file) → Writes result from bytes old new → IsNoShorter old new
no_shorter result from bytes None None within is = tt
no_shorter result from bytes None (Some new) within is = absurd (cc is)
no_shorter result from bytes (Some old) None within is = tt
no_shorter (Ok done) from bytes (Some old) (Some new) within is = omega (arith, ap length is, overwritten_size old from bytes within)
no_shorter (Err fail) from bytes (Some old) (Some new) within is = is.no_shorter

-- so a place within it stays within it
pub stays_within : (place : ℕ) (old new : Option (List ℕ)) → IfSome old (λ file. place < length file) → IsNoShorter old new → IfSome new (λ file. place < length file)
stays_within place old None within longer = tt
stays_within place None (Some new) within longer = absurd longer
stays_within place (Some old) (Some new) within longer = omega (arith, within, longer)

pub stays_till : (place : ℕ) (old new : Option (List ℕ)) → IfSome old (λ file. place < length file) → IsNoShorter old new → IfSome new (λ file. place ≤ length file)
stays_till place old None within longer = tt
stays_till place None (Some new) within longer = absurd longer
stays_till place (Some old) (Some new) within longer = omega (arith, within, longer)

pub within_till : (place : ℕ) (seen : Option (List ℕ)) → IfSome seen (λ file. place < length file) → IfSome seen (λ file. place + 1 ≤ length file)
within_till place None within = tt
within_till place (Some file) within = omega (arith, within)

-- and what is written behind it stands there
pub next_there : (place : ℕ) (bytes : List ℕ) (old middle new : Option (List ℕ)) → IfSome old (λ file. place < length file)
    → middle ≡ option_map (λ file. overwritten file (place + 1) bytes) old → IsNoShorter middle new → IfSome new (λ file. place + length bytes < length file)
next_there place bytes old middle None within is longer = tt
next_there place bytes old None (Some new) within is longer = absurd longer
next_there place bytes None (Some middle) (Some new) within is longer = absurd (cc is)
next_there place bytes (Some old) (Some middle) (Some new) within is longer =
    let middle_is : middle ≡ overwritten old (place + 1) bytes = cc is in
    omega (arith, within, longer, ap length middle_is, overwritten_size old (place + 1) bytes (omega (arith, within)))

-- the gate of a new file
pub first_there : (bytes : List ℕ) (old new : Option (List ℕ)) → length bytes ≡ 4 → IfSome old (λ file. file ≡ []) → new ≡ option_map (λ file. overwritten file 0 bytes) old → IfSome new (λ file. 3 < length file)
first_there bytes None None size empty is = tt
first_there bytes None (Some new) size empty is = absurd (cc is)
first_there bytes (Some old) None size empty is = tt
first_there bytes (Some old) (Some new) size empty is =
    let new_is : new ≡ overwritten old 0 bytes = cc is in
    omega (arith, size, ap length new_is, overwritten_size old 0 bytes (omega arith))
