-- The first messages of a journal.
use Rattle.std.proofs.Common.{◌≡◌, ℕ, ◌+◌, ◌≤◌, List, ◌++◌, length, take, sym, ap, ◌∙◌, take-take, length-take, length-take-le, arith}
use Rattle.std.proofs.lemmas.List.{take-append-le}
use Rattle.edit_message.specs.declared.message.Message.{Message}
use Rattle.host_seal.specs.Seals.{IsBeginning}

-- a beginning of a journal's first messages is no longer than these
pub short_beginning : (taken J : List Message) (items : ℕ) → items ≤ length J → IsBeginning taken (take items J) → length taken ≤ items
short_beginning taken J items within begins =
    let size : length taken ≡ length (take (length taken) (take items J)) = ap length begins in
    let least = length-take (length taken) (take items J) in
    let all = length-take-le items J within in
    omega (arith, size, least, all)

-- and it is one of the whole journal
pub whole_beginning : (taken J : List Message) (items : ℕ) → items ≤ length J → IsBeginning taken (take items J) → IsBeginning taken J
whole_beginning taken J items within begins = begins ∙ take-take (length taken) items J (short_beginning taken J items within begins)

-- the first messages are a beginning of more of them
pub first_begin : (J : List Message) (i items : ℕ) → i ≤ items → items ≤ length J → IsBeginning (take i J) (take items J)
first_begin J i items less within =
    let size = length-take-le i J (omega (arith, less, within)) in
    sym (take-take i items J less) ∙ ap (λ (n : ℕ). take n (take items J)) (sym size)

-- a beginning of a list is one of each that goes on from it
pub goes_on : (taken J more : List Message) → IsBeginning taken J → IsBeginning taken (J ++ more)
goes_on taken J more begins =
    let size : length taken ≡ length (take (length taken) J) = ap length begins in
    let least = length-take (length taken) J in
    begins ∙ sym (take-append-le (length taken) J more (omega (arith, size, least)))
