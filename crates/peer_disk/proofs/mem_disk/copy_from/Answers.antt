use Rattle.std.proofs.Common.{◌≡◌, ◌⊎◌, inl, inr, ℕ, ◌+◌, ◌-◌, ◌≤◌, ◌<◌, min, List, [], ◌∷◌, ◌++◌, length, take, drop, refl, sym, ◌∙◌, ap, arith, take-append-drop, length-append, length-drop, rules}
use Rattle.std.proofs.lemmas.Bool.{cases_lt}
use Rattle.std.proofs.lemmas.List.{drop-drop, drop_all, take_rest, take_at, length-take-le}
use Rattle.peer_disk.specs.Disk.{GivesFrom}
use Rattle.peer_disk.proofs.mem_disk.copy_from.Goals as goal

no_bytes : (bytes : List ℕ) → length bytes ≡ 0 → bytes ≡ []
no_bytes [] none = refl
no_bytes (b ∷ bytes) none = absurd (omega arith)

gives : (file buf : List ℕ) (from at n : ℕ) → at ≡ min from (length file) → n ≡ min (length file - at) (length buf) → take n buf ≡ take n (drop at file) → GivesFrom file from n buf
gives file buf from at n at_is n_is same = record { bytes = bytes (cases_lt (length file) from); none = (few (cases_lt 0 (length buf)), λ e. none e) }
  where
    bytes : (length file < from) ⊎ (from ≤ length file) → drop from file ≡ take n buf ++ drop (from + n) file
    bytes (inl past) =
        let zero_n : n ≡ 0 = omega arith in
        drop_all from file (omega arith)
        ∙ sym (drop_all (from + n) file (omega arith))
        ∙ ap (λ (k : ℕ). take k buf ++ drop (from + n) file) (sym zero_n)
    bytes (inr within) =
        let here : at ≡ from = omega arith in
        sym (take-append-drop n (drop from file))
        ∙ ap (λ (l : List ℕ). l ++ drop n (drop from file)) (ap (λ (k : ℕ). take n (drop k file)) (sym here) ∙ sym same)
        ∙ ap (λ (l : List ℕ). take n buf ++ l) (drop-drop n from file)

    few : (0 < length buf) ⊎ (length buf ≤ 0) → n ≡ 0 → (buf ≡ []) ⊎ (length file ≤ from)
    few (inl room) zeros = inr (omega arith)
    few (inr empty) zeros = inl (no_bytes buf (omega arith))

    none : (buf ≡ []) ⊎ (length file ≤ from) → n ≡ 0
    none (inl empty) = omega (arith, ap length empty)
    none (inr past) = omega arith

pub returns-clause-bytes : goal.returns-clause-bytes
returns-clause-bytes c =
    let file = c.args.file.now in
    let buf = c.args.buf.now in
    let n = c.min-count.result in
    let at = c.min-at.result in
    let put = c.copy_from_slice.new.self in
    let at_is : at ≡ min c.args.from (length file) = search rules in
    let n_is : n ≡ min (length file - at) (length buf) = omega (arith, length-drop at file, at_is) in
    let put_size : length put ≡ n = c.copy_from_slice.ensures.len ∙ length-take-le n buf (omega (arith, n_is)) in
    let size : length (put ++ drop n buf) ≡ length buf = omega (arith, length-append put (drop n buf), length-drop n buf, put_size, n_is) in
    let same : take n (put ++ drop n buf) ≡ take n (drop at file) = take_at put (drop n buf) n put_size ∙ c.copy_from_slice.ensures.after ∙ ap (take n) (take_rest file at) in
    gives file (put ++ drop n buf) c.args.from at n at_is (omega (arith, n_is, size)) same
