-- What a write into a file with a gate leaves, where it is done and where a crash cuts it short.
use Rattle.std.proofs.Common.{◌≡◌, ℕ, ◌+◌, List, [], ◌∷◌, ◌++◌, length, get_or, take, drop, refl, sym, ◌∙◌, ap, arith, append_assoc, length-append, take-append-drop, Option, None, Some, option_map, Ok}
use Rattle.std.proofs.lemmas.List.{take_at, drop_at, drop_more, take_all, take-take}
use Rattle.peer_disk.specs.Disk.{overwritten, Torn, Writes}

-- the file after a write that was done
pub written_ok : (done : Unit {0}) (from : ℕ) (bytes : List ℕ) (old new : Option (List ℕ)) → Writes (Ok done) from bytes old new → new ≡ option_map (λ file. overwritten file from bytes) old
written_ok done from bytes None new is = is
written_ok done from bytes (Some old) None is = absurd is
written_ok done from bytes (Some old) (Some new) is = ap Some is

module _ (prefix : List ℕ) (gate : ℕ) (rest : List ℕ) where
  split : prefix ++ gate ∷ rest ≡ (prefix ++ gate ∷ []) ++ rest
  split = sym (append_assoc prefix (gate ∷ []) rest)

  closed_size : length (prefix ++ gate ∷ []) ≡ length prefix + 1
  closed_size = length-append prefix (gate ∷ [])

  size : length (prefix ++ gate ∷ rest) ≡ length prefix + 1 + length rest
  size = omega (arith, length-append prefix (gate ∷ rest))

  till_gate : take (length prefix + 1) (prefix ++ gate ∷ rest) ≡ prefix ++ gate ∷ []
  till_gate = ap (take (length prefix + 1)) split ∙ take_at (prefix ++ gate ∷ []) rest (length prefix + 1) closed_size

  behind_gate : drop (length prefix + 1) (prefix ++ gate ∷ rest) ≡ rest
  behind_gate = ap (drop (length prefix + 1)) split ∙ drop_at (prefix ++ gate ∷ []) rest (length prefix + 1) closed_size

  -- a write behind the gate leaves the gate where it was
  pub torn_behind : (n : ℕ) (left : List ℕ) → Torn (length prefix + 1) n (prefix ++ gate ∷ rest) left → left ≡ prefix ++ gate ∷ drop (length prefix + 1) left
  torn_behind n left torn =
      let kept : take (length prefix + 1) left ≡ prefix ++ gate ∷ [] =
      sym (take-take (length prefix + 1) (length (prefix ++ gate ∷ rest)) left (omega (arith, size))) ∙ torn.before ∙ till_gate in
      sym (take-append-drop (length prefix + 1) left)
      ∙ ap (λ (l : List ℕ). l ++ drop (length prefix + 1) left) kept
      ∙ append_assoc prefix (gate ∷ []) (drop (length prefix + 1) left)

  -- a write of the gate leaves all but the gate
  pub torn_gate : (left : List ℕ) → Torn (length prefix) 1 (prefix ++ gate ∷ rest) left → left ≡ prefix ++ get_or left (length prefix) 0 ∷ rest
  torn_gate left torn =
      let same : take (length (prefix ++ gate ∷ rest)) left ≡ left = take_all (length (prefix ++ gate ∷ rest)) left (omega (arith, torn.no_longer, size)) in
      let kept : take (length prefix) left ≡ prefix =
      ap (take (length prefix)) (sym same) ∙ torn.before ∙ take_at prefix (gate ∷ rest) (length prefix) refl in
      let tail : drop (length prefix + 1) left ≡ rest =
      ap (drop (length prefix + 1)) (sym same) ∙ torn.after ∙ behind_gate in
      sym (take-append-drop (length prefix) left)
      ∙ ap (λ (l : List ℕ). l ++ drop (length prefix) left) kept
      ∙ ap (λ (l : List ℕ). prefix ++ l) (drop_more left (length prefix) 0 (omega (arith, torn.no_shorter, size)) ∙ ap (λ (l : List ℕ). get_or left (length prefix) 0 ∷ l) tail)

  pub wrote_behind : (bytes : List ℕ) → overwritten (prefix ++ gate ∷ rest) (length prefix + 1) bytes ≡ prefix ++ gate ∷ (bytes ++ drop (length prefix + 1 + length bytes) (prefix ++ gate ∷ rest))
  wrote_behind bytes =
      ap (λ (l : List ℕ). l ++ bytes ++ drop (length prefix + 1 + length bytes) (prefix ++ gate ∷ rest)) till_gate
      ∙ ap (λ (l : List ℕ). l ++ drop (length prefix + 1 + length bytes) (prefix ++ gate ∷ rest)) (append_assoc prefix (gate ∷ []) bytes)
      ∙ append_assoc prefix (gate ∷ bytes) (drop (length prefix + 1 + length bytes) (prefix ++ gate ∷ rest))

  pub wrote_gate : (new : ℕ) → overwritten (prefix ++ gate ∷ rest) (length prefix) (new ∷ []) ≡ prefix ++ new ∷ rest
  wrote_gate new =
      ap (λ (l : List ℕ). l ++ (new ∷ []) ++ drop (length prefix + 1) (prefix ++ gate ∷ rest)) (take_at prefix (gate ∷ rest) (length prefix) refl)
      ∙ ap (λ (l : List ℕ). prefix ++ (new ∷ []) ++ l) behind_gate
      ∙ append_assoc prefix (new ∷ []) rest
