-- What is written behind a gate, and the body in it.
use Rattle.std.proofs.Common.{◌≡◌, ℕ, zero, suc, ◌+◌, ◌-◌, ◌≤◌, List, [], ◌∷◌, ◌++◌, length, take, drop, set, Some, refl, sym, ap, ◌∙◌, subst, arith, append_assoc, append-nil, length-append, All}
use Rattle.std.specs.Int.{w16, to_be_bytes, from_be_bytes}
use Rattle.std.proofs.lemmas.Nat.{from_be_bytes-to_be_bytes_2}
use Rattle.std.proofs.lemmas.List.{take_at, drop_at, set_at}
use Rattle.std.proofs.lemmas.List.Elements.{All-head, All-tail, All-push, All-pop}
use Rattle.peer_disk.proofs.Appending.{records-push}
use Rattle.peer_disk.specs.Records.{record_of, records, behind_gate_of, body_behind, FitsRecord, AreBehindGate, bodies_in, bodies_of, AreClosedRecords}

pub behind_size : (body : List ℕ) → length (behind_gate_of body) ≡ length body + 3
behind_size body = omega (arith, length-append (to_be_bytes w16 (length body) ++ body) (0 ∷ []), length-append (to_be_bytes w16 (length body)) body)

-- the body is in it
pub body_again : (body : List ℕ) → body_behind (behind_gate_of body) ≡ body
body_again body =
    let size : length (behind_gate_of body) - 3 ≡ length body = omega (arith, behind_size body) in
    ap (λ (n : ℕ). take n (body ++ 0 ∷ [])) size ∙ take_at body (0 ∷ []) (length body) refl

-- it is what is written for this body alone
pub one_behind : (body : List ℕ) → FitsRecord body → AreBehindGate (body ∷ []) (behind_gate_of body)
one_behind body fits = record {
  short = All-push FitsRecord [] body (λ k d within. absurd (omega (arith, within))) fits;
  bytes_are = ap (λ (l : List ℕ). l ++ 0 ∷ []) (sym (append-nil (record_of body)));
}

-- ---- records of several bodies, and a closed gate

pub closed_size : (bodies : List (List ℕ)) → length bodies + 1 ≤ length (records bodies ++ 0 ∷ [])
closed_size [] = omega arith
closed_size (body ∷ bodies) =
    omega (arith, closed_size bodies, length-append (records bodies) (0 ∷ []), length-append (records (body ∷ bodies)) (0 ∷ []), length-append (record_of body) (records bodies))

pub read_again : (most : ℕ) (bodies : List (List ℕ)) → All FitsRecord bodies → length bodies ≤ most → bodies_in most (records bodies ++ 0 ∷ []) ≡ bodies
read_again zero [] short enough = refl
read_again zero (body ∷ bodies) short enough = absurd (omega (arith, enough))
read_again (suc most) [] short enough = refl
read_again (suc most) (body ∷ bodies) short enough =
    let end : List ℕ = records bodies ++ 0 ∷ [] in
    let len : from_be_bytes w16 (to_be_bytes w16 (length body)) ≡ length body = from_be_bytes-to_be_bytes_2 (length body) (All-head FitsRecord body bodies short) in
    let rest : (body ++ records bodies) ++ 0 ∷ [] ≡ body ++ end = append_assoc body (records bodies) (0 ∷ []) in
    let first : take (from_be_bytes w16 (to_be_bytes w16 (length body))) ((body ++ records bodies) ++ 0 ∷ []) ≡ body
    = (λ i. take (len i) (rest i)) ∙ take_at body end (length body) refl in
    let others : drop (from_be_bytes w16 (to_be_bytes w16 (length body))) ((body ++ records bodies) ++ 0 ∷ []) ≡ end
    = (λ i. drop (len i) (rest i)) ∙ drop_at body end (length body) refl in
    (λ i. first i ∷ bodies_in most (others i)) ∙ ap (λ (l : List (List ℕ)). body ∷ l) (read_again most bodies (All-tail FitsRecord body bodies short) (omega (arith, enough)))

pub bodies_again : (bodies : List (List ℕ)) → All FitsRecord bodies → bodies_of (records bodies ++ 0 ∷ []) ≡ bodies
bodies_again bodies short = read_again (length (records bodies ++ 0 ∷ [])) bodies short (omega (arith, closed_size bodies))

-- so bytes like that are those of these bodies
pub closed_again : (bytes : List ℕ) (bodies : List (List ℕ)) → All FitsRecord bodies → bytes ≡ records bodies ++ 0 ∷ [] → bodies_of bytes ≡ bodies
closed_again bytes bodies short is = ap bodies_of is ∙ bodies_again bodies short

pub are_closed : (bytes : List ℕ) (bodies : List (List ℕ)) → All FitsRecord bodies → bytes ≡ records bodies ++ 0 ∷ [] → AreClosedRecords bytes
are_closed bytes bodies short is =
    let again : bodies_of bytes ≡ bodies = closed_again bytes bodies short is in
    record { short = subst (All FitsRecord) (sym again) short; bytes_are = is ∙ ap (λ (l : List (List ℕ)). records l ++ 0 ∷ []) (sym again) }

-- ---- one record more, and one less

-- the gate in front of the closed one is opened, and a record stands behind it
pushed : (bytes : List ℕ) (body : List ℕ) (gate : ℕ) → AreClosedRecords bytes → gate + 1 ≡ length bytes
    → set (bytes ++ behind_gate_of body) gate 1 ≡ records (bodies_of bytes ++ body ∷ []) ++ 0 ∷ []
pushed bytes body gate are size =
    let some : List ℕ = records (bodies_of bytes) in
    let behind : List ℕ = behind_gate_of body in
    let place : length some ≡ gate = omega (arith, size, ap length are.bytes_are, length-append some (0 ∷ [])) in
    ap (λ (l : List ℕ). set (l ++ behind) gate 1) are.bytes_are
    ∙ ap (λ (l : List ℕ). set l gate 1) (append_assoc some (0 ∷ []) behind)
    ∙ set_at some 0 behind 1 gate place
    ∙ sym (append_assoc some (record_of body) (0 ∷ []))
    ∙ ap (λ (l : List ℕ). l ++ 0 ∷ []) (sym (records-push (bodies_of bytes) body))

pushed_short : (bytes : List ℕ) (body : List ℕ) → AreClosedRecords bytes → FitsRecord body → All FitsRecord (bodies_of bytes ++ body ∷ [])
pushed_short bytes body are fits = All-push FitsRecord (bodies_of bytes) body are.short fits

-- so the records are closed ones again, with the body behind the others
pub push_closed : (bytes extended body behind : List ℕ) (len : ℕ) → AreClosedRecords bytes → FitsRecord body → len ≡ length bytes → behind ≡ behind_gate_of body → extended ≡ bytes ++ behind
    → AreClosedRecords (set extended (len - 1) 1) × (bodies_of (set extended (len - 1) 1) ≡ bodies_of bytes ++ body ∷ [])
push_closed bytes extended body behind len are fits len_is behind_is is =
    let now : List ℕ = set extended (len - 1) 1 in
    let bodies : List (List ℕ) = bodies_of bytes ++ body ∷ [] in
    let size : len - 1 + 1 ≡ length bytes = omega (arith, len_is, ap length are.bytes_are, length-append (records (bodies_of bytes)) (0 ∷ [])) in
    let now_is : now ≡ records bodies ++ 0 ∷ []
    = ap (λ (l : List ℕ). set l (len - 1) 1) (is ∙ ap (λ (b : List ℕ). bytes ++ b) behind_is) ∙ pushed bytes body (len - 1) are size in
    let short = pushed_short bytes body are fits in
    (are_closed now bodies short now_is, closed_again now bodies short now_is)

module _ (bytes : List ℕ) (kept : List (List ℕ)) (body : List ℕ) (are : AreClosedRecords bytes) (last : bodies_of bytes ≡ kept ++ body ∷ []) where
  -- the last record's gate, and what stands behind it
  split : bytes ≡ records kept ++ 1 ∷ behind_gate_of body
  split =
      are.bytes_are ∙ ap (λ (l : List (List ℕ)). records l ++ 0 ∷ []) last ∙ ap (λ (l : List ℕ). l ++ 0 ∷ []) (records-push kept body)
      ∙ append_assoc (records kept) (record_of body) (0 ∷ [])

  pub holds_last : length (behind_gate_of body) + 1 + length (records kept) ≡ length bytes
  holds_last = omega (arith, ap length split, length-append (records kept) (1 ∷ behind_gate_of body))

  -- it is cut off behind its gate, which is closed
  pub taken_back : (gate : ℕ) → gate + 1 + length (behind_gate_of body) ≡ length bytes → set (take (gate + 1) bytes) gate 0 ≡ records kept ++ 0 ∷ []
  taken_back gate size =
      let place : length (records kept) ≡ gate = omega (arith, size, holds_last) in
      let front : length (records kept ++ 1 ∷ []) ≡ gate + 1 = omega (arith, place, length-append (records kept) (1 ∷ [])) in
      ap (λ (l : List ℕ). set (take (gate + 1) l) gate 0) (split ∙ sym (append_assoc (records kept) (1 ∷ []) (behind_gate_of body)))
      ∙ ap (λ (l : List ℕ). set l gate 0) (take_at (records kept ++ 1 ∷ []) (behind_gate_of body) (gate + 1) front)
      ∙ set_at (records kept) 1 [] 0 gate place

  pub kept_short : All FitsRecord kept
  kept_short = (All-pop FitsRecord (bodies_of bytes) kept (Some body) last are.short).0
