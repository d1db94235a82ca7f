-- What files of records have, by the bytes at their gates.
use Rattle.std.proofs.Common.{◌≡◌, inl, inr, ℕ, ◌+◌, ◌≤◌, List, [], ◌∷◌, ◌++◌, length, get_or, drop, refl, sym, ◌∙◌, ap, subst, arith, append_assoc, length-append, Option, None, Some, option_map, IfSome, IsSome, All}
use Rattle.std.specs.Int.{w16, to_be_bytes}
use Rattle.std.proofs.lemmas.Bool.{cases_eq}
use Rattle.std.proofs.lemmas.List.Elements.{All-append}
use Rattle.peer_disk.specs.Disk.{overwritten, Torn, Only}
use Rattle.peer_disk.specs.Records.{file_head, record_of, records, gate_place, FitsRecord, AreBehindGate, HasBodies, Keeps, IsBeforeOrAll, TornSince, HasNoneIfAny}
use Rattle.peer_disk.proofs.Appending.{records-append}
use Rattle.peer_disk.proofs.Torn.{torn_behind, torn_gate, wrote_behind, wrote_gate}

-- the head and the records of these bodies, to which the last gate comes
abbrev pub before_gate : ℕ → List (List ℕ) → List ℕ
before_gate site bodies = file_head site ++ records bodies

pub before_gate_size : (site : ℕ) (bodies : List (List ℕ)) → length (before_gate site bodies) ≡ gate_place bodies
before_gate_size site bodies = length-append (file_head site) (records bodies)

-- records with their gates open, and then the next gate
pub all_more : (site : ℕ) (bodies more : List (List ℕ)) (behind rest : List ℕ) → AreBehindGate more behind
    → before_gate site bodies ++ 1 ∷ (behind ++ rest) ≡ before_gate site (bodies ++ more) ++ 0 ∷ rest
all_more site bodies more behind rest are =
    let prefix = before_gate site bodies in
    let inside : 1 ∷ (behind ++ rest) ≡ records more ++ 0 ∷ rest
    = ap (λ (l : List ℕ). l ++ rest) are.bytes_are ∙ append_assoc (records more) (0 ∷ []) rest in
    ap (λ (l : List ℕ). prefix ++ l) inside
    ∙ sym (append_assoc prefix (records more) (0 ∷ rest))
    ∙ ap (λ (l : List ℕ). l ++ 0 ∷ rest) (append_assoc (file_head site) (records bodies) (records more) ∙ ap (λ (l : List ℕ). file_head site ++ l) (sym (records-append bodies more)))

-- ---- the two writes of a put

module _ (site : ℕ) (bodies : List (List ℕ)) (place : ℕ) (seen : Option (List ℕ)) (may_leave : List ℕ → Type 0) (kept : Keeps site bodies place seen may_leave) where
  place_is : place ≡ length (before_gate site bodies)
  place_is = kept.place_is ∙ sym (before_gate_size site bodies)

  -- a crash during the first leaves the bodies
  pub first_leaves : (n : ℕ) (left : List ℕ) → TornSince may_leave (place + 1) n left → HasBodies site bodies left
  first_leaves n left since =
      let has = kept.has in
      let torn : Torn (length (before_gate site bodies) + 1) n (before_gate site bodies ++ has.gate ∷ has.rest) left
      = subst (λ (k : ℕ). Torn (k + 1) n (before_gate site bodies ++ has.gate ∷ has.rest) left) place_is (subst (λ (f : List ℕ). Torn (place + 1) n f left) (kept.durable since.0 since.1 ∙ has.bytes) since.2) in
      record { gate = has.gate; rest = drop (length (before_gate site bodies) + 1) left; closed = has.closed; short = has.short; bytes = torn_behind (before_gate site bodies) has.gate has.rest n left torn }

  -- what is left behind the first
  abbrev pub tail : List ℕ → List ℕ
  tail behind = drop (length (before_gate site bodies) + 1 + length behind) (before_gate site bodies ++ kept.has.gate ∷ kept.has.rest)

  -- the file after the first
  pub staged : (behind : List ℕ) (now : Option (List ℕ)) → now ≡ option_map (λ file. overwritten file (place + 1) behind) seen
      → now ≡ Some (before_gate site bodies ++ kept.has.gate ∷ (behind ++ tail behind))
  staged behind now is =
      is
      ∙ ap (option_map (λ file. overwritten file (place + 1) behind)) (kept.told ∙ ap Some kept.has.bytes)
      ∙ ap (λ (k : ℕ). Some (overwritten (before_gate site bodies ++ kept.has.gate ∷ kept.has.rest) (k + 1) behind)) place_is
      ∙ ap Some (wrote_behind (before_gate site bodies) kept.has.gate kept.has.rest behind)

  module _ (more : List (List ℕ)) (behind : List ℕ) (are : AreBehindGate more behind) where
    all_short : All FitsRecord (bodies ++ more)
    all_short = All-append FitsRecord bodies more kept.has.short are.short

    -- a file with any byte in the gate's place, behind which the bodies stand
    with_gate : (left : List ℕ) (gate : ℕ) → left ≡ before_gate site bodies ++ gate ∷ (behind ++ tail behind) → IsBeforeOrAll site bodies more left
    with_gate left gate is = elim (cases_eq gate 1) [
      | inl opened ↦ inr (record {
        gate = 0;
        rest = tail behind;
        closed = omega arith;
        short = all_short;
        bytes = is ∙ ap (λ (g : ℕ). before_gate site bodies ++ g ∷ (behind ++ tail behind)) opened ∙ all_more site bodies more behind (tail behind) are;
      })
      | inr shut ↦ inl (record { gate = gate; rest = behind ++ tail behind; closed = shut; short = kept.has.short; bytes = is })
    ]

    -- a crash during the second leaves the bodies, with all new ones or without
    pub second_leaves : (now : List ℕ → Type 0) (left : List ℕ) → Only (before_gate site bodies ++ kept.has.gate ∷ (behind ++ tail behind)) now
        → TornSince now place 1 left → IsBeforeOrAll site bodies more left
    second_leaves now left only since =
        let torn : Torn (length (before_gate site bodies)) 1 (before_gate site bodies ++ kept.has.gate ∷ (behind ++ tail behind)) left
        = subst (λ (k : ℕ). Torn k 1 (before_gate site bodies ++ kept.has.gate ∷ (behind ++ tail behind)) left) place_is (subst (λ (f : List ℕ). Torn place 1 f left) (only since.0 since.1) since.2) in
        with_gate left (get_or left (length (before_gate site bodies)) 0) (torn_gate (before_gate site bodies) kept.has.gate (behind ++ tail behind) left torn)

    -- the file after both
    pub opened : (middle now : Option (List ℕ)) → middle ≡ Some (before_gate site bodies ++ kept.has.gate ∷ (behind ++ tail behind))
        → now ≡ option_map (λ file. overwritten file place (1 ∷ [])) middle → now ≡ Some (before_gate site (bodies ++ more) ++ 0 ∷ tail behind)
    opened middle now told is =
        is
        ∙ ap (option_map (λ file. overwritten file place (1 ∷ []))) told
        ∙ ap (λ (k : ℕ). Some (overwritten (before_gate site bodies ++ kept.has.gate ∷ (behind ++ tail behind)) k (1 ∷ []))) place_is
        ∙ ap Some (wrote_gate (before_gate site bodies) kept.has.gate (behind ++ tail behind) 1)
        ∙ ap Some (all_more site bodies more behind (tail behind) are)

    pub next_place : place + length behind ≡ gate_place (bodies ++ more)
    next_place =
        omega (arith, kept.place_is, ap length (records-append bodies more), length-append (records bodies) (records more), ap length are.bytes_are, length-append (records more) (0 ∷ []))

    pub keeps_more : (now : Option (List ℕ)) (now_may : List ℕ → Type 0) → now ≡ Some (before_gate site (bodies ++ more) ++ 0 ∷ tail behind)
        → Only (before_gate site (bodies ++ more) ++ 0 ∷ tail behind) now_may → Keeps site (bodies ++ more) (place + length behind) now now_may
    keeps_more now now_may told only = record {
      file = before_gate site (bodies ++ more) ++ 0 ∷ tail behind;
      told = told;
      has = record { gate = 0; rest = tail behind; closed = omega arith; short = all_short; bytes = refl };
      durable = only;
      place_is = next_place;
    }

-- ---- a new file

-- a file of at most four bytes has no bodies, if it has any
pub none_in_four : (site : ℕ) (left : List ℕ) → length left ≤ 4 → HasNoneIfAny site left
none_in_four site left few [] has = refl
none_in_four site left few (body ∷ bodies) has =
    absurd (omega (arith, few, ap length has.bytes, length-append (before_gate site (body ∷ bodies)) (has.gate ∷ has.rest), before_gate_size site (body ∷ bodies), length-append (record_of body) (records bodies), length-append (to_be_bytes w16 (length body)) body))

pub new_leaves : (site : ℕ) (before : List ℕ → Type 0) (left : List ℕ) → Only [] before → TornSince before 0 4 left → HasNoneIfAny site left
new_leaves site before left only since =
    let torn : Torn 0 4 [] left = subst (λ (f : List ℕ). Torn 0 4 f left) (only since.0 since.1) since.2 in
    none_in_four site left (omega (arith, torn.no_longer))

pub new_kept : (site : ℕ) (seen now : Option (List ℕ)) (may_leave : List ℕ → Type 0) → IsSome seen → IfSome seen (λ file. file ≡ []) → now ≡ option_map (λ file. overwritten file 0 (file_head site ++ 0 ∷ [])) seen
    → IfSome now (λ file. Only file may_leave) → Keeps site [] 3 now may_leave
new_kept site None now may_leave told empty is only = absurd (cc told)
new_kept site (Some file) now may_leave told empty is only =
    let told_now : now ≡ Some (file_head site ++ 0 ∷ []) = is ∙ ap (λ (f : List ℕ). Some (overwritten f 0 (file_head site ++ 0 ∷ []))) empty in
    record {
      file = file_head site ++ 0 ∷ [];
      told = told_now;
      has = record { gate = 0; rest = []; closed = omega arith; short = λ k d within. absurd (omega (arith, within)); bytes = refl };
      durable = subst (λ (s : Option (List ℕ)). IfSome s (λ f. Only f may_leave)) told_now only;
      place_is = refl;
    }

pub at_start : (seen : Option (List ℕ)) → IfSome seen (λ file. file ≡ []) → IfSome seen (λ file. 0 ≤ length file)
at_start None empty = tt
at_start (Some file) empty = omega arith
