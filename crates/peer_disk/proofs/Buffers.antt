-- The bodies of a list of buffers, one more at a time, and the places of the gates behind them.
use Rattle.std.proofs.Common.{◌≡◌, ℕ, ◌+◌, ◌≤◌, ◌<◌, List, [], ◌∷◌, ◌++◌, length, get_or, take, drop, sym, ◌∙◌, ap, arith, length-append, Vec}
use Rattle.std.specs.Int.{w16, to_be_bytes}
use Rattle.std.proofs.lemmas.List.{take-append-drop, take_more, take_all}
use Rattle.peer_disk.specs.Records.{record_of, records, gate_place, bytes_of_each}
use Rattle.peer_disk.proofs.Appending.{records-append, records-push, each-append}

-- the place of the gate behind one record more
gate_place-push : (bodies : List (List ℕ)) (body : List ℕ) → gate_place (bodies ++ body ∷ []) ≡ gate_place bodies + (3 + length body)
gate_place-push bodies body =
    omega (arith, ap length (records-push bodies body), length-append (records bodies) (record_of body), length-append (to_be_bytes w16 (length body)) body)

-- no gate of the first records stands behind that of all
gate_place-append : (some others : List (List ℕ)) → gate_place some ≤ gate_place (some ++ others)
gate_place-append some others = omega (arith, ap length (records-append some others), length-append (records some) (records others))

module _ {A : Type 0} (bodies : List (Vec ℕ A)) (i : ℕ) (item : Vec ℕ A) (within : i < length bodies) (item_is : item ≡ get_or bodies i item) where
  -- the bodies up to an item are those before it and its own
  pub one_more : bytes_of_each (take (i + 1) bodies) ≡ bytes_of_each (take i bodies) ++ item.items ∷ []
  one_more =
      ap bytes_of_each (take_more bodies i item within) ∙ each-append (take i bodies) (get_or bodies i item ∷ [])
      ∙ ap (λ (v : Vec ℕ A). bytes_of_each (take i bodies) ++ v.items ∷ []) (sym item_is)

  -- the place of the gate behind them
  pub gate_behind : gate_place (bytes_of_each (take (i + 1) bodies)) ≡ gate_place (bytes_of_each (take i bodies)) + (3 + length item.items)
  gate_behind = ap gate_place one_more ∙ gate_place-push (bytes_of_each (take i bodies)) item.items

  -- which is no higher than that behind all
  pub gate_within : gate_place (bytes_of_each (take (i + 1) bodies)) ≤ gate_place (bytes_of_each bodies)
  gate_within =
      let parts : bytes_of_each bodies ≡ bytes_of_each (take (i + 1) bodies) ++ bytes_of_each (drop (i + 1) bodies) = ap bytes_of_each (sym (take-append-drop (i + 1) bodies)) ∙ each-append (take (i + 1) bodies) (drop (i + 1) bodies) in
      omega (arith, ap gate_place parts, gate_place-append (bytes_of_each (take (i + 1) bodies)) (bytes_of_each (drop (i + 1) bodies)))

-- at the end all bodies were taken
pub all_taken : {A : Type 0} (bodies : List (Vec ℕ A)) (i : ℕ) → length bodies ≤ i → bytes_of_each (take i bodies) ≡ bytes_of_each bodies
all_taken bodies i past = ap bytes_of_each (take_all i bodies past)
