-- What showed of elements, by their places.
use Rattle.std.proofs.Common.{◌≡◌, ℕ, inl, inr, ⊎_elim, Bool, true, false, List, [], ◌∷◌, refl, ap, sym, subst, ◌∙◌}
use Rattle.std.specs.Prelude.{fold, if◌then◌else◌}
use Rattle.std.specs.declared.cmp.Ordering.{Ordering}
use Rattle.std.specs.declared.cmp.Ordering.TheVariants.{Less, Equal, Greater}
use Rattle.std.specs.BTreeMap.{insert_entry}
use Rattle.std.specs.Cmp.{ranked}
use Rattle.std.specs.Ordering.{nat_cmp, match_ordering}
use Rattle.std.proofs.lemmas.Bool.{cases_Bool}
use Rattle.element_name.specs.Name.{Name, name_eq, has_name}
use Rattle.element_name.specs.Places.{place_in}
use Rattle.element_name.proofs.NameOrder.{same_name}
use Rattle.coop_request.specs.History.{text_order}
use Rattle.tomb_seq.proofs.Has.{Has}
use Rattle.peer_core.specs.Peer.{Peer, history}
use Rattle.text_change.specs.declared.seen.Seen.{Seen}
use Rattle.text_change.specs.Rows.{piece_at}
use Rattle.text_change.specs.Seen.{seen_of, with_seen, seen_at}

-- an entry is of an element of the order, at its place, with the piece that shows of it at a peer
pub record IsRight (p : Peer) (order : List Name) (x : ℕ × Seen) : Type 0 where
  pub there : has_name order x.1.element ≡ true
  pub place : x.0 ≡ place_in order x.1.element
  pub piece : x.1.piece ≡ piece_at p x.1.element

-- an entry of a place is among these
abbrev pub HasPlace : List (ℕ × Seen) → ℕ → Type 0
HasPlace entries place = (x : ℕ × Seen) × Has entries x × (x.0 ≡ place)

-- ---- one more entry

module _ (P : ℕ × Seen → Type 0) (k : ℕ) (v : Seen) (own : P (k, v)) where
  all_inserted : (es : List (ℕ × Seen)) → ((x : ℕ × Seen) → Has es x → P x) → (x : ℕ × Seen) → Has (insert_entry nat_cmp es k v) x → P x
  all_inserted [] all x (inl same) = subst P same own
  all_inserted [] all x (inr h) = absurd h
  all_inserted (e ∷ es) all x h = by (all_inserted es (λ y there. all y (inr there)) x) (nat_cmp k e.0) refl h
    where
      by : (Has (insert_entry nat_cmp es k v) x → P x) → (o : Ordering) → nat_cmp k e.0 ≡ o → Has (match_ordering o ((k, v) ∷ e ∷ es) ((e.0, v) ∷ es) (e ∷ insert_entry nat_cmp es k v)) x → P x
      by rest Less is (inl same) = subst P same own
      by rest Less is (inr more) = all x more
      by rest Equal is (inl same) = subst P same (subst (λ (j : ℕ). P (j, v)) (ranked k e.0 Equal (sym is)) own)
      by rest Equal is (inr more) = all x (inr more)
      by rest Greater is (inl same) = all x (inl same)
      by rest Greater is (inr more) = rest more

place_inserted : (es : List (ℕ × Seen)) (k : ℕ) (v : Seen) → HasPlace (insert_entry nat_cmp es k v) k
place_inserted [] k v = ((k, v), inl refl, refl)
place_inserted (e ∷ es) k v = by (nat_cmp k e.0) refl (place_inserted es k v)
  where
    by : (o : Ordering) → nat_cmp k e.0 ≡ o → HasPlace (insert_entry nat_cmp es k v) k
        → HasPlace (match_ordering o ((k, v) ∷ e ∷ es) ((e.0, v) ∷ es) (e ∷ insert_entry nat_cmp es k v)) k
    by Less is more = ((k, v), inl refl, refl)
    by Equal is more = ((e.0, v), inl refl, sym (ranked k e.0 Equal (sym is)))
    by Greater is more = (more.0, inr more.1, more.2)

place_kept : (es : List (ℕ × Seen)) (k : ℕ) (v : Seen) (j : ℕ) → HasPlace es j → HasPlace (insert_entry nat_cmp es k v) j
place_kept [] k v j found = absurd found.1
place_kept (e ∷ es) k v j found = by (nat_cmp k e.0) found.1 (place_kept es k v j)
  where
    by : (o : Ordering) → Has (e ∷ es) found.0 → (HasPlace es j → HasPlace (insert_entry nat_cmp es k v) j)
        → HasPlace (match_ordering o ((k, v) ∷ e ∷ es) ((e.0, v) ∷ es) (e ∷ insert_entry nat_cmp es k v)) j
    by Less h more = (found.0, inr h, found.2)
    by Equal (inl same) more = ((e.0, v), inl refl, ap (λ (z : ℕ × Seen). z.0) same ∙ found.2)
    by Equal (inr h) more = (found.0, inr h, found.2)
    by Greater (inl same) more = (found.0, inl same, found.2)
    by Greater (inr h) more = let m = more (found.0, h, found.2) in (m.0, inr m.1, m.2)

-- ---- entries of elements

module _ (p : Peer) where
  abbrev order : List Name
  order = text_order (history p)

  right_seen : (es : List (ℕ × Seen)) (e : Name) → ((x : ℕ × Seen) → Has es x → IsRight p order x) → (x : ℕ × Seen) → Has (with_seen p es e) x → IsRight p order x
  right_seen es e all x h = by (has_name order e) refl h
    where
      by : (b : Bool) → has_name order e ≡ b → Has (if b then insert_entry nat_cmp es (place_in order e) (seen_of p e) else es) x → IsRight p order x
      by true there more = all_inserted (IsRight p order) (place_in order e) (seen_of p e) (record { there = there; place = refl; piece = refl }) es all x more
      by false off more = all x more

  right_from : (elements : List Name) (es : List (ℕ × Seen)) → ((x : ℕ × Seen) → Has es x → IsRight p order x)
      → (x : ℕ × Seen) → Has (fold (with_seen p) es elements) x → IsRight p order x
  right_from [] es all = all
  right_from (e ∷ elements) es all = right_from elements (with_seen p es e) (right_seen es e all)

  pub right_all : (elements : List Name) (x : ℕ × Seen) → Has (seen_at p elements) x → IsRight p order x
  right_all elements = right_from elements [] (λ x h. absurd h)

  kept_seen : (es : List (ℕ × Seen)) (e : Name) (j : ℕ) → HasPlace es j → HasPlace (with_seen p es e) j
  kept_seen es e j found = by (has_name order e)
    where
      by : (b : Bool) → HasPlace (if b then insert_entry nat_cmp es (place_in order e) (seen_of p e) else es) j
      by true = place_kept es (place_in order e) (seen_of p e) j found
      by false = found

  kept_from : (elements : List Name) (es : List (ℕ × Seen)) (j : ℕ) → HasPlace es j → HasPlace (fold (with_seen p) es elements) j
  kept_from [] es j found = found
  kept_from (e ∷ elements) es j found = kept_from elements (with_seen p es e) j (kept_seen es e j found)

  put_seen : (es : List (ℕ × Seen)) (e : Name) → has_name order e ≡ true → HasPlace (with_seen p es e) (place_in order e)
  put_seen es e there =
      subst (λ (b : Bool). HasPlace (if b then insert_entry nat_cmp es (place_in order e) (seen_of p e) else es) (place_in order e)) (sym there)
      (place_inserted es (place_in order e) (seen_of p e))

  there_from : (elements : List Name) (es : List (ℕ × Seen)) (n : Name) → has_name elements n ≡ true → has_name order n ≡ true
      → HasPlace (fold (with_seen p) es elements) (place_in order n)
  there_from [] es n h there = absurd cc
  there_from (e ∷ elements) es n h there = ⊎_elim
      (λ (same : name_eq n e ≡ true).
      let is : e ≡ n = sym (same_name n e same) in
      kept_from elements (with_seen p es e) (place_in order n) (subst (λ (m : Name). HasPlace (with_seen p es e) (place_in order m)) is (put_seen es e (ap (has_name order) is ∙ there))))
      (λ (other : name_eq n e ≡ false). there_from elements (with_seen p es e) n (rw other at h) there)
      (cases_Bool (name_eq n e))

  -- each of these elements has an entry at its place
  pub there_all : (elements : List Name) (n : Name) → has_name elements n ≡ true → has_name order n ≡ true → HasPlace (seen_at p elements) (place_in order n)
  there_all elements = there_from elements []
