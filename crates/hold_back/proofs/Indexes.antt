-- Held messages with the rows beside them, as these change.
use Rattle.std.proofs.Common.{◌≡◌, ℕ, ◌+◌, ◌-◌, ◌<◌, ◌≤◌, zero, suc, Bool, true, false, cond, ◌&&◌, List, [], ◌∷◌, ◌++◌, None, Some, Option, length, drop, take, get_or, set}
use Rattle.std.proofs.Common.{remove, refl, sym, ap, subst, ◌∙◌, arith, eqb}
use Rattle.std.specs.Prelude.{option_map, position, map, slice_get, find}
use Rattle.std.specs.List.{All, list_all, position_from}
use Rattle.std.proofs.lemmas.Bool.{and_parts}
use Rattle.std.proofs.lemmas.Bool.Decides.{nat_tests}
use Rattle.std.proofs.lemmas.List.{map-append, length-map, length-drop, take_more}
use Rattle.std.proofs.lemmas.List.Elements.{All-push}
use Rattle.std.proofs.lemmas.Option.{get_or_from_slice_get}
use Rattle.std.proofs.lemmas.List.Folds.{list_all-append}
use Rattle.std.proofs.lemmas.List.Quantifiers.{position-Some}
use Rattle.std.proofs.lemmas.Iterator.Adapters.{position_from-zero}
use Rattle.element_name.specs.Name.{Name, name_eq}
use Rattle.edit_message.specs.Message.{key_of, key_eq}
use Rattle.edit_message.specs.declared.message.Key.{Key}
use Rattle.edit_message.specs.declared.message.Key.TheVariants.{Coop, Admin}
use Rattle.edit_message.specs.declared.message.Message.{Message}
use Rattle.hold_back.specs.declared.awaited.Awaited.TheVariants as awaited
use Rattle.hold_back.specs.declared.held.Held.{Held}
use Rattle.hold_back.specs.declared.index.Index.{Index}
use Rattle.hold_back.specs.declared.need.Need.{Need}
use Rattle.hold_back.specs.declared.need.Need.TheVariants.{Element, Front}
use Rattle.hold_back.specs.declared.hold.TheConstants.{MAX_HELD}
use Rattle.hold_back.specs.Hold.{find_held, waits_for, is_woken, needing_at, messages_of, IsHold}
use Rattle.hold_back.specs.Index.{awaited_rank, is_ranked, need_rank, key_rank, ticket_ranks, need_fits, key_fits, held_fits, need_ranks, key_ranks}
use Rattle.hold_back.specs.Index.{rank, times_in, IsWith, IsWithout, AreArrivals, IsTicketRow, IsNextArrival, IsIndexOf, AreTicketsOf, IsIndexed}
use Rattle.hold_back.proofs.Holds.{IsHold-keep, IsHold-remove, IsHold-needing, messages_needing}
use Rattle.hold_back.proofs.Rows.{map_remove, row_push, row_remove, row_set, arrivals_push, arrivals_remove, ticket_there}

-- ---- ranks

-- what is in the range of its type has a rank of its own
element_is : (a b : Name) → is_ranked (awaited.Element a) ≡ true → is_ranked (awaited.Element b) ≡ true → eqb (awaited_rank (awaited.Element a)) (awaited_rank (awaited.Element b)) ≡ name_eq a b
element_is a b low high = grind (arith, nat_tests, low, high)

pub waits_is : (need : Need) (own : Option Need) (message : Message) → need_fits (Some need) ≡ true → need_fits own ≡ true
    → eqb (need_rank own) (need_rank (Some need)) ≡ waits_for need (record { message = message; need = own })
waits_is (Element b) None message fit own_fit = grind (arith, nat_tests)
waits_is (Front b) None message fit own_fit = grind (arith, nat_tests)
waits_is (Element b) (Some (Element a)) message fit own_fit = element_is a b own_fit fit
waits_is (Front b) (Some (Element a)) message fit own_fit = grind (arith, nat_tests, fit)
waits_is (Element b) (Some (Front a)) message fit own_fit = grind (arith, nat_tests, own_fit)
waits_is (Front b) (Some (Front a)) message fit own_fit = grind (arith, nat_tests)

pub woken_is : (own : Option Need) (message : Message) → eqb (need_rank own) 0 ≡ is_woken (record { message = message; need = own })
woken_is None message = refl
woken_is (Some (Element a)) message = grind (arith, nat_tests)
woken_is (Some (Front a)) message = grind (arith, nat_tests)

pub key_is : (key own : Key) → key_fits key ≡ true → key_fits own ≡ true → eqb (key_rank own) (key_rank key) ≡ key_eq own key
key_is (Coop b) (Coop a) fit own_fit = element_is a b own_fit fit
key_is (Admin b) (Coop a) fit own_fit = grind (arith, nat_tests, fit)
key_is (Coop b) (Admin a) fit own_fit = grind (arith, nat_tests, own_fit)
key_is (Admin b) (Admin a) fit own_fit = grind (arith, nat_tests)

-- ---- the first place

-- where a test of numbers is that of the messages that fit, both find the same place
same_from : (p : ℕ → Bool) (q : Held → Bool) (f : Held → ℕ) → ((h : Held) → held_fits h ≡ true → p (f h) ≡ q h) → (i : ℕ) (held : List Held) → list_all held_fits held ≡ true
    → position_from p i (map f held) ≡ position_from q i held
same_from p q f same i [] fit = refl
same_from p q f same i (h ∷ held) fit =
    let parts = and_parts (held_fits h) (list_all held_fits held) fit in
    ap (λ b. cond b (Some i) (position_from p (i + 1) (map f held))) (same h parts.0) ∙ ap (cond (q h) (Some i)) (same_from p q f same (i + 1) held parts.1)

pub same_position : (p : ℕ → Bool) (q : Held → Bool) (f : Held → ℕ) → ((h : Held) → held_fits h ≡ true → p (f h) ≡ q h) → (from : ℕ) (held : List Held) → list_all held_fits held ≡ true
    → position p (drop from (map f held)) ≡ position q (drop from held)
same_position p q f same zero held fit = position_from-zero p (map f held) ∙ same_from p q f same 0 held fit ∙ sym (position_from-zero q held)
same_position p q f same (suc from) [] fit = refl
same_position p q f same (suc from) (h ∷ held) fit = same_position p q f same from held (and_parts (held_fits h) (list_all held_fits held) fit).1

-- ---- lists of held messages

fit_remove : (held : List Held) (i : ℕ) → list_all held_fits held ≡ true → list_all held_fits (remove held i) ≡ true
fit_remove [] zero fit = refl
fit_remove [] (suc i) fit = refl
fit_remove (h ∷ held) zero fit = (and_parts (held_fits h) (list_all held_fits held) fit).1
fit_remove (h ∷ held) (suc i) fit =
    let parts = and_parts (held_fits h) (list_all held_fits held) fit in
    ap (λ b. b && list_all held_fits (remove held i)) parts.0 ∙ fit_remove held i parts.1

-- one of them waits under another need, or no more
needs_needing : (i : ℕ) (need : Option Need) (held : List Held) → i < length held → need_ranks (needing_at i need held) ≡ set (need_ranks held) i (need_rank need)
needs_needing i need [] within = absurd (omega (arith, within))
needs_needing zero need (h ∷ held) within = refl
needs_needing (suc i) need (h ∷ held) within = step i need h held (needs_needing i need held (omega (arith, within)))
  where
    step : (i : ℕ) (need : Option Need) (h : Held) (held : List Held) → need_ranks (needing_at i need held) ≡ set (need_ranks held) i (need_rank need)
        → need_ranks (needing_at (suc i) need (h ∷ held)) ≡ need_rank h.need ∷ set (need_ranks held) i (need_rank need)
    step i need h held rest = inner_step (slice_get held i) rest
      where
        inner_step : (x : Option Held) → need_ranks (elim x [ Some y ↦ set held i (record { message = y.message; need = need }) | None ↦ held ]) ≡ set (need_ranks held) i (need_rank need)
            → need_ranks (elim x [ Some y ↦ h ∷ set held i (record { message = y.message; need = need }) | None ↦ h ∷ held ]) ≡ need_rank h.need ∷ set (need_ranks held) i (need_rank need)
        inner_step None rest = ap (λ ns. need_rank h.need ∷ ns) rest
        inner_step (Some y) rest = ap (λ ns. need_rank h.need ∷ ns) rest

fit_needing : (i : ℕ) (need : Option Need) (held : List Held) → need_fits need ≡ true → list_all held_fits held ≡ true → list_all held_fits (needing_at i need held) ≡ true
fit_needing zero need [] fit all = refl
fit_needing (suc i) need [] fit all = refl
fit_needing zero need (h ∷ held) fit all =
    let parts = and_parts (held_fits h) (list_all held_fits held) all in
    let own = and_parts (need_fits h.need) (key_fits (key_of h.message)) parts.0 in
    ap (λ b. (b && key_fits (key_of h.message)) && list_all held_fits held) fit ∙ ap (λ b. b && list_all held_fits held) own.1 ∙ parts.1
fit_needing (suc i) need (h ∷ held) fit all = by (slice_get held i) (fit_needing i need held fit parts.1)
  where
    parts : (held_fits h ≡ true) × (list_all held_fits held ≡ true)
    parts = and_parts (held_fits h) (list_all held_fits held) all

    by : (x : Option Held) → list_all held_fits (elim x [ Some y ↦ set held i (record { message = y.message; need = need }) | None ↦ held ]) ≡ true
        → list_all held_fits (elim x [ Some y ↦ h ∷ set held i (record { message = y.message; need = need }) | None ↦ h ∷ held ]) ≡ true
    by None rest = ap (λ b. b && list_all held_fits held) parts.0 ∙ rest
    by (Some y) rest = ap (λ b. b && list_all held_fits (set held i (record { message = y.message; need = need }))) parts.0 ∙ rest

keys_from : (held : List Held) → key_ranks held ≡ map (λ m. key_rank (key_of m)) (messages_of held)
keys_from [] = refl
keys_from (h ∷ held) = ap (λ ns. key_rank (key_of h.message) ∷ ns) (keys_from held)

keys_needing : (i : ℕ) (need : Option Need) (held : List Held) → key_ranks (needing_at i need held) ≡ key_ranks held
keys_needing i need held = keys_from (needing_at i need held) ∙ ap (map (λ m. key_rank (key_of m))) (messages_needing i need held) ∙ sym (keys_from held)

-- the rank at a place
pub ranked_at : (f : Held → ℕ) (held : List Held) (i : ℕ) (h : Held) → slice_get held i ≡ Some h → get_or (map f held) i 0 ≡ f h
ranked_at f [] zero h there = absurd (cc)
ranked_at f [] (suc i) h there = absurd (cc)
ranked_at f (x ∷ held) zero h there =
    let e : x ≡ h = cc in
    ap f e
ranked_at f (x ∷ held) (suc i) h there = ranked_at f held i h there

-- ---- what changes leave

pub IsIndexOf-push : (ns ks : List ℕ) (old new : Index) (a n k : ℕ) → IsIndexOf ns ks old → IsNextArrival old a
    → new.arrivals.items ≡ old.arrivals.items ++ a ∷ [] → IsWith (rank n a) (ticket_ranks old.needs.items) (ticket_ranks new.needs.items) → IsWith (rank k a) (ticket_ranks old.keys.items) (ticket_ranks new.keys.items)
    → IsIndexOf (ns ++ n ∷ []) (ks ++ k ∷ []) new
IsIndexOf-push ns ks old new a n k is next arrivals needs keys = record {
  arrivals = subst (λ (us : List ℕ). AreArrivals us) (sym arrivals) (arrivals_push old.arrivals.items a is.arrivals next.later next.small);
  waiting = subst (λ (us : List ℕ). IsTicketRow (ns ++ n ∷ []) us (ticket_ranks new.needs.items)) (sym arrivals)
      (row_push ns old.arrivals.items (ticket_ranks old.needs.items) (ticket_ranks new.needs.items) n a is.waiting needs);
  keyed = subst (λ (us : List ℕ). IsTicketRow (ks ++ k ∷ []) us (ticket_ranks new.keys.items)) (sym arrivals)
      (row_push ks old.arrivals.items (ticket_ranks old.keys.items) (ticket_ranks new.keys.items) k a is.keyed keys);
}

pub IsIndexed-keep : (held : List Held) (h : Held) (old new : Index) (a : ℕ) → IsHold held → list_all held_fits held ≡ true → AreTicketsOf held old
    → find_held (key_of h.message) held ≡ None → length held < MAX_HELD → held_fits h ≡ true → IsNextArrival old a
    → new.arrivals.items ≡ old.arrivals.items ++ a ∷ [] → IsWith (rank (need_rank h.need) a) (ticket_ranks old.needs.items) (ticket_ranks new.needs.items)
    → IsWith (rank (key_rank (key_of h.message)) a) (ticket_ranks old.keys.items) (ticket_ranks new.keys.items) → IsIndexed (held ++ h ∷ []) new
IsIndexed-keep held h old new a hold fit rows none room own next arrivals needs keys = record {
  hold = IsHold-keep held h hold none room;
  fit = list_all-append held_fits held (h ∷ []) ∙ ap (λ b. b && (held_fits h && true)) fit ∙ ap (λ b. b && true) own;
  rows =
      let ns = map-append (λ (x : Held). need_rank x.need) held (h ∷ []) in
      let ks = map-append (λ (x : Held). key_rank (key_of x.message)) held (h ∷ []) in
      let is = IsIndexOf-push (need_ranks held) (key_ranks held) old new a (need_rank h.need) (key_rank (key_of h.message)) rows next arrivals needs keys in
      subst (λ (n : List ℕ). IsIndexOf n (key_ranks (held ++ h ∷ [])) new) (sym ns) (subst (λ (k : List ℕ). IsIndexOf (need_ranks held ++ need_rank h.need ∷ []) k new) (sym ks) is);
}

pub IsIndexed-remove : (held : List Held) (i : ℕ) (h : Held) (m k : ℕ) (old new : Index) → IsIndexed held old → i < length held → slice_get held i ≡ Some h
    → m ≡ need_rank h.need → k ≡ key_rank (key_of h.message)
    → new.arrivals.items ≡ remove old.arrivals.items i → IsWithout (rank m (get_or old.arrivals.items i 0)) (ticket_ranks old.needs.items) (ticket_ranks new.needs.items)
    → IsWithout (rank k (get_or old.arrivals.items i 0)) (ticket_ranks old.keys.items) (ticket_ranks new.keys.items) → IsIndexed (remove held i) new
IsIndexed-remove held i h m k old new is within there its_need its_key arrivals needs keys = record {
  hold = IsHold-remove held i is.hold within;
  fit = fit_remove held i is.fit;
  rows =
      let us = old.arrivals.items in
      let a = get_or us i 0 in
      let ns = need_ranks held in
      let ks = key_ranks held in
      let rows = is.rows in
      let long = length-map held (λ (x : Held). need_rank x.need) in
      let longer = length-map held (λ (x : Held). key_rank (key_of x.message)) in
      let count = rows.waiting.count in
      let n = its_need ∙ sym (ranked_at (λ x. need_rank x.need) held i h there) in
      let l = its_key ∙ sym (ranked_at (λ x. key_rank (key_of x.message)) held i h there) in
      let w = row_remove ns us (ticket_ranks old.needs.items) (ticket_ranks new.needs.items) i rows.waiting (omega (arith, within, long))
      (subst (λ (x : ℕ). IsWithout (rank x a) (ticket_ranks old.needs.items) (ticket_ranks new.needs.items)) n needs) in
      let v = row_remove ks us (ticket_ranks old.keys.items) (ticket_ranks new.keys.items) i rows.keyed (omega (arith, within, longer))
      (subst (λ (x : ℕ). IsWithout (rank x a) (ticket_ranks old.keys.items) (ticket_ranks new.keys.items)) l keys) in
      record {
        arrivals = subst (λ (xs : List ℕ). AreArrivals xs) (sym arrivals) (arrivals_remove us i rows.arrivals (omega (arith, within, long, count)));
        waiting = subst (λ (xs : List ℕ). IsTicketRow (need_ranks (remove held i)) xs (ticket_ranks new.needs.items)) (sym arrivals)
            (subst (λ (xs : List ℕ). IsTicketRow xs (remove us i) (ticket_ranks new.needs.items)) (sym (map_remove (λ (x : Held). need_rank x.need) held i)) w);
        keyed = subst (λ (xs : List ℕ). IsTicketRow (key_ranks (remove held i)) xs (ticket_ranks new.keys.items)) (sym arrivals)
            (subst (λ (xs : List ℕ). IsTicketRow xs (remove us i) (ticket_ranks new.keys.items)) (sym (map_remove (λ (x : Held). key_rank (key_of x.message)) held i)) v);
      };
}

pub IsIndexed-needing : (held : List Held) (i m n : ℕ) (need : Option Need) (old new : Index) → IsIndexed held old → i < length held → get_or (need_ranks held) i 0 ≡ m
    → n ≡ need_rank need → need_fits need ≡ true → new.arrivals.items ≡ old.arrivals.items → new.keys.items ≡ old.keys.items
    → ((between : List ℕ) × IsWithout (rank m (get_or old.arrivals.items i 0)) (ticket_ranks old.needs.items) between × IsWith (rank n (get_or old.arrivals.items i 0)) between (ticket_ranks new.needs.items))
    → IsIndexed (needing_at i need held) new
IsIndexed-needing held i m n need old new is within there number fit arrivals keys needs = record {
  hold = IsHold-needing held i need is.hold;
  fit = fit_needing i need held fit is.fit;
  rows =
      let us = old.arrivals.items in
      let a = get_or us i 0 in
      let ns = need_ranks held in
      let rows = is.rows in
      let long = length-map held (λ (x : Held). need_rank x.need) in
      let less = subst (λ (x : ℕ). IsWithout (rank x a) (ticket_ranks old.needs.items) needs.0) (sym there) needs.1 in
      let w = row_set ns us (ticket_ranks old.needs.items) needs.0 (ticket_ranks new.needs.items) i n rows.waiting (omega (arith, within, long)) less needs.2 in
      let changed = ap (set ns i) number ∙ sym (needs_needing i need held within) in
      record {
        arrivals = subst (λ (xs : List ℕ). AreArrivals xs) (sym arrivals) rows.arrivals;
        waiting = subst (λ (xs : List ℕ). IsTicketRow (need_ranks (needing_at i need held)) xs (ticket_ranks new.needs.items)) (sym arrivals)
            (subst (λ (xs : List ℕ). IsTicketRow xs us (ticket_ranks new.needs.items)) changed w);
        keyed = subst (λ (xs : List ℕ). IsTicketRow xs new.arrivals.items (ticket_ranks new.keys.items)) (sym (keys_needing i need held))
            (subst (λ (xs : List ℕ). IsTicketRow (key_ranks held) xs (ticket_ranks new.keys.items)) (sym arrivals) (subst (λ (xs : List ℕ). IsTicketRow (key_ranks held) us xs) (sym (ap ticket_ranks keys)) rows.keyed));
      };
}

-- the rank of what is read at a place
pub rank_held : (given held : List Held) (i : ℕ) (left : Option Need) (m : ℕ) → given ≡ held → option_map (λ h. h.need) (slice_get given i) ≡ Some left → m ≡ need_rank left
    → get_or (need_ranks held) i 0 ≡ m
rank_held given held i left m same read number = by (slice_get held i) refl (subst (λ (hs : List Held). option_map (λ h. h.need) (slice_get hs i) ≡ Some left) same read)
  where
    by : (x : Option Held) → slice_get held i ≡ x → option_map (λ h. h.need) x ≡ Some left → get_or (need_ranks held) i 0 ≡ m
    by None e none = absurd (cc)
    by (Some h) e some =
        let need_is : h.need ≡ left = cc in
        ranked_at (λ x. need_rank x.need) held i h e ∙ ap need_rank need_is ∙ sym number

-- a held message's tickets stand in the rows
pub need_there : (held : List Held) (i m : ℕ) (index : Index) → IsIndexed held index → i < length held → get_or (need_ranks held) i 0 ≡ m
    → 1 ≤ times_in (rank m (get_or index.arrivals.items i 0)) (ticket_ranks index.needs.items)
need_there held i m index is within there =
    let long = length-map held (λ (x : Held). need_rank x.need) in
    subst (λ (x : ℕ). 1 ≤ times_in (rank x (get_or index.arrivals.items i 0)) (ticket_ranks index.needs.items)) there
    (ticket_there (need_ranks held) index.arrivals.items (ticket_ranks index.needs.items) i is.rows.waiting (omega (arith, within, long)))

pub key_there : (held : List Held) (i k : ℕ) (h : Held) (index : Index) → IsIndexed held index → i < length held → slice_get held i ≡ Some h → k ≡ key_rank (key_of h.message)
    → 1 ≤ times_in (rank k (get_or index.arrivals.items i 0)) (ticket_ranks index.keys.items)
key_there held i k h index is within there number =
    let long = length-map held (λ (x : Held). key_rank (key_of x.message)) in
    subst (λ (x : ℕ). 1 ≤ times_in (rank x (get_or index.arrivals.items i 0)) (ticket_ranks index.keys.items)) (ranked_at (λ x. key_rank (key_of x.message)) held i h there ∙ sym number)
    (ticket_there (key_ranks held) index.arrivals.items (ticket_ranks index.keys.items) i is.rows.keyed (omega (arith, within, long)))

-- the rows alone tell what an index is of
pub IsIndexOf-same : (ns ks : List ℕ) (old new : Index) → new.arrivals.items ≡ old.arrivals.items → new.needs.items ≡ old.needs.items → new.keys.items ≡ old.keys.items
    → IsIndexOf ns ks old → IsIndexOf ns ks new
IsIndexOf-same ns ks old new arrivals needs keys is = record {
  arrivals = subst (λ (xs : List ℕ). AreArrivals xs) (sym arrivals) is.arrivals;
  waiting = subst (λ (xs : List ℕ). IsTicketRow ns xs (ticket_ranks new.needs.items)) (sym arrivals) (subst (λ (xs : List ℕ). IsTicketRow ns old.arrivals.items xs) (sym (ap ticket_ranks needs)) is.waiting);
  keyed = subst (λ (xs : List ℕ). IsTicketRow ks xs (ticket_ranks new.keys.items)) (sym arrivals) (subst (λ (xs : List ℕ). IsTicketRow ks old.arrivals.items xs) (sym (ap ticket_ranks keys)) is.keyed);
}

-- one more of the held messages, numbered by its place
pub numbered_more : (held : List Held) (i : ℕ) (h : Held) (m k : ℕ) (old mid new : Index) → i < length held → slice_get held i ≡ Some h → i < 4294967296
    → m ≡ need_rank h.need → k ≡ key_rank (key_of h.message) → AreTicketsOf (take i held) old → All (λ b. b < i) old.arrivals.items
    → mid.arrivals.items ≡ old.arrivals.items → mid.needs.items ≡ old.needs.items → mid.keys.items ≡ old.keys.items
    → new.arrivals.items ≡ mid.arrivals.items ++ i ∷ [] → IsWith (rank m i) (ticket_ranks mid.needs.items) (ticket_ranks new.needs.items) → IsWith (rank k i) (ticket_ranks mid.keys.items) (ticket_ranks new.keys.items)
    → AreTicketsOf (take (i + 1) held) new × All (λ b. b < i + 1) new.arrivals.items
numbered_more held i h m k old mid new within there small its_need its_key is later a n l arrivals needs keys =
    let before = IsIndexOf-same (need_ranks (take i held)) (key_ranks (take i held)) old mid a n l is in
    let later_still = subst (λ (us : List ℕ). All (λ b. b < i) us) (sym a) later in
    let after = IsIndexOf-push (need_ranks (take i held)) (key_ranks (take i held)) mid new i m k before (record { later = later_still; small = small }) arrivals needs keys in
    let more : take (i + 1) held ≡ take i held ++ h ∷ [] = take_more held i h within ∙ ap (λ (x : Held). take i held ++ x ∷ []) (get_or_from_slice_get held i h h there) in
    let ns : need_ranks (take i held) ++ m ∷ [] ≡ need_ranks (take (i + 1) held) =
    ap (λ (x : ℕ). need_ranks (take i held) ++ x ∷ []) its_need ∙ sym (map-append (λ (x : Held). need_rank x.need) (take i held) (h ∷ [])) ∙ sym (ap need_ranks more) in
    let ks : key_ranks (take i held) ++ k ∷ [] ≡ key_ranks (take (i + 1) held) =
    ap (λ (x : ℕ). key_ranks (take i held) ++ x ∷ []) its_key ∙ sym (map-append (λ (x : Held). key_rank (key_of x.message)) (take i held) (h ∷ [])) ∙ sym (ap key_ranks more) in (
      subst (λ (xs : List ℕ). IsIndexOf xs (key_ranks (take (i + 1) held)) new) ns (subst (λ (xs : List ℕ). IsIndexOf (need_ranks (take i held) ++ m ∷ []) xs new) ks after),
      subst (λ (us : List ℕ). All (λ b. b < i + 1) us) (sym arrivals)
          (All-push (λ b. b < i + 1) mid.arrivals.items i (λ j d lt. let under = later_still j d lt in omega (arith, under)) (omega arith)),
    )

-- as many as are held have come
pub came : (held : List Held) (index : Index) → IsIndexed held index → length index.arrivals.items ≡ length held
came held index is = sym is.rows.waiting.count ∙ length-map held (λ (x : Held). need_rank x.need)

-- ---- what is found

-- what is found from a place on lies within
pub within_list : (p : ℕ → Bool) (ns : List ℕ) (from i : ℕ) → Some i ≡ option_map (λ k. from + k) (position p (drop from ns)) → i < length ns
within_list p ns from i found = by (position p (drop from ns)) refl found
  where
    by : (x : Option ℕ) → position p (drop from ns) ≡ x → Some i ≡ option_map (λ k. from + k) x → i < length ns
    by None e none = absurd (cc)
    by (Some k) e some =
        let at = position-Some p (drop from ns) k 0 e in
        let inside = at.0 in
        let long = length-drop from ns in
        let same : i ≡ from + k = cc in
        omega (arith, inside, long, same)

-- the first that passes stands at its place
first_from : (q : Held → Bool) (i k : ℕ) (held : List Held) → position_from q i held ≡ Some k → (i ≤ k) × (slice_get held (k - i) ≡ find q held)
first_from q i k [] found = absurd (cc)
first_from q i k (h ∷ held) found = by (q h) refl (first_from q (i + 1) k held)
  where
    by : (b : Bool) → q h ≡ b → (position_from q (i + 1) held ≡ Some k → (i + 1 ≤ k) × (slice_get held (k - (i + 1)) ≡ find q held))
        → (i ≤ k) × (slice_get (h ∷ held) (k - i) ≡ cond (q h) (Some h) (find q held))
    by true e later =
        let some : Some i ≡ Some k = sym (ap (λ b. cond b (Some i) (position_from q (i + 1) held)) e) ∙ found in
        let same : i ≡ k = cc in
        (let zero_is : k - i ≡ 0 = omega (arith, same) in (omega (arith, same), ap (slice_get (h ∷ held)) zero_is ∙ sym (ap (λ b. cond b (Some h) (find q held)) e)))
    by false e later =
        let rest = later (sym (ap (λ b. cond b (Some i) (position_from q (i + 1) held)) e) ∙ found) in
        let low = rest.0 in
        let next : k - i ≡ suc (k - (i + 1)) = omega (arith, low) in
        (omega (arith, low), ap (slice_get (h ∷ held)) next ∙ rest.1 ∙ sym (ap (λ b. cond b (Some h) (find q held)) e))

none_from : (q : Held → Bool) (i : ℕ) (held : List Held) → position_from q i held ≡ None → find q held ≡ None
none_from q i [] none = refl
none_from q i (h ∷ held) none = by (q h) refl (none_from q (i + 1) held)
  where
    by : (b : Bool) → q h ≡ b → (position_from q (i + 1) held ≡ None → find q held ≡ None) → cond (q h) (Some h) (find q held) ≡ None
    by true e later =
        let some : Some i ≡ None = sym (ap (λ b. cond b (Some i) (position_from q (i + 1) held)) e) ∙ none in
        absurd (cc)
    by false e later = ap (λ b. cond b (Some h) (find q held)) e ∙ later (sym (ap (λ b. cond b (Some i) (position_from q (i + 1) held)) e) ∙ none)

key_place : (key : Key) (held : List Held) → list_all held_fits held ≡ true → key_fits key ≡ true
    → position (λ n. eqb n (key_rank key)) (key_ranks held) ≡ position (λ h. key_eq (key_of h.message) key) held
key_place key held fit known = same_position (λ n. eqb n (key_rank key)) (λ h. key_eq (key_of h.message) key) (λ h. key_rank (key_of h.message))
    (λ h both. key_is key (key_of h.message) known (and_parts (need_fits h.need) (key_fits (key_of h.message)) both).1) 0 held fit

-- what the row of keys says, of the list that is seen and under the number that was asked for
place_of : (key : Key) (held : List Held) (m : ℕ) (r : Option ℕ) → list_all held_fits held ≡ true → key_fits key ≡ true → m ≡ key_rank key
    → r ≡ position (λ n. eqb n m) (key_ranks held) → position_from (λ h. key_eq (key_of h.message) key) 0 held ≡ r
place_of key held m r fit known number found =
    sym (position_from-zero (λ h. key_eq (key_of h.message) key) held) ∙ sym (key_place key held fit known)
    ∙ sym (ap (λ (k : ℕ). position (λ n. eqb n k) (key_ranks held)) number) ∙ sym found

pub key_found : (key : Key) (held given seen : List Held) (m i : ℕ) (r : Option ℕ) → list_all held_fits held ≡ true → key_fits key ≡ true → m ≡ key_rank key → given ≡ held → held ≡ seen
    → r ≡ position (λ n. eqb n m) (key_ranks held) → r ≡ Some i → option_map (λ h. h.message) (slice_get given i) ≡ find_held key seen
key_found key held given seen m i r fit known number same as_seen found some =
    let first = (first_from (λ h. key_eq (key_of h.message) key) 0 i held (place_of key held m r fit known number found ∙ some)).1 in
    let zero_is : i - 0 ≡ i = omega arith in
    ap (λ (hs : List Held). option_map (λ h. h.message) (slice_get hs i)) same ∙ ap (λ (k : ℕ). option_map (λ h. h.message) (slice_get held k)) (sym zero_is)
    ∙ ap (option_map (λ h. h.message)) first ∙ ap (find_held key) as_seen

pub key_missing : (key : Key) (held seen : List Held) (m : ℕ) (r : Option ℕ) → list_all held_fits held ≡ true → key_fits key ≡ true → m ≡ key_rank key → held ≡ seen
    → r ≡ position (λ n. eqb n m) (key_ranks held) → r ≡ None → None ≡ find_held key seen
key_missing key held seen m r fit known number as_seen found none =
    sym (ap (option_map (λ h. h.message)) (none_from (λ h. key_eq (key_of h.message) key) 0 held (place_of key held m r fit known number found ∙ none))) ∙ ap (find_held key) as_seen

pub waiting_found : (need : Need) (from : ℕ) (held : List Held) → list_all held_fits held ≡ true → need_fits (Some need) ≡ true
    → position (λ n. eqb n (need_rank (Some need))) (drop from (need_ranks held)) ≡ position (waits_for need) (drop from held)
waiting_found need from held fit known = same_position (λ n. eqb n (need_rank (Some need))) (waits_for need) (λ h. need_rank h.need)
    (λ h both. waits_is need h.need h.message known (and_parts (need_fits h.need) (key_fits (key_of h.message)) both).0) from held fit

pub woken_found : (from : ℕ) (held : List Held) → list_all held_fits held ≡ true → position (λ n. eqb n 0) (drop from (need_ranks held)) ≡ position is_woken (drop from held)
woken_found from held fit = same_position (λ n. eqb n 0) is_woken (λ h. need_rank h.need) (λ h both. woken_is h.need h.message) from held fit

pub within_held : (p : ℕ → Bool) (held : List Held) (from i : ℕ) → Some i ≡ option_map (λ k. from + k) (position p (drop from (need_ranks held))) → i < length held
within_held p held from i found =
    let within = within_list p (need_ranks held) from i found in
    let long = length-map held (λ (x : Held). need_rank x.need) in
    omega (arith, within, long)
