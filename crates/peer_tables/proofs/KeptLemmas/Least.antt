-- The least name that awaits its validation depends only on which requests there are.
use Rattle.std.proofs.Common.{◌≡◌, ℕ, ◌==◌, inl, inr, Bool, true, false, not, ◌&&◌, List, [], ◌∷◌, map, None, Some, refl, sym, ap, subst, ◌∙◌}
use Rattle.std.specs.Prelude.{filter, find, option_map, if◌then◌else◌}
use Rattle.std.specs.declared.option.Option.{Option}
use Rattle.std.specs.List.{AllByRecursion}
use Rattle.element_name.specs.Name.{Name, name_eq, name_lt}
use Rattle.element_name.proofs.NameOrder.{name_lt-asym, name_lt-trans, name_gt, same_name}
use Rattle.coop_request.specs.Request.{Request}
use Rattle.policy_book.specs.Entry.{Entry}
use Rattle.edit_message.specs.declared.message.Message.{Message}
use Rattle.edit_message.specs.Message.{requests_of, entries_of}
use Rattle.request_state.specs.declared.kept.Kept.{Kept}
use Rattle.request_state.specs.State.{is_tentative}
use Rattle.request_state.specs.Lines.{lesser}
use Rattle.request_state.specs.Table.{is_in_order, name_of, first_tentative, requests_kept}
use Rattle.retro_undo.proofs.Found.{IsAbove, first_below, rest_in_order}
use Rattle.elem_show.proofs.Orders.{filter_once}
use Rattle.elem_show.proofs.Cells.{together-set}
use Rattle.tomb_seq.proofs.Has.{Has}
use Rattle.tomb_seq.specs.declared.slot.Slot.{Slot}
use Rattle.peer_tables.specs.Kept.{IsKeptOf}
use Rattle.peer_tables.specs.Derived.{state_in}
use Rattle.peer_tables.specs.Awaiting.{least_name, awaits, least_awaiting}
use Rattle.peer_tables.proofs.JournalLemmas.{history_law}
use Rattle.peer_tables.proofs.HistoryLemmas.{once_law}
use Rattle.peer_tables.proofs.SameSetLemmas.{IsOnce, AreAlike, filter_alike}
use Rattle.peer_tables.proofs.KeptLemmas.Tables.{requests_once, requests_alike, IsBy, stands}

-- ---- the lesser of names

not_less : (a b c : Name) → name_lt b a ≡ false → name_lt c b ≡ false → name_lt c a ≡ false
not_less a b c ba cb = by (name_lt c a) refl (name_eq c b) refl
  where
    by : (ca : Bool) → name_lt c a ≡ ca → (same : Bool) → name_eq c b ≡ same → ca ≡ false
    by false e same f = refl
    by true e true f = let g : name_lt b a ≡ true = subst (λ (n : Name). name_lt n a ≡ true) (same_name c b f) e in absurd (cc)
    by true e false f = let g = name_lt-trans b c a (name_gt c b cb f) e in absurd (cc)

lesser_some : (a b c : Name) → lesser (lesser (Some a) (Some b)) (Some c) ≡ lesser (Some a) (lesser (Some b) (Some c))
lesser_some a b c = by (name_lt b a) refl (name_lt c b) refl
  where
    by : (ba : Bool) → name_lt b a ≡ ba → (cb : Bool) → name_lt c b ≡ cb
        → lesser (Some (if ba then b else a)) (Some c) ≡ lesser (Some a) (Some (if cb then c else b))
    by true e true f = let g = name_lt-trans c b a f e in rw (f, g) refl
    by true e false f = rw (f, e) refl
    by false e true f = refl
    by false e false f = let g = not_less a b c e f in rw (g, e) refl

lesser_assoc : (a b c : Option Name) → lesser (lesser a b) c ≡ lesser a (lesser b c)
lesser_assoc None b c = refl
lesser_assoc (Some a) None c = refl
lesser_assoc (Some a) (Some b) None = refl
lesser_assoc (Some a) (Some b) (Some c) = lesser_some a b c

lesser_comm : (a b : Option Name) → lesser a b ≡ lesser b a
lesser_comm None None = refl
lesser_comm None (Some b) = refl
lesser_comm (Some a) None = refl
lesser_comm (Some a) (Some b) = by (name_lt b a) refl (name_lt a b) refl (name_eq a b) refl
  where
    by : (ba : Bool) → name_lt b a ≡ ba → (ab : Bool) → name_lt a b ≡ ab → (same : Bool) → name_eq a b ≡ same
        → Some (if ba then b else a) ≡ Some (if ab then a else b)
    by true e true f same h = let g = name_lt-asym b a e in absurd (cc)
    by true e false f same h = refl
    by false e true f same h = refl
    by false e false f true h = ap (λ (n : Name). Some n) (same_name a b h)
    by false e false f false h = let g = name_gt a b f h in absurd (cc)

-- ---- the least name of requests

abbrev least : List Request → Option Name
least xs = least_name (map (λ q. q.id) xs)

least_alike : (xs ys : List Request) → IsOnce xs → IsOnce ys → AreAlike xs ys → least xs ≡ least ys
least_alike xs ys once_x once_y alike =
    together-set least (λ q o. lesser (Some q.id) o) (λ q qs. refl)
    (λ q r o apart. sym (lesser_assoc (Some q.id) (Some r.id) o) ∙ ap (λ (p : Option Name). lesser p o) (lesser_comm (Some q.id) (Some r.id)) ∙ lesser_assoc (Some r.id) (Some q.id) o)
    xs ys once_x once_y alike

-- ---- the first of a table in order is the least

least_above : (test : Request → Bool) (n : Name) (table : List Kept) → AllByRecursion (IsAbove n) table → lesser (Some n) (least (filter test (requests_kept table))) ≡ Some n
least_above test n [] all = refl
least_above test n (k ∷ table) all = by (test k.request) (least_above test n table all.1)
  where
    by : (b : Bool) → lesser (Some n) (least (filter test (requests_kept table))) ≡ Some n
        → lesser (Some n) (least (if b then k.request ∷ filter test (requests_kept table) else filter test (requests_kept table))) ≡ Some n
    by false rest = rest
    by true rest =
        let below : name_lt k.request.id n ≡ false = name_lt-asym n k.request.id all.0 in
        let more : Option Name = least (filter test (requests_kept table)) in
        sym (lesser_assoc (Some n) (Some k.request.id) more)
        ∙ ap (λ b. lesser (Some (if b then k.request.id else n)) more) below
        ∙ rest

first_least : (test : Kept → Bool) (other : Request → Bool) (table : List Kept) → is_in_order table ≡ true → ((k : Kept) → Has table k → test k ≡ other k.request)
    → option_map name_of (find test table) ≡ least (filter other (requests_kept table))
first_least test other [] order agree = refl
first_least test other (k ∷ table) order agree =
    ap (λ b. option_map name_of (if b then Some k else find test table)) (agree k (inl refl))
    ∙ by (other k.request) (first_least test other table (rest_in_order k table order) (λ x h. agree x (inr h)))
  where
    by : (b : Bool) → option_map name_of (find test table) ≡ least (filter other (requests_kept table))
        → option_map name_of (if b then Some k else find test table)
        ≡ least (if b then k.request ∷ filter other (requests_kept table) else filter other (requests_kept table))
    by true rest = sym (least_above other k.request.id table (first_below k table order))
    by false rest = rest

first_awaiting : (R : List Request) (L : List Entry) (table : List Kept) → IsOnce R → is_in_order table ≡ true → IsBy (state_in R L) R table
    → first_tentative table ≡ least_awaiting R L
first_awaiting R L table once order is =
    first_least (λ k. is_tentative k.state && not (k.request.id.site == 0)) (awaits R L) table order
    (λ k h. ap (λ s. is_tentative s && not (k.request.id.site == 0)) (stands (state_in R L) R table k order is h).state)
    ∙ least_alike (filter (awaits R L) (requests_kept table)) (filter (awaits R L) R)
    (filter_once (awaits R L) (requests_kept table) (requests_once table order)) (filter_once (awaits R L) R once)
    (filter_alike (awaits R L) (requests_kept table) R (requests_once table order) once (requests_alike (state_in R L) R table is))

pub journal_awaiting : (J : List Message) (L : List Entry) (slots : List Slot) (table : List Kept) (stamp count : ℕ)
    → IsKeptOf J L slots table stamp count → first_tentative table ≡ least_awaiting (requests_of J) (entries_of J)
journal_awaiting J L slots table stamp count k =
    first_awaiting (requests_of J) L table (once_law (requests_of J) (history_law J k.journal)) k.kept.in_order k.kept.states
    ∙ ap (least_awaiting (requests_of J)) k.entries
