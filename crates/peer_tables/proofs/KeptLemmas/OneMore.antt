-- What is kept of requests and a log, with one more request.
use Rattle.std.proofs.Common.{◌≡◌, ℕ, ◌+◌, inl, inr, Bool, true, false, not, List, [], ◌∷◌, ◌++◌, length, None, Some, refl, ap, sym, ◌∙◌, arith, length-append}
use Rattle.std.specs.Prelude.{filter, max, option_map, option_and_then, is_some, if◌then◌else◌}
use Rattle.std.specs.declared.option.Option.{Option}
use Rattle.std.specs.Option.{option_or}
use Rattle.std.proofs.lemmas.Bool.{and_parts, and_from}
use Rattle.std.proofs.lemmas.List.{append-nil}
use Rattle.std.proofs.lemmas.List.Elements.{filter-append}
use Rattle.std.proofs.lemmas.List.Folds.{find-append}
use Rattle.std.proofs.lemmas.List.Sums.{fold-append}
use Rattle.element_name.specs.Cases.{when, given}
use Rattle.element_name.specs.Name.{Name, name_eq, name_lt}
use Rattle.element_name.specs.Named.{is_ascending, item_named, put_named}
use Rattle.element_name.proofs.EachAfterLemmas.{EachAfter-push}
use Rattle.element_name.proofs.NameOrder.{name_eq-refl, name_eq-comm, same_name, name_gt}
use Rattle.element_name.proofs.NamedLemmas.{item_named-put}
use Rattle.coop_request.specs.declared.edit.Edit.{Edit}
use Rattle.coop_request.specs.declared.edit.Edit.TheVariants.{Insert, Delete, Update}
use Rattle.coop_request.specs.Edit.{is_insert, piece_in, element_by}
use Rattle.coop_request.specs.Request.{Request, element_of}
use Rattle.coop_request.specs.History.{request_of, text_order, FollowsHistory, IsHistory}
use Rattle.policy_book.specs.Entry.{Entry}
use Rattle.auth_match.proofs.FirstMatches.{find_none}
use Rattle.request_state.specs.declared.kept.Kept.{Kept}
use Rattle.request_state.specs.State.{is_invalid}
use Rattle.request_state.specs.Table.{name_of, kept_of, with_request, is_in_order, kept_shows}
use Rattle.check_remote.specs.State.{is_granted}
use Rattle.elem_show.specs.Cell.{cell_from, cell_of, own_of, own_piece, shown}
use Rattle.elem_show.proofs.Orders.{own_piece-found}
use Rattle.elem_show.proofs.Cells.{cell_from-snoc, with_elsewhere}
use Rattle.tomb_seq.specs.declared.slot.Slot.{Slot}
use Rattle.tomb_seq.specs.Slots.{slots_by, with_mark}
use Rattle.tomb_seq.proofs.Has.{Has}
use Rattle.tomb_seq.proofs.MarkLemmas.{slots_agree, with_new_by, with_mark_by}
use Rattle.peer_tables.specs.Derived.{state_in, counted_in, greatest_stamp}
use Rattle.peer_tables.specs.Kept.{AreKnown, AreTablesOf, counted_more, kept_in, names_after, shows_in, slots_after}
use Rattle.peer_tables.proofs.HistoryLemmas.{once_law, order_push}
use Rattle.peer_tables.proofs.SameSetLemmas.{found_has, filter_found}
use Rattle.peer_tables.proofs.KeptLemmas.Tables.{granted_valid}
use Rattle.peer_tables.proofs.KeptLemmas.States.{shows_kept}
use Rattle.peer_tables.proofs.StableLemmas.{state_more}

-- ---- names in order, with one more

module _ {A : Type 0} (name : A → Name) where
  ascending_first : (x y : A) (ys : List A) → is_ascending name (x ∷ y ∷ ys) ≡ true → name_lt (name x) (name y) ≡ true
  ascending_first x y ys h = (and_parts (name_lt (name x) (name y)) (is_ascending name (y ∷ ys)) h).0

  ascending_rest : (x : A) (xs : List A) → is_ascending name (x ∷ xs) ≡ true → is_ascending name xs ≡ true
  ascending_rest x [] h = refl
  ascending_rest x (y ∷ ys) h = (and_parts (name_lt (name x) (name y)) (is_ascending name (y ∷ ys)) h).1

  -- the first is in order with what follows it
  ascending_put_after : (y x : A) (ys : List A) → name_lt (name y) (name x) ≡ true → is_ascending name (y ∷ ys) ≡ true → is_ascending name (put_named name x ys) ≡ true
      → is_ascending name (y ∷ put_named name x ys) ≡ true
  ascending_put_after y x [] lt h rest = and_from (name_lt (name y) (name x)) true lt refl
  ascending_put_after y x (z ∷ zs) lt h rest = by (name_lt (name x) (name z)) rest
    where
      by : (b : Bool) → is_ascending name (if b then x ∷ z ∷ zs else z ∷ put_named name x zs) ≡ true
          → is_ascending name (y ∷ (if b then x ∷ z ∷ zs else z ∷ put_named name x zs)) ≡ true
      by true r = and_from (name_lt (name y) (name x)) (is_ascending name (x ∷ z ∷ zs)) lt r
      by false r = and_from (name_lt (name y) (name z)) (is_ascending name (z ∷ put_named name x zs)) (ascending_first y z zs h) r

  pub ascending-put : (x : A) (xs : List A) → item_named name (name x) xs ≡ None → is_ascending name xs ≡ true → is_ascending name (put_named name x xs) ≡ true
  ascending-put x [] absent h = refl
  ascending-put x (y ∷ ys) absent h =
      by (name_lt (name x) (name y)) refl (name_eq (name y) (name x)) refl absent (λ rest. ascending-put x ys rest (ascending_rest y ys h))
    where
      by : (lt : Bool) → name_lt (name x) (name y) ≡ lt → (same : Bool) → name_eq (name y) (name x) ≡ same
          → (if same then Some y else item_named name (name x) ys) ≡ None
          → (item_named name (name x) ys ≡ None → is_ascending name (put_named name x ys) ≡ true)
          → is_ascending name (if lt then x ∷ y ∷ ys else y ∷ put_named name x ys) ≡ true
      by true lt same eq none rest = and_from (name_lt (name x) (name y)) (is_ascending name (y ∷ ys)) lt h
      by false lt true eq none rest = absurd cc
      by false lt false eq none rest = ascending_put_after y x ys (name_gt (name x) (name y) lt (name_eq-comm (name x) (name y) ∙ eq)) h (rest none)

  pub length-put_named : (x : A) (xs : List A) → length (put_named name x xs) ≡ length xs + 1
  length-put_named x [] = refl
  length-put_named x (y ∷ ys) = by (name_lt (name x) (name y)) (length-put_named x ys)
    where
      by : (b : Bool) → length (put_named name x ys) ≡ length ys + 1 → length (if b then x ∷ y ∷ ys else y ∷ put_named name x ys) ≡ length (y ∷ ys) + 1
      by true h = omega arith
      by false h = omega (arith, h)

filter_members : {X : Type 0} (f g : X → Bool) (xs : List X) → ((x : X) → Has xs x → f x ≡ g x) → filter f xs ≡ filter g xs
filter_members f g [] same = refl
filter_members f g (x ∷ xs) same = rw (same x (inl refl)) (ap (λ ys. if g x then x ∷ ys else ys) (filter_members f g xs (λ y h. same y (inr h))))

-- ---- one more request

module _ (R : List Request) (L : List Entry) (known : AreKnown R L) (r : Request) (follows : FollowsHistory R r) where
  longer : IsHistory (R ++ r ∷ [])
  longer = EachAfter-push FollowsHistory R r known.history follows

  pub fresh : request_of R r.id ≡ None
  fresh = find_none (λ q. name_eq q.id r.id) R follows.new

  found_push : (n : Name) → request_of (R ++ r ∷ []) n ≡ option_or (request_of R n) (if name_eq r.id n then Some r else None)
  found_push n = find-append (λ q. name_eq q.id n) R (r ∷ [])

  pub found_own : request_of (R ++ r ∷ []) r.id ≡ Some r
  found_own = found_push r.id ∙ rw (fresh, name_eq-refl r.id) refl

  pub found_other : (n : Name) → name_eq r.id n ≡ false → request_of (R ++ r ∷ []) n ≡ request_of R n
  found_other n f = found_push n ∙ rw f (nothing (request_of R n))
    where
      nothing : (o : Option Request) → option_or o None ≡ o
      nothing None = refl
      nothing (Some q) = refl

  -- which requests count

  granted_more : (q : Request) → Has R q → is_granted (text_order (R ++ r ∷ [])) L q ≡ is_granted (text_order R) L q
  granted_more q h =
      granted_valid (text_order (R ++ r ∷ [])) L q ∙ ap (λ s. not (is_invalid s)) (state_more R L known r follows q h)
      ∙ sym (granted_valid (text_order R) L q)

  pub counted_push : counted_in (R ++ r ∷ []) L ≡ counted_more (counted_in R L) r (state_in (R ++ r ∷ []) L r)
  counted_push =
      let granted = is_granted (text_order (R ++ r ∷ [])) L in
      filter-append granted R (r ∷ [])
      ∙ ap (λ (xs : List Request). xs ++ filter granted (r ∷ [])) (filter_members granted (is_granted (text_order R) L) R granted_more)
      ∙ ap (λ b. counted_in R L ++ (if b then r ∷ [] else [])) (granted_valid (text_order (R ++ r ∷ [])) L r)
      ∙ by (is_invalid (state_in (R ++ r ∷ []) L r))
    where
      by : (b : Bool) → counted_in R L ++ (if not b then r ∷ [] else []) ≡ (if b then counted_in R L else counted_in R L ++ r ∷ [])
      by true = append-nil (counted_in R L)
      by false = refl

  pub not_counted : request_of (counted_in R L) r.id ≡ None
  not_counted = filter_found (is_granted (text_order R) L) R r.id (once_law R known.history) ∙ ap (option_and_then (λ q. when (is_granted (text_order R) L q) q)) fresh

  -- no other element shows otherwise

  own_more : (e : Name) → name_eq (element_of r) e ≡ false → own_piece (R ++ r ∷ []) e ≡ own_piece R e
  own_more e other =
      own_piece-found (R ++ r ∷ []) e (once_law (R ++ r ∷ []) longer) ∙ by (name_eq r.id e) refl ∙ sym (own_piece-found R e (once_law R known.history))
    where
      no_insert : (id : Name) (edit : Edit) → name_eq (element_by id edit) e ≡ false → name_eq id e ≡ true → given (is_insert edit) (piece_in edit) ≡ None
      no_insert id (Insert after letter) f t = absurd cc
      no_insert id (Delete target) f t = refl
      no_insert id (Update target letter) f t = refl

      by : (b : Bool) → name_eq r.id e ≡ b → option_and_then own_of (request_of (R ++ r ∷ []) e) ≡ option_and_then own_of (request_of R e)
      by false f = ap (option_and_then own_of) (found_other e f)
      by true t =
          let here : e ≡ r.id = sym (same_name r.id e t) in
          ap (λ n. option_and_then own_of (request_of (R ++ r ∷ []) n)) here
          ∙ ap (option_and_then own_of) found_own
          ∙ no_insert r.id r.edit other t
          ∙ sym (ap (λ n. option_and_then own_of (request_of R n)) here ∙ ap (option_and_then own_of) fresh)

  pub cell_more : (e : Name) → name_eq (element_of r) e ≡ false → cell_of (R ++ r ∷ []) (counted_in (R ++ r ∷ []) L) e ≡ cell_of R (counted_in R L) e
  cell_more e other =
      ap (λ (o : Option (List ℕ)). option_map (λ own. cell_from e own (counted_in (R ++ r ∷ []) L)) o) (own_more e other)
      ∙ ap (λ (C : List Request). option_map (λ own. cell_from e own C) (own_piece R e)) counted_push
      ∙ each (own_piece R e)
    where
      one : (b : Bool) (own : List ℕ) → cell_from e own (if b then counted_in R L else counted_in R L ++ r ∷ []) ≡ cell_from e own (counted_in R L)
      one true own = refl
      one false own = cell_from-snoc e r own (counted_in R L) not_counted ∙ with_elsewhere r e (cell_from e own (counted_in R L)) other

      each : (o : Option (List ℕ)) → option_map (λ own. cell_from e own (counted_more (counted_in R L) r (state_in (R ++ r ∷ []) L r))) o
          ≡ option_map (λ own. cell_from e own (counted_in R L)) o
      each None = refl
      each (Some own) = ap Some (one (is_invalid (state_in (R ++ r ∷ []) L r)) own)

  shows_other : (e : Name) → name_eq (element_of r) e ≡ false → shows_in (R ++ r ∷ []) L e ≡ shows_in R L e
  shows_other e other = ap (λ c. is_some (option_and_then shown c)) (cell_more e other)

  -- the new element doesn't show before

  pub no_own : own_piece R r.id ≡ None
  no_own = own_piece-found R r.id (once_law R known.history) ∙ ap (option_and_then own_of) fresh

  shows_not : shows_in R L r.id ≡ false
  shows_not = ap (λ (o : Option (List ℕ)). is_some (option_and_then shown (option_map (λ own. cell_from r.id own (counted_in R L)) o))) no_own

  slots_more : (edit : Edit) → slots_after (slots_by (shows_in R L) (text_order R)) r.id edit ≡ slots_by (shows_in R L) (names_after (text_order R) r.id edit)
  slots_more (Insert after letter) = with_new_by (shows_in R L) (text_order R) r.id after shows_not
  slots_more (Delete target) = refl
  slots_more (Update target letter) = refl

  -- the slots with the mark of the request's element
  pub slots_push : (shows : Bool) → shows ≡ shows_in (R ++ r ∷ []) L (element_of r)
      → with_mark (slots_after (slots_by (shows_in R L) (text_order R)) r.id r.edit) (element_of r) shows ≡ slots_by (shows_in (R ++ r ∷ []) L) (text_order (R ++ r ∷ []))
  slots_push shows is =
      ap (λ (slots : List Slot). with_mark slots (element_of r) shows) (slots_more r.edit)
      ∙ with_mark_by (shows_in R L) (names_after (text_order R) r.id r.edit) (element_of r) shows
      ∙ slots_agree (λ m. if name_eq (element_of r) m then shows else shows_in R L m) (shows_in (R ++ r ∷ []) L) (names_after (text_order R) r.id r.edit)
      (λ m h. by m (name_eq (element_of r) m) refl)
      ∙ ap (slots_by (shows_in (R ++ r ∷ []) L)) (sym (order_push R r known.history follows))
    where
      by : (m : Name) (b : Bool) → name_eq (element_of r) m ≡ b → (if b then shows else shows_in R L m) ≡ shows_in (R ++ r ∷ []) L m
      by m true t = is ∙ ap (shows_in (R ++ r ∷ []) L) (same_name (element_of r) m t)
      by m false f = sym (shows_other m f)

  -- the states

  kept_more : (n : Name) → option_map (kept_in (R ++ r ∷ []) L) (request_of R n) ≡ option_map (kept_in R L) (request_of R n)
  kept_more n = by (request_of R n) refl
    where
      by : (o : Option Request) → request_of R n ≡ o → option_map (kept_in (R ++ r ∷ []) L) o ≡ option_map (kept_in R L) o
      by None e = refl
      by (Some q) e = ap (λ s. let k : Kept = record { request = q; state = s } in Some k) (state_more R L known r follows q (found_has R n q e))

  pub states_push : (table : List Kept) → ((n : Name) → kept_of table n ≡ option_map (kept_in R L) (request_of R n)) → (n : Name)
      → kept_of (with_request table r (state_in (R ++ r ∷ []) L r)) n ≡ option_map (kept_in (R ++ r ∷ []) L) (request_of (R ++ r ∷ []) n)
  states_push table states n =
      item_named-put name_of n (kept_in (R ++ r ∷ []) L r) table (states r.id ∙ ap (option_map (kept_in R L)) fresh)
      ∙ by (name_eq r.id n) refl
    where
      by : (b : Bool) → name_eq r.id n ≡ b → (if b then Some (kept_in (R ++ r ∷ []) L r) else kept_of table n) ≡ option_map (kept_in (R ++ r ∷ []) L) (request_of (R ++ r ∷ []) n)
      by true t = sym (ap (λ m. option_map (kept_in (R ++ r ∷ []) L) (request_of (R ++ r ∷ []) m)) (sym (same_name r.id n t)) ∙ ap (option_map (kept_in (R ++ r ∷ []) L)) found_own)
      by false f = states n ∙ sym (kept_more n) ∙ sym (ap (option_map (kept_in (R ++ r ∷ []) L)) (found_other n f))

  pub stamp_push : greatest_stamp (R ++ r ∷ []) ≡ max (greatest_stamp R) r.id.stamp
  stamp_push = fold-append (λ stamp (q : Request). max stamp q.id.stamp) 0 R (r ∷ [])

  -- all of it
  pub kept_push : (slots new_slots : List Slot) (table new_table : List Kept) (stamp : ℕ)
      → AreTablesOf R L slots table stamp
      → new_slots ≡ with_mark (slots_after slots r.id r.edit) (element_of r) (kept_shows new_table (element_of r))
      → new_table ≡ with_request table r (state_in (R ++ r ∷ []) L r)
      → AreTablesOf (R ++ r ∷ []) L new_slots new_table (max stamp r.id.stamp)
  kept_push slots new_slots table new_table stamp kept marked states =
      let absent : kept_of table r.id ≡ None = kept.states r.id ∙ ap (option_map (kept_in R L)) fresh in
      let found : (n : Name) → kept_of new_table n ≡ option_map (kept_in (R ++ r ∷ []) L) (request_of (R ++ r ∷ []) n) = λ n. ap (λ (t : List Kept). kept_of t n) states ∙ states_push table kept.states n in
      let order : is_in_order new_table ≡ true = ap is_in_order states ∙ ascending-put name_of (kept_in (R ++ r ∷ []) L r) table absent kept.in_order in
      record {
        marked = marked ∙ ap (λ (ss : List Slot). with_mark (slots_after ss r.id r.edit) (element_of r) (kept_shows new_table (element_of r))) kept.marked
            ∙ slots_push (kept_shows new_table (element_of r)) (shows_kept (R ++ r ∷ []) L new_table longer order found (element_of r));
        states = found;
        in_order = order;
        size = ap (λ (t : List Kept). length t) states ∙ length-put_named name_of (kept_in (R ++ r ∷ []) L r) table ∙ ap (λ k. k + 1) kept.size ∙ sym (length-append R (r ∷ []));
        greatest = ap (λ s. max s r.id.stamp) kept.greatest ∙ sym stamp_push;
      }
