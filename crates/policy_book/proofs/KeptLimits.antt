-- A legal operation leaves a policy within its limits.
use Rattle.std.proofs.Common.{◌≡◌, ℕ, ◌<◌, ◌≤◌, Bool, true, false, not, List, [], ◌∷◌, ◌++◌, length, map, take, drop, suc, refl, subst, ap, arith}
use Rattle.std.proofs.Common.{eqb}
use Rattle.std.specs.Prelude.{nat_lt, nat_le, is_some, option_map, insert, remove}
use Rattle.std.specs.Option.{option_map_or}
use Rattle.std.specs.declared.option.Option.{Option}
use Rattle.std.specs.List.{list_all}
use Rattle.std.proofs.Math.ListN.{take-append-drop}
use Rattle.std.proofs.lemmas.Bool.Decides.{nat_tests}
use Rattle.std.proofs.lemmas.List.{length-map}
use Rattle.std.proofs.lemmas.List.Edits.{length-insert, length-remove}
use Rattle.std.proofs.lemmas.Bool.{and_from, and_parts}
use Rattle.element_name.specs.Cases.{when}
use Rattle.element_name.specs.Numbered.{is_rising, put_by, without, find_by}
use Rattle.element_name.proofs.CaseLemmas.{when-None, first_of-None}
use Rattle.policy_book.specs.Lists.{has_number, is_short}
use Rattle.policy_book.specs.Operation.{is_extent, is_auth, is_operation}
use Rattle.policy_book.specs.declared.parts.Object.{Object}
use Rattle.policy_book.specs.declared.parts.Group.{Group}
use Rattle.policy_book.specs.declared.parts.NumberedAuth.{NumberedAuth}
use Rattle.policy_book.specs.declared.op.AdminOp.{AdminOp}
use Rattle.policy_book.specs.declared.op.AdminOp.TheVariants.{AddUser, DelUser, AddObj, DelObj, AddGroup, DelGroup, AddMember, DelMember, AddAuth}
use Rattle.policy_book.specs.declared.op.AdminOp.TheVariants.{DelAuth, Validate}
use Rattle.policy_book.specs.declared.fault.EntryFault.TheVariants.{UserThere, ObjectThere, BadPlace, TooMany, GroupThere, NoGroup, MemberThere}
use Rattle.policy_book.specs.Policy.{Policy, IsWithinLimits, IsLegal, is_number_set, is_full, is_full_group, is_user, is_object, is_group, is_member}
use Rattle.policy_book.specs.Policy.{with_members, policy_after}
use Rattle.policy_book.proofs.Ascending.{all_append, all_front, all_back, all_filter, length_filter, rising_filter}
use Rattle.policy_book.proofs.Ascending.{rising_above, rising_rest, rising_put_by, length-put_by, all_put_by, map-put_by, map-without}
use Rattle.policy_book.proofs.GroupChange.{others_stay}

-- ---- sets of numbers

pub set_rises : (xs : List ℕ) → is_number_set xs ≡ true → is_rising nat_lt xs ≡ true
set_rises xs h = (and_parts (nat_le (length xs) 256) (is_rising nat_lt xs) h).1

pub set_put_by : (n : ℕ) (xs : List ℕ) → has_number xs n ≡ false → is_full xs ≡ false → is_number_set xs ≡ true
    → is_number_set (put_by (λ m. m) n xs) ≡ true
set_put_by n xs new room h =
    let b = and_parts (nat_le (length xs) 256) (is_rising nat_lt xs) h in
    let few : nat_le (length (put_by (λ m. m) n xs)) 256 ≡ true = rw (length-put_by (λ m. m) n xs) (grind (arith, nat_tests, room)) in
    and_from (nat_le (length (put_by (λ m. m) n xs)) 256) (is_rising nat_lt (put_by (λ m. m) n xs)) few (rising_put_by n xs new b.1)

pub set_without : (n : ℕ) (xs : List ℕ) → is_number_set xs ≡ true → is_number_set (without (λ m. m) n xs) ≡ true
set_without n xs h =
    let b = and_parts (nat_le (length xs) 256) (is_rising nat_lt xs) h in
    let few : nat_le (length (without (λ m. m) n xs)) 256 ≡ true = grind (arith, nat_tests, b.0, length_filter (λ m. not (eqb m n)) xs) in
    and_from (nat_le (length (without (λ m. m) n xs)) 256) (is_rising nat_lt (without (λ m. m) n xs)) few (rising_filter (λ m. not (eqb m n)) xs b.1)

module _ {X : Type 0} (number : X → ℕ) where
  pub table_put_by : (x : X) (xs : List X) → has_number (map number xs) (number x) ≡ false → is_full xs ≡ false
      → is_number_set (map number xs) ≡ true → is_number_set (map number (put_by number x xs)) ≡ true
  table_put_by x xs new room h =
      let room_there : is_full (map number xs) ≡ false = rw (length-map xs number) room in
      rw (map-put_by number x xs) (set_put_by (number x) (map number xs) new room_there h)

  pub table_without : (n : ℕ) (xs : List X) → is_number_set (map number xs) ≡ true → is_number_set (map number (without number n xs)) ≡ true
  table_without n xs h = rw (map-without number n xs) (set_without n (map number xs) h)

  not_there_step : {Y : Type 0} (f : X → Y) (n : ℕ) (x : X) (xs : List X) (b : Bool) → eqb (number x) n ≡ b
      → is_some (option_map f (find_by number n (x ∷ xs))) ≡ false
      → (is_some (option_map f (find_by number n xs)) ≡ false → has_number (map number xs) n ≡ false)
      → has_number (map number (x ∷ xs)) n ≡ false
  not_there_step f n x xs true e h ih = absurd (cc (rw e at h))
  not_there_step f n x xs false e h ih = rw e (ih (rw e at h))

  -- what isn't found by its number has none
  pub not_there : {Y : Type 0} (f : X → Y) (n : ℕ) (xs : List X) → is_some (option_map f (find_by number n xs)) ≡ false
      → has_number (map number xs) n ≡ false
  not_there f n [] h = refl
  not_there f n (x ∷ xs) h = not_there_step f n x xs (eqb (number x) n) refl h (not_there f n xs)

-- ---- groups

number_stays_step : (n : ℕ) (f : List ℕ → List ℕ) (g : Group) (b : Bool) → eqb g.number n ≡ b → (with_members n f g).number ≡ g.number
number_stays_step n f g true e = rw e refl
number_stays_step n f g false e = rw e refl

numbers_stay : (n : ℕ) (f : List ℕ → List ℕ) (gs : List Group) → map (λ g. g.number) (map (with_members n f) gs) ≡ map (λ g. g.number) gs
numbers_stay n f [] = refl
numbers_stay n f (g ∷ gs) =
    rw (number_stays_step n f g (eqb g.number n) refl) (ap (λ (rest : List ℕ). g.number ∷ rest) (numbers_stay n f gs))

abbrev has_set : Group → Bool
has_set g = is_number_set g.members

without_step : (n u : ℕ) (g : Group) (b : Bool) → eqb g.number n ≡ b → has_set g ≡ true → has_set (with_members n (without (λ m. m) u) g) ≡ true
without_step n u g true e h = rw e (set_without u g.members h)
without_step n u g false e h = rw e h

members_without : (n u : ℕ) (gs : List Group) → list_all has_set gs ≡ true → list_all has_set (map (with_members n (without (λ m. m) u)) gs) ≡ true
members_without n u [] h = refl
members_without n u (g ∷ gs) h =
    let b = and_parts (has_set g) (list_all has_set gs) h in
    and_from (has_set (with_members n (without (λ m. m) u) g)) (list_all has_set (map (with_members n (without (λ m. m) u)) gs))
    (without_step n u g (eqb g.number n) refl b.0) (members_without n u gs b.1)

abbrev found : ℕ → List Group → Option (List ℕ)
found n gs = option_map (λ g. g.members) (find_by (λ g. g.number) n gs)

put_step : (n u : ℕ) (g : Group) (gs : List Group) (b : Bool) → eqb g.number n ≡ b → is_rising nat_lt (map (λ g. g.number) (g ∷ gs)) ≡ true
    → option_map_or (λ members. is_full members) (found n (g ∷ gs)) false ≡ false
    → option_map_or (λ members. has_number members u) (found n (g ∷ gs)) false ≡ false
    → list_all has_set (g ∷ gs) ≡ true
    → (option_map_or (λ members. is_full members) (found n gs) false ≡ false
    → option_map_or (λ members. has_number members u) (found n gs) false ≡ false
    → list_all has_set (map (with_members n (put_by (λ m. m) u)) gs) ≡ true)
    → list_all has_set (map (with_members n (put_by (λ m. m) u)) (g ∷ gs)) ≡ true
put_step n u g gs true e rising room new h ih =
    let b = and_parts (has_set g) (list_all has_set gs) h in
    let room_here : is_full g.members ≡ false = rw e at room in
    let new_here : has_number g.members u ≡ false = rw e at new in
    let number : g.number ≡ n = grind (arith, nat_tests, e) in
    let above : list_all (nat_lt n) (map (λ g. g.number) gs) ≡ true =
    subst (λ (k : ℕ). list_all (nat_lt k) (map (λ g. g.number) gs) ≡ true) number (rising_above g.number (map (λ g. g.number) gs) rising) in
    rw (e, others_stay n (put_by (λ m. m) u) gs above)
    (and_from (is_number_set (put_by (λ m. m) u g.members)) (list_all has_set gs) (set_put_by u g.members new_here room_here b.0) b.1)
put_step n u g gs false e rising room new h ih =
    let b = and_parts (has_set g) (list_all has_set gs) h in
    rw e (and_from (has_set g) (list_all has_set (map (with_members n (put_by (λ m. m) u)) gs)) b.0 (ih (rw e at room) (rw e at new)))

members_put : (n u : ℕ) (gs : List Group) → is_rising nat_lt (map (λ g. g.number) gs) ≡ true
    → option_map_or (λ members. is_full members) (found n gs) false ≡ false
    → option_map_or (λ members. has_number members u) (found n gs) false ≡ false
    → list_all has_set gs ≡ true → list_all has_set (map (with_members n (put_by (λ m. m) u)) gs) ≡ true
members_put n u [] rising room new h = refl
members_put n u (g ∷ gs) rising room new h =
    put_step n u g gs (eqb g.number n) refl rising room new h
    (λ r k. members_put n u gs (rising_rest g.number (map (λ g. g.number) gs) rising) r k (and_parts (has_set g) (list_all has_set gs) h).1)

-- ---- authorizations

module _ {X : Type 0} (p : X → Bool) where
  all_insert : (xs : List X) (i : ℕ) (x : X) → p x ≡ true → list_all p xs ≡ true → list_all p (insert xs i x) ≡ true
  all_insert xs i x px h =
      let parts : list_all p (take i xs ++ drop i xs) ≡ true = rw (take-append-drop i xs) h in
      all_append p (take i xs) (x ∷ drop i xs) (all_front p (take i xs) (drop i xs) parts) (and_from (p x) (list_all p (drop i xs)) px (all_back p (take i xs) (drop i xs) parts))

  all_remove : (xs : List X) (i : ℕ) → list_all p xs ≡ true → list_all p (remove xs i) ≡ true
  all_remove xs i h =
      let parts : list_all p (take i xs ++ drop i xs) ≡ true = rw (take-append-drop i xs) h in
      let later : list_all p (take (suc i) xs ++ drop (suc i) xs) ≡ true = rw (take-append-drop (suc i) xs) h in
      all_append p (take i xs) (drop (suc i) xs) (all_front p (take i xs) (drop i xs) parts) (all_back p (take (suc i) xs) (drop (suc i) xs) later)

-- ---- the eleven operations

pub kept : (p : Policy) (version : ℕ) (op : AdminOp) → IsWithinLimits p → IsLegal p op → is_operation op ≡ true
    → IsWithinLimits (policy_after p version op)
kept p version (AddUser u) w legal ranges =
    let rows = first_of-None (when (is_user p u) UserThere) (when (is_full p.users) (TooMany 256) ∷ []) legal in
    let room = first_of-None (when (is_full p.users) (TooMany 256)) [] rows.1 in
    let users = set_put_by u p.users (when-None (is_user p u) UserThere rows.0) (when-None (is_full p.users) (TooMany 256) room.0) w.users in
    record { users = users; objects = w.objects; extents = w.extents; groups = w.groups; members = w.members; few_auths = w.few_auths; auths = w.auths }
kept p version (DelUser u) w legal ranges =
    record { users = set_without u p.users w.users; objects = w.objects; extents = w.extents; groups = w.groups; members = w.members; few_auths = w.few_auths; auths = w.auths }
kept p version (AddObj n extent) w legal ranges =
    let object : Object = record { number = n; extent = extent } in
    let rows = first_of-None (when (is_object p n) ObjectThere) (when (is_full p.objects) (TooMany 256) ∷ []) legal in
    let room = first_of-None (when (is_full p.objects) (TooMany 256)) [] rows.1 in
    let new = not_there (λ (o : Object). o.number) (λ (o : Object). o.extent) n p.objects (when-None (is_object p n) ObjectThere rows.0) in
    let objects = table_put_by (λ (o : Object). o.number) object p.objects new (when-None (is_full p.objects) (TooMany 256) room.0) w.objects in
    let extents =
    all_put_by (λ (o : Object). o.number) (λ (o : Object). is_extent o.extent) object p.objects (and_parts (is_short n) (is_extent extent) ranges).1 w.extents in
    record { users = w.users; objects = objects; extents = extents; groups = w.groups; members = w.members; few_auths = w.few_auths; auths = w.auths }
kept p version (DelObj n) w legal ranges =
    let objects = table_without (λ (o : Object). o.number) n p.objects w.objects in
    let extents = all_filter (λ (o : Object). is_extent o.extent) (λ (o : Object). not (eqb o.number n)) p.objects w.extents in
    record { users = w.users; objects = objects; extents = extents; groups = w.groups; members = w.members; few_auths = w.few_auths; auths = w.auths }
kept p version (AddGroup g) w legal ranges =
    let group : Group = record { number = g; members = [] } in
    let rows = first_of-None (when (is_full p.groups) (TooMany 256)) (when (is_group p g) GroupThere ∷ []) legal in
    let there = first_of-None (when (is_group p g) GroupThere) [] rows.1 in
    let new = not_there (λ (o : Group). o.number) (λ (o : Group). o.members) g p.groups (when-None (is_group p g) GroupThere there.0) in
    let groups = table_put_by (λ (o : Group). o.number) group p.groups new (when-None (is_full p.groups) (TooMany 256) rows.0) w.groups in
    let members = all_put_by (λ (o : Group). o.number) has_set group p.groups refl w.members in
    record { users = w.users; objects = w.objects; extents = w.extents; groups = groups; members = members; few_auths = w.few_auths; auths = w.auths }
kept p version (DelGroup g) w legal ranges =
    let groups = table_without (λ (o : Group). o.number) g p.groups w.groups in
    let members = all_filter has_set (λ (o : Group). not (eqb o.number g)) p.groups w.members in
    record { users = w.users; objects = w.objects; extents = w.extents; groups = groups; members = members; few_auths = w.few_auths; auths = w.auths }
kept p version (AddMember g u) w legal ranges =
    let rows =
    first_of-None (when (is_full_group p g) (TooMany 256)) (when (not (is_group p g)) NoGroup ∷ when (is_member p g u) MemberThere ∷ []) legal in
    let there = first_of-None (when (not (is_group p g)) NoGroup) (when (is_member p g u) MemberThere ∷ []) rows.1 in
    let new = first_of-None (when (is_member p g u) MemberThere) [] there.1 in
    let rising = set_rises (map (λ (o : Group). o.number) p.groups) w.groups in
    let groups : is_number_set (map (λ (o : Group). o.number) (map (with_members g (put_by (λ m. m) u)) p.groups)) ≡ true =
    rw (numbers_stay g (put_by (λ m. m) u) p.groups) w.groups in
    let members =
    members_put g u p.groups rising (when-None (is_full_group p g) (TooMany 256) rows.0) (when-None (is_member p g u) MemberThere new.0) w.members in
    record { users = w.users; objects = w.objects; extents = w.extents; groups = groups; members = members; few_auths = w.few_auths; auths = w.auths }
kept p version (DelMember g u) w legal ranges =
    let groups : is_number_set (map (λ (o : Group). o.number) (map (with_members g (without (λ m. m) u)) p.groups)) ≡ true =
    rw (numbers_stay g (without (λ m. m) u) p.groups) w.groups in
    record { users = w.users; objects = w.objects; extents = w.extents; groups = groups; members = members_without g u p.groups w.members; few_auths = w.few_auths; auths = w.auths }
kept p version (AddAuth place auth) w legal ranges =
    let made : NumberedAuth = record { number = version; auth = auth } in
    let rows = first_of-None (when (nat_lt (length p.auths) place) (BadPlace (length p.auths))) (when (is_full p.auths) (TooMany 256) ∷ []) legal in
    let room = first_of-None (when (is_full p.auths) (TooMany 256)) [] rows.1 in
    let in_list = when-None (nat_lt (length p.auths) place) (BadPlace (length p.auths)) rows.0 in
    let not_full = when-None (is_full p.auths) (TooMany 256) room.0 in
    let within : place ≤ length p.auths = grind (arith, nat_tests, in_list) in
    let below : length p.auths < 256 = grind (arith, nat_tests, not_full) in
    let few : length (insert p.auths place made) ≤ 256 = omega (arith, length-insert p.auths place made within, below) in
    let auths = all_insert (λ (a : NumberedAuth). is_auth a.auth) p.auths place made (and_parts (is_short place) (is_auth auth) ranges).1 w.auths in
    record { users = w.users; objects = w.objects; extents = w.extents; groups = w.groups; members = w.members; few_auths = few; auths = auths }
kept p version (DelAuth place) w legal ranges =
    let rows = first_of-None (when (nat_le (length p.auths) place) (BadPlace (length p.auths))) [] legal in
    let in_list = when-None (nat_le (length p.auths) place) (BadPlace (length p.auths)) rows.0 in
    let within : place < length p.auths = grind (arith, nat_tests, in_list) in
    let few : length (remove p.auths place) ≤ 256 = omega (arith, length-remove p.auths place within, w.few_auths) in
    let auths = all_remove (λ (a : NumberedAuth). is_auth a.auth) p.auths place w.auths in
    record { users = w.users; objects = w.objects; extents = w.extents; groups = w.groups; members = w.members; few_auths = few; auths = auths }
kept p version (Validate request) w legal ranges = w
