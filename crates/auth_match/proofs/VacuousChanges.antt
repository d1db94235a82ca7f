-- An authorization whose objects aren't there matches nothing, and an object that no authorization names is asked of nothing: to add or remove either changes no verdict.
use Rattle.std.proofs.Common.{◌≡◌, ℕ, ⊎_elim, Bool, true, false, cond, List, [], ◌∷◌, take, drop, Some, None, refl, sym, ap, ◌∙◌, arith, eqb}
use Rattle.std.specs.Prelude.{◌&&◌, ◌||◌, not, nat_lt, find, slice_get, is_some, option_map, insert, remove, if◌then◌else◌}
use Rattle.std.specs.Option.{option_map_or}
use Rattle.std.specs.declared.option.Option.{Option}
use Rattle.std.specs.List.{list_any}
use Rattle.std.proofs.Math.ListN.{take-append-drop}
use Rattle.std.proofs.lemmas.Bool.{cases_Bool, or_parts}
use Rattle.std.proofs.lemmas.Bool.Decides.{nat_tests}
use Rattle.element_name.specs.Name.{Name}
use Rattle.element_name.specs.Numbered.{put_by, without, find_by}
use Rattle.coop_request.specs.declared.edit.Right.{Right}
use Rattle.policy_book.specs.declared.auth.Auth.{Auth}
use Rattle.policy_book.specs.declared.auth.Extent.{Extent}
use Rattle.policy_book.specs.declared.auth.UserSet.{UserSet}
use Rattle.policy_book.specs.declared.auth.UserSet.TheVariants.{All, Listed, Groups}
use Rattle.policy_book.specs.declared.parts.Object.{Object}
use Rattle.policy_book.specs.Lists.{has_number}
use Rattle.policy_book.specs.declared.parts.NumberedAuth.{NumberedAuth}
use Rattle.policy_book.specs.declared.op.AdminOp.{AdminOp}
use Rattle.policy_book.specs.declared.op.AdminOp.TheVariants.{AddUser, DelUser, AddObj, DelObj, AddGroup, DelGroup, AddMember, DelMember, AddAuth, DelAuth, Validate}
use Rattle.policy_book.specs.declared.reach.Reach.TheVariants.{Nobody}
use Rattle.policy_book.specs.Policy.{Policy, IsLegal, is_user, is_object, extent_of, policy_after}
use Rattle.policy_book.specs.Reach.{reach_of, lacks_objects, names_object, is_vacuous, narrowed_reach, is_reached}
use Rattle.auth_match.specs.declared.verdict.Verdict.TheVariants.{Granted}
use Rattle.auth_match.specs.Coverage.{covers}
use Rattle.auth_match.specs.Verdict.{has_right, has_user, object_covers, matches, verdict}
use Rattle.auth_match.proofs.FirstMatches.{outcome, more_off, less_off}
use Rattle.auth_match.proofs.ReachCases.{reach_law}

-- where one test passes whatever another does, and this one nothing of a list, that one passes nothing either
none_of : {X : Type 0} (test other : X → Bool) → ((x : X) → test x ≡ false → other x ≡ false) → (xs : List X) → not (list_any test xs) ≡ true
    → list_any other xs ≡ false
none_of test other h [] none = refl
none_of test other h (x ∷ xs) none =
    ⊎_elim
    (λ (t : test x ≡ true). absurd (cc (rw t at none)))
    (λ (f : test x ≡ false). rw (h x f) (none_of test other h xs (rw f at none)))
    (cases_Bool (test x))

module _ (names : List Name) (p : Policy) (u : ℕ) (right : Right) (e : Name) where
  -- an object that isn't there covers nothing
  missing : (n : ℕ) → is_object p n ≡ false → object_covers names p e n ≡ false
  missing n h = by (extent_of p n) h
    where
      by : (o : Option Extent) → is_some o ≡ false → option_map_or (λ extent. covers names extent e) o false ≡ false
      by None h = refl
      by (Some extent) h = absurd (cc)

  unmatched : (auth : Auth) → lacks_objects p auth ≡ true → matches names p u right e auth ≡ false
  unmatched auth h =
      ap (λ (b : Bool). (is_user p u && has_user p auth.users u) && (has_right auth.rights right && b))
      (none_of (is_object p) (object_covers names p e) missing auth.objects h)
      ∙ nowhere (is_user p u && has_user p auth.users u) (has_right auth.rights right)
    where
      nowhere : (b c : Bool) → (b && (c && false)) ≡ false
      nowhere true true = refl
      nowhere true false = refl
      nowhere false c = refl

  abbrev test : NumberedAuth → Bool
  test a = matches names p u right e a.auth

  added : (place : ℕ) (a : NumberedAuth) → lacks_objects p a.auth ≡ true → find test (insert p.auths place a) ≡ find test p.auths
  added place a h = more_off test (take place p.auths) a (drop place p.auths) (unmatched a.auth h) ∙ ap (find test) (take-append-drop place p.auths)

  removed : (place : ℕ) (there : Option NumberedAuth) → slice_get p.auths place ≡ there → option_map_or (λ a. lacks_objects p a.auth) there false ≡ true
      → find test (remove p.auths place) ≡ find test p.auths
  removed place None is h = absurd (cc)
  removed place (Some a) is h = less_off test p.auths place a is (unmatched a.auth h)

-- ---- an object that no authorization names

put_found : (x : Object) (m : ℕ) (objects : List Object) → eqb x.number m ≡ false
    → find_by (λ o. o.number) m (put_by (λ o. o.number) x objects) ≡ find_by (λ o. o.number) m objects
put_found x m [] h = rw h refl
put_found x m (o ∷ objects) h =
    ⊎_elim
    (λ (t : nat_lt x.number o.number ≡ true). rw (t, h) refl)
    (λ (f : nat_lt x.number o.number ≡ false). rw f (ap (λ (found : Option Object). if eqb o.number m then Some o else found) (put_found x m objects h)))
    (cases_Bool (nat_lt x.number o.number))

without_found : (v m : ℕ) (objects : List Object) → eqb v m ≡ false
    → find_by (λ o. o.number) m (without (λ o. o.number) v objects) ≡ find_by (λ o. o.number) m objects
without_found v m [] h = refl
without_found v m (o ∷ objects) h =
    ⊎_elim
    (λ (t : eqb o.number v ≡ true). let other : eqb o.number m ≡ false = grind (arith, nat_tests, t, h) in rw (t, other) (without_found v m objects h))
    (λ (f : eqb o.number v ≡ false). rw f (ap (λ (found : Option Object). if eqb o.number m then Some o else found) (without_found v m objects h)))
    (cases_Bool (eqb o.number v))

not_named : (b : Bool) → not b ≡ true → b ≡ false
not_named true h = absurd (cc)
not_named false h = refl

-- the policy with other objects, where each number but n finds the same
module _ (names : List Name) (p : Policy) (u : ℕ) (right : Right) (e : Name) (n : ℕ) (objects : List Object)
    (same : (m : ℕ) → eqb n m ≡ false → find_by (λ o. o.number) m objects ≡ find_by (λ o. o.number) m p.objects) where
  abbrev with_others : Policy
  with_others = record p { objects = objects }

  covers_same : (m : ℕ) → eqb n m ≡ false → object_covers names with_others e m ≡ object_covers names p e m
  covers_same m other = ap (λ (found : Option Object). option_map_or (λ extent. covers names extent e) (option_map (λ (o : Object). o.extent) found) false) (same m other)

  any_same : (ms : List ℕ) → has_number ms n ≡ false → list_any (object_covers names with_others e) ms ≡ list_any (object_covers names p e) ms
  any_same [] h = refl
  any_same (m ∷ ms) h =
      let parts = or_parts (eqb m n) (has_number ms n) h in
      let other : eqb n m ≡ false = let f = parts.0 in grind (arith, nat_tests, f) in
      ap (λ b. b || list_any (object_covers names with_others e) ms) (covers_same m other)
      ∙ ap (λ b. object_covers names p e m || b) (any_same ms parts.1)

  user_same : (users : UserSet) → has_user with_others users u ≡ has_user p users u
  user_same All = refl
  user_same (Listed users) = refl
  user_same (Groups groups) = refl

  matches_same : (auth : Auth) → has_number auth.objects n ≡ false → matches names with_others u right e auth ≡ matches names p u right e auth
  matches_same auth h =
      ap (λ (b : Bool). (is_user p u && b) && (has_right auth.rights right && list_any (object_covers names with_others e) auth.objects)) (user_same auth.users)
      ∙ ap (λ (b : Bool). (is_user p u && has_user p auth.users u) && (has_right auth.rights right && b)) (any_same auth.objects h)

  find_same : (auths : List NumberedAuth) → list_any (λ a. has_number a.auth.objects n) auths ≡ false
      → find (λ a. matches names with_others u right e a.auth) auths ≡ find (λ a. matches names p u right e a.auth) auths
  find_same [] h = refl
  find_same (a ∷ auths) h =
      let parts = or_parts (has_number a.auth.objects n) (list_any (λ (b : NumberedAuth). has_number b.auth.objects n) auths) h in
      ap (λ b. if b then Some a else find (λ (c : NumberedAuth). matches names with_others u right e c.auth) auths) (matches_same a.auth parts.0)
      ∙ ap (λ (found : Option NumberedAuth). if matches names p u right e a.auth then Some a else found) (find_same auths parts.1)

pub vacuous_law : (names : List Name) (p : Policy) (version : ℕ) (op : AdminOp) (u : ℕ) (right : Right) (e : Name) → is_vacuous p op ≡ true
    → verdict names (policy_after p version op) u right e ≡ verdict names p u right e
vacuous_law names p version (AddUser v) u right e h = absurd (cc)
vacuous_law names p version (DelUser v) u right e h = absurd (cc)
vacuous_law names p version (AddObj n extent) u right e h =
    ap (λ (o : Option NumberedAuth). cond (eqb u 0) Granted (outcome o))
    (find_same names p u right e n (put_by (λ o. o.number) (record { number = n; extent = extent }) p.objects)
    (λ m other. put_found (record { number = n; extent = extent }) m p.objects other) p.auths (not_named (names_object p n) h))
vacuous_law names p version (DelObj n) u right e h =
    ap (λ (o : Option NumberedAuth). cond (eqb u 0) Granted (outcome o))
    (find_same names p u right e n (without (λ o. o.number) n p.objects) (λ m other. without_found n m p.objects other) p.auths (not_named (names_object p n) h))
vacuous_law names p version (AddGroup g) u right e h = absurd (cc)
vacuous_law names p version (DelGroup g) u right e h = absurd (cc)
vacuous_law names p version (AddMember g v) u right e h = absurd (cc)
vacuous_law names p version (DelMember g v) u right e h = absurd (cc)
vacuous_law names p version (AddAuth place auth) u right e h =
    ap (λ (o : Option NumberedAuth). cond (eqb u 0) Granted (outcome o)) (added names p u right e place (record { number = version; auth = auth }) h)
vacuous_law names p version (DelAuth place) u right e h =
    ap (λ (o : Option NumberedAuth). cond (eqb u 0) Granted (outcome o)) (removed names p u right e place (slice_get p.auths place) refl h)
vacuous_law names p version (Validate request) u right e h = absurd (cc)

pub narrowed_reach_law : (names : List Name) (p : Policy) (version : ℕ) (op : AdminOp) (u : ℕ) (right : Right) (e : Name) → IsLegal p op
    → is_reached (narrowed_reach p op) u ≡ false → verdict names p u right e ≡ Granted → verdict names (policy_after p version op) u right e ≡ Granted
narrowed_reach_law names p version op u right e legal out h =
    ⊎_elim
    (λ (t : is_vacuous p op ≡ true). vacuous_law names p version op u right e t ∙ h)
    (λ (f : is_vacuous p op ≡ false).
    reach_law names p version op u right e legal (sym (ap (λ (b : Bool). is_reached (if b then Nobody else reach_of p op) u) f) ∙ out) h)
    (cases_Bool (is_vacuous p op))
