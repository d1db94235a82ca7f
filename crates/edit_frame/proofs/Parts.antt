-- The parts of an operation are read as they are spelled.
use Rattle.std.proofs.Common.{◌≡◌, ℕ, zero, suc, ◌+◌, ◌-◌, ◌*◌, ◌/◌, ◌%◌, ◌^◌, ◌<◌, ◌≤◌, Bool, true, false, cond, ◌&&◌, ◌||◌, inl, inr, List, [], ◌∷◌, ◌++◌, length, Some, refl, sym, ap, subst, arith}
use Rattle.std.specs.Prelude.{nat_lt, nat_le, ◌==◌}
use Rattle.std.specs.Int.{w16, w64, to_be_bytes}
use Rattle.std.specs.List.{flat_map, list_all}
use Rattle.std.proofs.lemmas.Bool.{ltb-true, lt-ltb, leb-true, le-leb, leb-false, lt-leb, eqb-true, and_parts, and_from}
use Rattle.element_name.specs.Name.{Name, name_lt, is_in_range}
use Rattle.element_name.specs.Numbered.{is_rising}
use Rattle.element_name.specs.declared.limits.TheConstants.{MAX_STAMP}
use Rattle.element_name.proofs.CaseLemmas.{bind-Some}
use Rattle.policy_book.specs.declared.limits.TheConstants.{MAX_NUMBERS, MAX_NAMES}
use Rattle.policy_book.specs.Lists.{is_short, is_name, is_num_list, is_name_list}
use Rattle.policy_book.specs.Operation.{is_extent, is_user_set, is_auth, is_operation}
use Rattle.policy_book.specs.Rights.{Rights, has_any}
use Rattle.policy_book.specs.declared.auth.Extent.{Extent}
use Rattle.policy_book.specs.declared.auth.Extent.TheVariants as extents
use Rattle.policy_book.specs.declared.auth.UserSet.{UserSet}
use Rattle.policy_book.specs.declared.auth.UserSet.TheVariants as users
use Rattle.policy_book.specs.declared.auth.Auth.{Auth}
use Rattle.policy_book.specs.declared.op.AdminOp.{AdminOp}
use Rattle.policy_book.specs.declared.op.AdminOp.TheVariants.{AddUser, DelUser, AddObj, DelObj, AddGroup, DelGroup, AddMember, DelMember, AddAuth, DelAuth, Validate}
use Rattle.edit_frame.specs.Fields.{Reader, constant, as_value, both, then_by, when_passes, big_endian_at, byte_at, short_at, name_of_number, name_at, numbers_at, names_at, extent_by, extent_at, user_set_by, user_set_at, sign_at, rights_of_byte, rights_at, auth_of, objects_at, auth_at, operation_rows, operation_by, operation_at}
use Rattle.edit_frame.specs.Spelling.{short_bytes, name_bytes, extent_bytes, user_set_bytes, flag, rights_bytes, objects_bytes, auth_bytes, operation_number, operation_fields}
use Rattle.edit_frame.specs.Spells.{IsBytes}
use Rattle.edit_frame.proofs.Readers.{IsBytes-rest, Took, Reads, ReadsBy, some_is, chosen, reads_both, reads_passing, reads_test, reads_via, reads_same, reads_leading, TakesRows, no_rows, more_rows, row_of, row_constant, row_again, reads_list, wide16, wide64, reads_number}

pub reads_short : Reads ℕ short_at short_bytes is_short
unfolding short_at short_bytes
reads_short = reads_number w16 65536 wide16

byte_takes : (bytes : List ℕ) (x : ℕ × List ℕ) → IsBytes bytes → byte_at bytes ≡ Some x → Took bytes (x.0 ∷ []) x.1 × (true ≡ true)
unfolding byte_at
byte_takes [] x h e = absurd cc
byte_takes (b ∷ bytes) x h e =
    subst (λ (y : ℕ × List ℕ). Took (b ∷ bytes) (y.0 ∷ []) y.1 × (true ≡ true)) (some_is (b, bytes) x e) (record { parts = refl; rest_fits = IsBytes-rest b bytes h }, refl)

-- one byte
pub reads_byte : Reads ℕ byte_at (λ n. n ∷ []) (λ n. true)
unfolding byte_at
reads_byte = record { takes = byte_takes; again = λ x rest h. refl }

-- ---- names

abbrev number_of_name : Name → ℕ
number_of_name n = n.stamp * 2 ^ 16 + n.site

-- its number has eight bytes, and its site two
abbrev is_pair : Name → Bool
is_pair n = nat_lt (number_of_name n) 18446744073709551616 && is_short n.site

pair_there : (n : ℕ) → nat_lt n 18446744073709551616 ≡ true → (name_bytes (name_of_number n) ≡ to_be_bytes w64 n) × (is_pair (name_of_number n) ≡ true)
unfolding name_bytes
pair_there n h =
    let same : (n / 2 ^ 16) * 2 ^ 16 + n % 2 ^ 16 ≡ n = omega arith in
    let site : is_short (n % 2 ^ 16) ≡ true = lt-ltb _ _ (omega arith) in
    (ap (to_be_bytes w64) same, rw (same, h, site) refl)

pair_here : (n : Name) → is_pair n ≡ true → (name_of_number (number_of_name n) ≡ n) × (to_be_bytes w64 (number_of_name n) ≡ name_bytes n) × (nat_lt (number_of_name n) 18446744073709551616 ≡ true)
unfolding name_bytes
pair_here n h =
    let hs = and_parts (nat_lt (number_of_name n) 18446744073709551616) (is_short n.site) h in
    let site : n.site < 2 ^ 16 = ltb-true _ _ hs.1 in
    let high : (n.stamp * 2 ^ 16 + n.site) / 2 ^ 16 ≡ n.stamp = omega arith in
    let low : (n.stamp * 2 ^ 16 + n.site) % 2 ^ 16 ≡ n.site = omega arith in
    (rw (high, low) refl, refl, hs.0)

reads_pair : Reads Name (as_value name_of_number (big_endian_at w64)) name_bytes is_pair
reads_pair = reads_via name_of_number number_of_name (big_endian_at w64) (to_be_bytes w64) (λ n. nat_lt n 18446744073709551616) name_bytes is_pair
    (reads_number w64 18446744073709551616 wide64) pair_there pair_here

-- a name's number has eight bytes
pair_by : (n : Name) → is_name n ≡ true → is_pair n ≡ true
pair_by n h =
    let hs = and_parts (is_in_range n.stamp n.site) (is_short n.site) h in
    let rs = and_parts (nat_le n.stamp MAX_STAMP) (nat_lt 0 n.stamp || (n.site == 0)) hs.0 in
    let stamp : n.stamp ≤ MAX_STAMP = leb-true _ _ rs.0 in
    let site : n.site < 2 ^ 16 = ltb-true _ _ hs.1 in
    let lt : nat_lt (n.stamp * 2 ^ 16 + n.site) 18446744073709551616 ≡ true = lt-ltb _ _ (omega arith) in
    and_from (nat_lt (number_of_name n) 18446744073709551616) (is_short n.site) lt hs.1

pub reads_name : Reads Name name_at name_bytes is_name
unfolding name_at
reads_name = reads_test is_name (as_value name_of_number (big_endian_at w64)) name_bytes is_pair reads_pair pair_by

-- ---- lists

pub reads_numbers : ReadsBy (List ℕ) numbers_at length (flat_map short_bytes) is_num_list
unfolding numbers_at
reads_numbers = reads_list is_num_list short_at short_bytes is_short reads_short
    (λ ns h. (and_parts (is_rising nat_lt ns) (list_all is_short ns) (and_parts (nat_lt 0 (length ns) && nat_le (length ns) MAX_NUMBERS) (is_rising nat_lt ns && list_all is_short ns) h).1).1)

pub reads_names : ReadsBy (List Name) names_at length (flat_map name_bytes) is_name_list
unfolding names_at
reads_names = reads_list is_name_list name_at name_bytes is_name reads_name
    (λ ns h. (and_parts (is_rising name_lt ns) (list_all is_name ns) (and_parts (nat_lt 0 (length ns) && nat_le (length ns) MAX_NAMES) (is_rising name_lt ns && list_all is_name ns) h).1).1)

pub reads_objects : Reads (List ℕ) objects_at objects_bytes is_num_list
unfolding objects_at objects_bytes
reads_objects = reads_leading numbers_at length (flat_map short_bytes) is_num_list reads_numbers

-- ---- extents

abbrev extent_kind : Extent → ℕ
extent_kind extents.All = 0
extent_kind (extents.Span a b) = 1
extent_kind (extents.Elems names) = 2
extent_kind (extents.By u) = 3

abbrev extent_fields : Extent → List ℕ
extent_fields extents.All = []
extent_fields (extents.Span a b) = name_bytes a ++ name_bytes b
extent_fields (extents.Elems names) = length names ∷ flat_map name_bytes names
extent_fields (extents.By u) = short_bytes u

reads_span : Reads (Name × Name) (both name_at name_at) (λ x. name_bytes x.0 ++ name_bytes x.1) (λ x. is_name x.0 && is_name x.1)
reads_span = reads_both name_at name_at name_bytes name_bytes is_name is_name reads_name reads_name

reads_elems : Reads (List Name) (then_by byte_at names_at) (λ ns. length ns ∷ flat_map name_bytes ns) is_name_list
reads_elems = reads_leading names_at length (flat_map name_bytes) is_name_list reads_names

extent_rows : TakesRows Extent extent_kind extent_fields is_extent ((0, constant extents.All) ∷ (1, as_value (λ x. extents.Span x.0 x.1) (both name_at name_at)) ∷ (2, as_value extents.Elems (then_by byte_at names_at)) ∷ (3, as_value extents.By short_at) ∷ [])
extent_rows =
    more_rows _ _ _ 0 _ _ (row_constant extents.All 0 extent_kind extent_fields is_extent refl refl refl)
    (more_rows _ _ _ 1 _ _ (row_of (λ x. extents.Span x.0 x.1) 1 _ _ _ extent_kind extent_fields is_extent reads_span (λ x. refl) (λ x. refl) (λ x. refl))
    (more_rows _ _ _ 2 _ _ (row_of extents.Elems 2 _ _ _ extent_kind extent_fields is_extent reads_elems (λ x. refl) (λ x. refl) (λ x. refl))
    (more_rows _ _ _ 3 _ _ (row_of extents.By 3 _ _ _ extent_kind extent_fields is_extent reads_short (λ x. refl) (λ x. refl) (λ x. refl))
    (no_rows extent_kind extent_fields is_extent))))

extent_again : (x : Extent) (rest : List ℕ) → is_extent x ≡ true → extent_by (extent_kind x) (extent_fields x ++ rest) ≡ Some (x, rest)
unfolding extent_by
extent_again extents.All rest h = refl
extent_again (extents.Span a b) rest h = row_again (λ (x : Name × Name). extents.Span x.0 x.1) (both name_at name_at) (λ x. name_bytes x.0 ++ name_bytes x.1) (λ x. is_name x.0 && is_name x.1) (a, b) rest reads_span h
extent_again (extents.Elems names) rest h = row_again extents.Elems (then_by byte_at names_at) (λ ns. length ns ∷ flat_map name_bytes ns) is_name_list names rest reads_elems h
extent_again (extents.By u) rest h = row_again extents.By short_at short_bytes is_short u rest reads_short h

extent_spelled : (x : Extent) → extent_bytes x ≡ extent_kind x ∷ extent_fields x
unfolding extent_bytes
extent_spelled extents.All = refl
extent_spelled (extents.Span a b) = refl
extent_spelled (extents.Elems names) = refl
extent_spelled (extents.By u) = refl

pub reads_extent : Reads Extent extent_at extent_bytes is_extent
unfolding extent_at extent_by
reads_extent =
    reads_same (then_by byte_at extent_by) extent_at (λ x. extent_kind x ∷ extent_fields x) extent_bytes is_extent is_extent
    (reads_leading extent_by extent_kind extent_fields is_extent (record { takes = extent_rows.takes; again = extent_again }))
    (λ bytes. refl) extent_spelled (λ x. refl)

-- ---- sets of users

abbrev set_count : UserSet → ℕ
set_count users.All = 0
set_count (users.Listed numbers) = length numbers
set_count (users.Groups numbers) = length numbers + 16

abbrev set_fields : UserSet → List ℕ
set_fields users.All = []
set_fields (users.Listed numbers) = flat_map short_bytes numbers
set_fields (users.Groups numbers) = flat_map short_bytes numbers

count_bounds : (numbers : List ℕ) → is_num_list numbers ≡ true → (0 < length numbers) × (length numbers ≤ 16)
count_bounds numbers h =
    let m = and_parts (nat_lt 0 (length numbers) && nat_le (length numbers) 16) (is_rising nat_lt numbers && list_all is_short numbers) h in
    let k = and_parts (nat_lt 0 (length numbers)) (nat_le (length numbers) 16) m.0 in
    (ltb-true _ _ k.0, leb-true _ _ k.1)

set_takes : (k : ℕ) (bytes : List ℕ) (x : UserSet × List ℕ) → IsBytes bytes → user_set_by k bytes ≡ Some x → (set_count x.0 ≡ k) × Took bytes (set_fields x.0) x.1 × (is_user_set x.0 ≡ true)
unfolding user_set_by
set_takes k bytes x h e = elim (chosen (k == 0) (constant users.All bytes) (cond (nat_le k 16) (as_value users.Listed (numbers_at k) bytes) (as_value users.Groups (numbers_at (k - 16)) bytes)) (Some x) e) [
  | inl c ↦ subst (λ (z : UserSet × List ℕ). (set_count z.0 ≡ k) × Took bytes (set_fields z.0) z.1 × (is_user_set z.0 ≡ true)) (some_is (users.All, bytes) x c.1) (sym (eqb-true k 0 c.0), record { parts = refl; rest_fits = h }, refl)
  | inr c ↦ elim (chosen (nat_le k 16) (as_value users.Listed (numbers_at k) bytes) (as_value users.Groups (numbers_at (k - 16)) bytes) (Some x) c.1) [
    | inl d ↦ (
        let a = bind-Some (numbers_at k bytes) (λ u. Some (users.Listed u.0, u.1)) x d.1 in
        let t = reads_numbers.takes k bytes a.0 h a.1 in
        subst (λ (z : UserSet × List ℕ). (set_count z.0 ≡ k) × Took bytes (set_fields z.0) z.1 × (is_user_set z.0 ≡ true)) (some_is (users.Listed a.0.0, a.0.1) x a.2) t)
    | inr d ↦ (
        let a = bind-Some (numbers_at (k - 16) bytes) (λ u. Some (users.Groups u.0, u.1)) x d.1 in
        let t = reads_numbers.takes (k - 16) bytes a.0 h a.1 in
        let more : 16 < k = leb-false k 16 d.0 in
        let len = t.0 in
        let sum : length a.0.0 + 16 ≡ k = omega arith in
        subst (λ (z : UserSet × List ℕ). (set_count z.0 ≡ k) × Took bytes (set_fields z.0) z.1 × (is_user_set z.0 ≡ true)) (some_is (users.Groups a.0.0, a.0.1) x a.2) (sum, t.1, t.2))
  ]
]

none_by : (k : ℕ) → 0 < k → (k == 0) ≡ false
none_by k h = grind arith

set_again : (x : UserSet) (rest : List ℕ) → is_user_set x ≡ true → user_set_by (set_count x) (set_fields x ++ rest) ≡ Some (x, rest)
unfolding user_set_by
set_again users.All rest h = refl
set_again (users.Listed numbers) rest h =
    let b = count_bounds numbers h in
    let none : (length numbers == 0) ≡ false = none_by (length numbers) b.0 in
    let few : nat_le (length numbers) 16 ≡ true = le-leb _ _ b.1 in
    rw (none, few, reads_numbers.again numbers rest h) refl
set_again (users.Groups numbers) rest h =
    let b = count_bounds numbers h in
    let none : ((length numbers + 16) == 0) ≡ false = none_by (length numbers + 16) (omega arith) in
    let many : nat_le (length numbers + 16) 16 ≡ false = lt-leb (length numbers + 16) 16 (omega (arith, b.0)) in
    let less : length numbers + 16 - 16 ≡ length numbers = omega arith in
    rw (none, many, less, reads_numbers.again numbers rest h) refl

set_spelled : (x : UserSet) → user_set_bytes x ≡ set_count x ∷ set_fields x
unfolding user_set_bytes
set_spelled users.All = refl
set_spelled (users.Listed numbers) = refl
set_spelled (users.Groups numbers) = refl

pub reads_user_set : Reads UserSet user_set_at user_set_bytes is_user_set
unfolding user_set_at
reads_user_set =
    reads_same (then_by byte_at user_set_by) user_set_at (λ x. set_count x ∷ set_fields x) user_set_bytes is_user_set is_user_set
    (reads_leading user_set_by set_count set_fields is_user_set (record { takes = set_takes; again = set_again }))
    (λ bytes. refl) set_spelled (λ x. refl)

-- ---- signs and rights

no_sign : (n : ℕ) → (nat_le (suc (suc n)) 1 && true) ≡ true → ⊥
no_sign n h = grind arith

sign_there : (n : ℕ) → (nat_le n 1 && true) ≡ true → (flag 1 (n == 1) ∷ [] ≡ n ∷ []) × (true ≡ true)
sign_there zero h = (refl, refl)
sign_there (suc zero) h = (refl, refl)
sign_there (suc (suc n)) h = absurd (no_sign n h)

sign_here : (b : Bool) → true ≡ true → ((flag 1 b == 1) ≡ b) × (flag 1 b ∷ [] ≡ flag 1 b ∷ []) × ((nat_le (flag 1 b) 1 && true) ≡ true)
sign_here true h = (refl, refl, refl)
sign_here false h = (refl, refl, refl)

reads_sign : Reads Bool sign_at (λ b. flag 1 b ∷ []) (λ b. true)
unfolding sign_at
reads_sign = reads_via (λ n. n == 1) (flag 1) (when_passes (λ n. nat_le n 1) byte_at) (λ n. n ∷ []) (λ n. nat_le n 1 && true) (λ b. flag 1 b ∷ []) (λ b. true)
    (reads_passing (λ n. nat_le n 1) byte_at (λ n. n ∷ []) (λ n. true) reads_byte) sign_there sign_here

abbrev rights_number : Rights → ℕ
rights_number r = flag 1 r.insert + flag 2 r.delete + flag 4 r.update

no_rights : (n : ℕ) → ((nat_lt 0 (suc (suc (suc (suc (suc (suc (suc (suc n)))))))) && nat_le (suc (suc (suc (suc (suc (suc (suc (suc n)))))))) 7) && true) ≡ true → ⊥
no_rights n h = grind arith

rights_there : (n : ℕ) → ((nat_lt 0 n && nat_le n 7) && true) ≡ true → (rights_number (rights_of_byte n) ∷ [] ≡ n ∷ []) × (has_any (rights_of_byte n) ≡ true)
rights_there zero h = absurd cc
rights_there (suc zero) h = (refl, refl)
rights_there (suc (suc zero)) h = (refl, refl)
rights_there (suc (suc (suc zero))) h = (refl, refl)
rights_there (suc (suc (suc (suc zero)))) h = (refl, refl)
rights_there (suc (suc (suc (suc (suc zero))))) h = (refl, refl)
rights_there (suc (suc (suc (suc (suc (suc zero)))))) h = (refl, refl)
rights_there (suc (suc (suc (suc (suc (suc (suc zero))))))) h = (refl, refl)
rights_there (suc (suc (suc (suc (suc (suc (suc (suc n)))))))) h = absurd (no_rights n h)

flags_here : (a b c : Bool) → has_any (record { insert = a; delete = b; update = c }) ≡ true → (rights_of_byte (flag 1 a + flag 2 b + flag 4 c) ≡ record { insert = a; delete = b; update = c }) × (((nat_lt 0 (flag 1 a + flag 2 b + flag 4 c) && nat_le (flag 1 a + flag 2 b + flag 4 c) 7) && true) ≡ true)
flags_here true true true h = (refl, refl)
flags_here true true false h = (refl, refl)
flags_here true false true h = (refl, refl)
flags_here true false false h = (refl, refl)
flags_here false true true h = (refl, refl)
flags_here false true false h = (refl, refl)
flags_here false false true h = (refl, refl)
flags_here false false false h = absurd cc

reads_rights : Reads Rights rights_at rights_bytes has_any
unfolding rights_at rights_bytes
reads_rights = reads_via rights_of_byte rights_number (when_passes (λ n. nat_lt 0 n && nat_le n 7) byte_at) (λ n. n ∷ []) (λ n. (nat_lt 0 n && nat_le n 7) && true) rights_bytes has_any
    (reads_passing (λ n. nat_lt 0 n && nat_le n 7) byte_at (λ n. n ∷ []) (λ n. true) reads_byte) rights_there
    (λ r h. (let f = flags_here r.insert r.delete r.update h in (f.0, refl, f.1)))

-- ---- authorizations

-- three tests pass in any order
turned : (a b c : Bool) → (a && (b && c)) ≡ true → (b && (a && c)) ≡ true
turned true true c h = h
turned true false c h = absurd cc
turned false b c h = absurd cc

auth_back : Auth → Bool × (Rights × (UserSet × List ℕ))
auth_back a = (a.grant, (a.rights, (a.users, a.objects)))

pub reads_auth : Reads Auth auth_at auth_bytes is_auth
unfolding auth_at auth_bytes auth_back
reads_auth = reads_via auth_of auth_back (both sign_at (both rights_at (both user_set_at objects_at)))
    (λ x. (flag 1 x.0 ∷ []) ++ (rights_bytes x.1.0 ++ (user_set_bytes x.1.1.0 ++ objects_bytes x.1.1.1))) (λ x. true && (has_any x.1.0 && (is_user_set x.1.1.0 && is_num_list x.1.1.1))) auth_bytes is_auth
    (reads_both sign_at (both rights_at (both user_set_at objects_at)) _ _ _ _ reads_sign (reads_both rights_at (both user_set_at objects_at) _ _ _ _ reads_rights (reads_both user_set_at objects_at _ _ _ _ reads_user_set reads_objects)))
    (λ x h. (refl, turned (has_any x.1.0) (is_user_set x.1.1.0) (is_num_list x.1.1.1) h))
    (λ a h. (refl, refl, turned (is_user_set a.users) (has_any a.rights) (is_num_list a.objects) h))

-- ---- operations

reads_object : Reads (ℕ × Extent) (both short_at extent_at) (λ x. short_bytes x.0 ++ extent_bytes x.1) (λ x. is_short x.0 && is_extent x.1)
reads_object = reads_both short_at extent_at short_bytes extent_bytes is_short is_extent reads_short reads_extent

reads_placed : Reads (ℕ × Auth) (both short_at auth_at) (λ x. short_bytes x.0 ++ auth_bytes x.1) (λ x. is_short x.0 && is_auth x.1)
reads_placed = reads_both short_at auth_at short_bytes auth_bytes is_short is_auth reads_short reads_auth

reads_member : Reads (ℕ × ℕ) (both short_at short_at) (λ x. short_bytes x.0 ++ short_bytes x.1) (λ x. is_short x.0 && is_short x.1)
reads_member = reads_both short_at short_at short_bytes short_bytes is_short is_short reads_short reads_short

operation_row : {A : Type 0} (f : A → AdminOp) (n : ℕ) (p : Reader A) (sp : A → List ℕ) (fp : A → Bool) (rows : List (ℕ × Reader AdminOp)) → Reads A p sp fp
    → ((x : A) → operation_number (f x) ≡ n) → ((x : A) → operation_fields (f x) ≡ sp x) → ((x : A) → is_operation (f x) ≡ fp x)
    → TakesRows AdminOp operation_number operation_fields is_operation rows → TakesRows AdminOp operation_number operation_fields is_operation ((n, as_value f p) ∷ rows)
operation_row f n p sp fp rows P a b c Rs = more_rows operation_number operation_fields is_operation n (as_value f p) rows (row_of f n p sp fp operation_number operation_fields is_operation P a b c) Rs

operations_taken : TakesRows AdminOp operation_number operation_fields is_operation operation_rows
unfolding operation_fields
operations_taken =
    operation_row AddUser 1 _ _ _ _ reads_short (λ x. refl) (λ x. refl) (λ x. refl)
    (operation_row DelUser 2 _ _ _ _ reads_short (λ x. refl) (λ x. refl) (λ x. refl)
    (operation_row (λ x. AddObj x.0 x.1) 3 _ _ _ _ reads_object (λ x. refl) (λ x. refl) (λ x. refl)
    (operation_row DelObj 4 _ _ _ _ reads_short (λ x. refl) (λ x. refl) (λ x. refl)
    (operation_row (λ x. AddAuth x.0 x.1) 5 _ _ _ _ reads_placed (λ x. refl) (λ x. refl) (λ x. refl)
    (operation_row DelAuth 6 _ _ _ _ reads_short (λ x. refl) (λ x. refl) (λ x. refl)
    (operation_row Validate 7 _ _ _ _ reads_name (λ x. refl) (λ x. refl) (λ x. refl)
    (operation_row AddGroup 8 _ _ _ _ reads_short (λ x. refl) (λ x. refl) (λ x. refl)
    (operation_row DelGroup 9 _ _ _ _ reads_short (λ x. refl) (λ x. refl) (λ x. refl)
    (operation_row (λ x. AddMember x.0 x.1) 10 _ _ _ _ reads_member (λ x. refl) (λ x. refl) (λ x. refl)
    (operation_row (λ x. DelMember x.0 x.1) 11 _ _ _ _ reads_member (λ x. refl) (λ x. refl) (λ x. refl)
    (no_rows operation_number operation_fields is_operation)))))))))))

operation_again : (op : AdminOp) (rest : List ℕ) → is_operation op ≡ true → operation_by (operation_number op) (operation_fields op ++ rest) ≡ Some (op, rest)
unfolding operation_by operation_fields
operation_again (AddUser u) rest h = row_again AddUser short_at short_bytes is_short u rest reads_short h
operation_again (DelUser u) rest h = row_again DelUser short_at short_bytes is_short u rest reads_short h
operation_again (AddObj n x) rest h = row_again (λ (y : ℕ × Extent). AddObj y.0 y.1) (both short_at extent_at) (λ y. short_bytes y.0 ++ extent_bytes y.1) (λ y. is_short y.0 && is_extent y.1) (n, x) rest reads_object h
operation_again (DelObj n) rest h = row_again DelObj short_at short_bytes is_short n rest reads_short h
operation_again (AddAuth place a) rest h = row_again (λ (y : ℕ × Auth). AddAuth y.0 y.1) (both short_at auth_at) (λ y. short_bytes y.0 ++ auth_bytes y.1) (λ y. is_short y.0 && is_auth y.1) (place, a) rest reads_placed h
operation_again (DelAuth place) rest h = row_again DelAuth short_at short_bytes is_short place rest reads_short h
operation_again (Validate n) rest h = row_again Validate name_at name_bytes is_name n rest reads_name h
operation_again (AddGroup g) rest h = row_again AddGroup short_at short_bytes is_short g rest reads_short h
operation_again (DelGroup g) rest h = row_again DelGroup short_at short_bytes is_short g rest reads_short h
operation_again (AddMember g u) rest h = row_again (λ (y : ℕ × ℕ). AddMember y.0 y.1) (both short_at short_at) (λ y. short_bytes y.0 ++ short_bytes y.1) (λ y. is_short y.0 && is_short y.1) (g, u) rest reads_member h
operation_again (DelMember g u) rest h = row_again (λ (y : ℕ × ℕ). DelMember y.0 y.1) (both short_at short_at) (λ y. short_bytes y.0 ++ short_bytes y.1) (λ y. is_short y.0 && is_short y.1) (g, u) rest reads_member h

pub reads_operation : Reads AdminOp operation_at (λ op. operation_number op ∷ operation_fields op) is_operation
unfolding operation_at operation_by
reads_operation = reads_leading operation_by operation_number operation_fields is_operation (record { takes = operations_taken.takes; again = operation_again })
