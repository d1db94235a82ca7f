-- Pieces, edits and entries are read as they are spelled.
use Rattle.std.proofs.Common.{◌≡◌, ℕ, suc, ◌<◌, ◌≤◌, Bool, true, false, cond, ◌&&◌, not, ◌⊎◌, inl, inr, List, [], ◌∷◌, ◌++◌, length, take, drop, Some, None, refl, sym, ap, subst, ◌∙◌, arith}
use Rattle.std.specs.Prelude.{nat_lt, nat_le, ◌==◌, slice_index}
use Rattle.std.specs.Int.{w32, to_be_bytes}
use Rattle.std.specs.Str.{chars, IsUtf8, is_utf8}
use Rattle.std.specs.Char.{encode_utf8}
use Rattle.std.proofs.lemmas.Bool.{lt-ltb, leb-true, le-leb, eqb-true, eq-eqb, not-true, false≢true, and_parts, and_from}
use Rattle.std.proofs.lemmas.List.{append-nil, take_at, drop_at, take-append-drop, length-append, length-take-le}
use Rattle.std.proofs.lemmas.Str.{IsUtf8-encode, is_utf8-from_IsUtf8, IsUtf8-from_is_utf8, length-encode, len_utf8_bounds, chars-encodes, encodes-chars, scalars-chars}
use Rattle.element_name.specs.Cases.{◌>>=◌}
use Rattle.element_name.proofs.CaseLemmas.{when-Some}
use Rattle.element_name.specs.Name.{Name}
use Rattle.policy_book.specs.Lists.{is_short, is_name}
use Rattle.policy_book.specs.Operation.{is_operation}
use Rattle.edit_message.specs.Formed.{is_edit}
use Rattle.coop_request.specs.Piece.{is_piece}
use Rattle.coop_request.specs.declared.edit.Edit.{Edit}
use Rattle.coop_request.specs.declared.edit.Edit.TheVariants.{Insert, Delete, Update}
use Rattle.coop_request.specs.Request.{Request}
use Rattle.policy_book.specs.Entry.{Entry, is_entry_version, is_entry}
use Rattle.policy_book.specs.declared.op.AdminOp.{AdminOp}
use Rattle.edit_frame.specs.Fields.{Field, as_value, both, then_by, when_passes, big_endian_at, byte_at, short_at, name_at, char_at, bytes_at, is_long_piece, long_piece_at, letter_at, edit_at, operation_at}
use Rattle.edit_frame.specs.Reading.{request_of_fields, request_at, entry_of, entry_fields_at}
use Rattle.edit_frame.specs.Spelling.{request_fields, entry_fields, short_bytes, name_bytes, is_one_char, letter_bytes, letter_version, edit_version, edit_kind, edit_bytes, operation_number, operation_fields}
use Rattle.edit_frame.specs.Spells.{IsBytes}
use Rattle.edit_frame.proofs.Readers.{IsBytes-drop, Took, Reads, ReadsBy, reads_both, reads_passing, reads_via, reads_same, reads_leading, TakesRows, no_rows, more_rows, row_of, row_again, wide32, reads_number}
use Rattle.edit_frame.proofs.Parts.{reads_short, reads_name, reads_operation}
use lib.Utf8.{scalar, scalars, scalar_fits, encode, encodes}

-- ---- one scalar value

chars_of_one : (c : ℕ) → scalar c ≡ true → chars (encode c) ≡ c ∷ []
chars_of_one c h =
    let all : scalars (c ∷ []) ≡ true = rw h refl in
    ap chars (sym (append-nil (encode c))) ∙ chars-encodes (c ∷ []) all

one_is_piece : (c : ℕ) → scalar c ≡ true → is_piece (encode c) ≡ true
one_is_piece c h =
    let u : is_utf8 (encode c) ≡ true = is_utf8-from_IsUtf8 (encode c) (IsUtf8-encode c h) in
    let l = length-encode c in
    let b = len_utf8_bounds c in
    let low : nat_lt 0 (length (encode c)) ≡ true = lt-ltb _ _ (omega (arith, l, b.0)) in
    let high : nat_le (length (encode c)) 255 ≡ true = le-leb _ _ (omega (arith, l, b.1)) in
    rw (low, high, u) refl

two_by : (n : ℕ) → (suc (suc n) == 1) ≡ true → ⊥
two_by n h = grind arith

single : (xs : List ℕ) → (length xs == 1) ≡ true → xs ≡ slice_index xs 0 ∷ []
single [] h = absurd (false≢true h)
single (x ∷ []) h = refl
single (x ∷ y ∷ rest) h = absurd (two_by (length rest) h)

char_there : (n : ℕ) → (scalar n && nat_lt n 4294967296) ≡ true → (letter_bytes (encode n) ≡ to_be_bytes w32 n) × ((is_piece (encode n) && is_one_char (encode n)) ≡ true)
unfolding letter_bytes
char_there n h =
    let s = (and_parts (scalar n) (nat_lt n 4294967296) h).0 in
    let one = chars_of_one n s in
    (rw one refl, rw (one_is_piece n s, one) refl)

utf8_of : (p : List ℕ) → is_piece p ≡ true → IsUtf8 p
utf8_of p h = IsUtf8-from_is_utf8 p (and_parts (nat_lt 0 (length p) && nat_le (length p) 255) (is_utf8 p) h).1

char_here : (p : List ℕ) → (is_piece p && is_one_char p) ≡ true → (encode (slice_index (chars p) 0) ≡ p) × (to_be_bytes w32 (slice_index (chars p) 0) ≡ letter_bytes p) × ((scalar (slice_index (chars p) 0) && nat_lt (slice_index (chars p) 0) 4294967296) ≡ true)
unfolding letter_bytes
char_here p h =
    let hs = and_parts (is_piece p) (is_one_char p) h in
    let u = utf8_of p hs.0 in
    let c = slice_index (chars p) 0 in
    let one : chars p ≡ c ∷ [] = single (chars p) hs.1 in
    let back : encode c ≡ p = sym (append-nil (encode c)) ∙ ap encodes (sym one) ∙ encodes-chars p u in
    let all : scalars (c ∷ []) ≡ true = ap scalars (sym one) ∙ scalars-chars p u in
    let s : scalar c ≡ true = (and_parts (scalar c) true all).0 in
    let small : c < 4294967296 = scalar_fits c s in
    (back, rw hs.1 refl, and_from (scalar c) (nat_lt c 4294967296) s (lt-ltb _ _ small))

reads_char : Reads (List ℕ) char_at letter_bytes (λ p. is_piece p && is_one_char p)
unfolding char_at
reads_char = reads_via encode_utf8 (λ p. slice_index (chars p) 0) (when_passes scalar (big_endian_at w32)) (to_be_bytes w32) (λ n. scalar n && nat_lt n 4294967296) letter_bytes (λ p. is_piece p && is_one_char p)
    (reads_passing scalar (big_endian_at w32) (to_be_bytes w32) (λ n. nat_lt n 4294967296) (reads_number w32 4294967296 wide32)) char_there char_here

-- ---- more than one

bytes_takes : (k : ℕ) (bytes : List ℕ) (x : List ℕ × List ℕ) → IsBytes bytes → bytes_at k bytes ≡ Some x → (length x.0 ≡ k) × Took bytes x.0 x.1 × (true ≡ true)
unfolding bytes_at
bytes_takes k bytes x h e =
    let g = when-Some (nat_le k (length bytes)) (take k bytes, drop k bytes) x e in
    let long : k ≤ length bytes = leb-true _ _ g.0 in
    subst (λ (y : List ℕ × List ℕ). (length y.0 ≡ k) × Took bytes y.0 y.1 × (true ≡ true)) g.1
    (length-take-le k bytes long, record { parts = sym (take-append-drop k bytes); rest_fits = IsBytes-drop k bytes h }, refl)

bytes_again : (p rest : List ℕ) → true ≡ true → bytes_at (length p) (p ++ rest) ≡ Some (p, rest)
unfolding bytes_at
bytes_again p rest h =
    let long : nat_le (length p) (length (p ++ rest)) ≡ true = le-leb _ _ (omega (arith, length-append p rest)) in
    rw (long, take_at p rest (length p) refl, drop_at p rest (length p) refl) refl

reads_bytes : ReadsBy (List ℕ) bytes_at length (λ p. p) (λ p. true)
reads_bytes = record { takes = bytes_takes; again = bytes_again }

abbrev itself : List ℕ → List ℕ
itself p = p

long_there : (p : List ℕ) → (is_long_piece p && true) ≡ true → (letter_bytes p ≡ length p ∷ p) × ((is_piece p && not (is_one_char p)) ≡ true)
unfolding letter_bytes is_long_piece
long_there p h =
    let l = (and_parts (is_piece p && not (is_one_char p)) true h).0 in
    let n = and_parts (is_piece p) (not (is_one_char p)) l in
    (rw (not-true (is_one_char p) n.1) refl, l)

long_here : (p : List ℕ) → (is_piece p && not (is_one_char p)) ≡ true → (itself p ≡ p) × (length p ∷ p ≡ letter_bytes p) × ((is_long_piece p && true) ≡ true)
unfolding letter_bytes is_long_piece
long_here p h =
    let n = and_parts (is_piece p) (not (is_one_char p)) h in
    (refl, rw (not-true (is_one_char p) n.1) refl, and_from (is_piece p && not (is_one_char p)) true h refl)

reads_long_before : Reads (List ℕ) (as_value itself (when_passes is_long_piece (then_by byte_at bytes_at))) letter_bytes (λ p. is_piece p && not (is_one_char p))
reads_long_before = reads_via itself itself (when_passes is_long_piece (then_by byte_at bytes_at)) (λ p. length p ∷ p) (λ p. is_long_piece p && true) letter_bytes (λ p. is_piece p && not (is_one_char p))
    (reads_passing is_long_piece (then_by byte_at bytes_at) (λ p. length p ∷ p) (λ p. true) (reads_leading bytes_at length (λ p. p) (λ p. true) reads_bytes)) long_there long_here

same_value : {A : Type 0} (f : Field (List A)) → f ≡ (f >>= λ x. Some (x.0, x.1))
same_value (Some x) = refl
same_value None = refl

reads_long : Reads (List ℕ) long_piece_at letter_bytes (λ p. is_piece p && not (is_one_char p))
unfolding long_piece_at
reads_long = reads_same (as_value itself (when_passes is_long_piece (then_by byte_at bytes_at))) long_piece_at letter_bytes letter_bytes (λ p. is_piece p && not (is_one_char p)) (λ p. is_piece p && not (is_one_char p)) reads_long_before
    (λ bytes. same_value (when_passes is_long_piece (then_by byte_at bytes_at) bytes)) (λ p. refl) (λ p. refl)

-- ---- the letter of a frame version

abbrev pub fits_version : ℕ → List ℕ → Bool
fits_version v p = cond (v == 1) (is_one_char p) (not (is_one_char p))

letter_by : (b : Bool) → Reads (List ℕ) (λ bytes. cond b (char_at bytes) (long_piece_at bytes)) letter_bytes (λ p. is_piece p && cond b (is_one_char p) (not (is_one_char p)))
letter_by true = reads_char
letter_by false = reads_long

pub reads_letter : (v : ℕ) → Reads (List ℕ) (letter_at v) letter_bytes (λ p. is_piece p && fits_version v p)
unfolding letter_at
reads_letter v = letter_by (v == 1)

version_by : (b : Bool) → cond (cond b 1 2 == 1) b (not b) ≡ true
version_by true = refl
version_by false = refl

pub version_fits : (p : List ℕ) → fits_version (letter_version p) p ≡ true
version_fits p = version_by (is_one_char p)

fitting_one : (v : ℕ) (b : Bool) → v ≡ 1 → cond (v == 1) b (not b) ≡ true → cond b 1 2 ≡ v
fitting_one v true one h = sym one
fitting_one v false one h = absurd (false≢true (subst (λ (n : ℕ). cond (n == 1) false true ≡ true) one h))

fitting_two : (v : ℕ) (b : Bool) → v ≡ 2 → cond (v == 1) b (not b) ≡ true → cond b 1 2 ≡ v
fitting_two v true two h = absurd (false≢true (subst (λ (n : ℕ). cond (n == 1) true false ≡ true) two h))
fitting_two v false two h = sym two

-- a version 1 or 2 that fits is the piece's
pub fitting_version : (v : ℕ) (p : List ℕ) → (v ≡ 1) ⊎ (v ≡ 2) → fits_version v p ≡ true → letter_version p ≡ v
fitting_version v p (inl one) h = fitting_one v (is_one_char p) one h
fitting_version v p (inr two) h = fitting_two v (is_one_char p) two h

-- ---- edits

abbrev pub fits_edit : ℕ → Edit → Bool
fits_edit v (Insert after p) = is_name after && (is_piece p && fits_version v p)
fits_edit v (Delete target) = is_name target
fits_edit v (Update target p) = is_name target && (is_piece p && fits_version v p)

reads_placed_letter : (v : ℕ) → Reads (Name × List ℕ) (both name_at (letter_at v)) (λ x. name_bytes x.0 ++ letter_bytes x.1) (λ x. is_name x.0 && (is_piece x.1 && fits_version v x.1))
reads_placed_letter v = reads_both name_at (letter_at v) name_bytes letter_bytes is_name (λ p. is_piece p && fits_version v p) reads_name (reads_letter v)

edit_rows : (v : ℕ) → TakesRows Edit edit_kind edit_bytes (fits_edit v) ((1, as_value (λ x. Insert x.0 x.1) (both name_at (letter_at v))) ∷ (2, as_value Delete name_at) ∷ (3, as_value (λ x. Update x.0 x.1) (both name_at (letter_at v))) ∷ [])
unfolding edit_bytes
edit_rows v =
    more_rows edit_kind edit_bytes (fits_edit v) 1 _ _ (row_of (λ x. Insert x.0 x.1) 1 _ _ _ edit_kind edit_bytes (fits_edit v) (reads_placed_letter v) (λ x. refl) (λ x. refl) (λ x. refl))
    (more_rows edit_kind edit_bytes (fits_edit v) 2 _ _ (row_of Delete 2 _ _ _ edit_kind edit_bytes (fits_edit v) reads_name (λ x. refl) (λ x. refl) (λ x. refl))
    (more_rows edit_kind edit_bytes (fits_edit v) 3 _ _ (row_of (λ x. Update x.0 x.1) 3 _ _ _ edit_kind edit_bytes (fits_edit v) (reads_placed_letter v) (λ x. refl) (λ x. refl) (λ x. refl))
    (no_rows edit_kind edit_bytes (fits_edit v))))

edit_again : (v : ℕ) (e : Edit) (rest : List ℕ) → fits_edit v e ≡ true → edit_at v (edit_kind e) (edit_bytes e ++ rest) ≡ Some (e, rest)
unfolding edit_at edit_bytes
edit_again v (Insert after p) rest h = row_again (λ (x : Name × List ℕ). Insert x.0 x.1) (both name_at (letter_at v)) (λ x. name_bytes x.0 ++ letter_bytes x.1) (λ x. is_name x.0 && (is_piece x.1 && fits_version v x.1)) (after, p) rest (reads_placed_letter v) h
edit_again v (Delete target) rest h = row_again Delete name_at name_bytes is_name target rest reads_name h
edit_again v (Update target p) rest h = row_again (λ (x : Name × List ℕ). Update x.0 x.1) (both name_at (letter_at v)) (λ x. name_bytes x.0 ++ letter_bytes x.1) (λ x. is_name x.0 && (is_piece x.1 && fits_version v x.1)) (target, p) rest (reads_placed_letter v) h

reads_edit : (v k : ℕ) → Reads Edit (edit_at v k) edit_bytes (λ e. (edit_kind e == k) && fits_edit v e)
unfolding edit_at
reads_edit v k = record {
  takes = λ bytes x h e. (let t = (edit_rows v).takes k bytes x h e in (t.1, and_from (edit_kind x.0 == k) (fits_edit v x.0) (eq-eqb (edit_kind x.0) k t.0) t.2));
  again = λ x rest h. (let hs = and_parts (edit_kind x == k) (fits_edit v x) h in
      subst (λ (n : ℕ). edit_at v n (edit_bytes x ++ rest) ≡ Some (x, rest)) (eqb-true (edit_kind x) k hs.0) (edit_again v x rest hs.1));
}

-- ---- requests

abbrev pub fits_request : ℕ → ℕ → Request → Bool
fits_request v k q = is_name q.id && (is_short q.version && ((edit_kind q.edit == k) && fits_edit v q.edit))

abbrev request_back : Request → Name × (ℕ × Edit)
request_back q = (q.id, (q.version, q.edit))

pub reads_request : (v k : ℕ) → Reads Request (request_at v k) request_fields (fits_request v k)
unfolding request_at
reads_request v k = reads_via request_of_fields request_back (both name_at (both short_at (edit_at v k)))
    (λ x. name_bytes x.0 ++ (short_bytes x.1.0 ++ edit_bytes x.1.1)) (λ x. is_name x.0 && (is_short x.1.0 && ((edit_kind x.1.1 == k) && fits_edit v x.1.1))) request_fields (fits_request v k)
    (reads_both name_at (both short_at (edit_at v k)) name_bytes (λ x. short_bytes x.0 ++ edit_bytes x.1) is_name (λ x. is_short x.0 && ((edit_kind x.1 == k) && fits_edit v x.1)) reads_name
    (reads_both short_at (edit_at v k) short_bytes edit_bytes is_short (λ e. (edit_kind e == k) && fits_edit v e) reads_short (reads_edit v k)))
    (λ x h. (refl, h)) (λ q h. (refl, refl, h))

-- an edit that fits a version is an edit
pub edit_by_fit : (v : ℕ) (e : Edit) → fits_edit v e ≡ true → is_edit e ≡ true
edit_by_fit v (Insert after p) h =
    let a = and_parts (is_name after) (is_piece p && fits_version v p) h in
    let b = and_parts (is_piece p) (fits_version v p) a.1 in
    and_from (is_name after) (is_piece p) a.0 b.0
edit_by_fit v (Delete target) h = h
edit_by_fit v (Update target p) h =
    let a = and_parts (is_name target) (is_piece p && fits_version v p) h in
    let b = and_parts (is_piece p) (fits_version v p) a.1 in
    and_from (is_name target) (is_piece p) a.0 b.0

pub fit_of_edit : (e : Edit) → is_edit e ≡ true → fits_edit (edit_version e) e ≡ true
fit_of_edit (Insert after p) h =
    let a = and_parts (is_name after) (is_piece p) h in
    and_from (is_name after) (is_piece p && fits_version (letter_version p) p) a.0 (and_from (is_piece p) (fits_version (letter_version p) p) a.1 (version_fits p))
fit_of_edit (Delete target) h = h
fit_of_edit (Update target p) h =
    let a = and_parts (is_name target) (is_piece p) h in
    and_from (is_name target) (is_piece p && fits_version (letter_version p) p) a.0 (and_from (is_piece p) (fits_version (letter_version p) p) a.1 (version_fits p))

-- ---- entries

abbrev entry_back : Entry → ℕ × AdminOp
entry_back e = (e.version, e.op)

small_by : (n : ℕ) → is_entry_version n ≡ true → is_short n ≡ true
small_by n h = grind arith

-- what is read of an entry: a version that it can make, and its operation
abbrev fits_entry : ℕ × AdminOp → Bool
fits_entry x = is_entry_version x.0 && (is_short x.0 && is_operation x.1)

entry_there : (x : ℕ × AdminOp) → fits_entry x ≡ true → (entry_fields (entry_of x) ≡ short_bytes x.0 ++ (operation_number x.1 ∷ operation_fields x.1)) × (is_entry (entry_of x) ≡ true)
entry_there x h =
    let hs = and_parts (is_entry_version x.0) (is_short x.0 && is_operation x.1) h in
    (refl, and_from (is_entry_version x.0) (is_operation x.1) hs.0 (and_parts (is_short x.0) (is_operation x.1) hs.1).1)

entry_here : (e : Entry) → is_entry e ≡ true → (entry_of (entry_back e) ≡ e) × (short_bytes e.version ++ (operation_number e.op ∷ operation_fields e.op) ≡ entry_fields e) × (fits_entry (entry_back e) ≡ true)
entry_here e h =
    let hs = and_parts (is_entry_version e.version) (is_operation e.op) h in
    (refl, refl, and_from (is_entry_version e.version) (is_short e.version && is_operation e.op) hs.0 (and_from (is_short e.version) (is_operation e.op) (small_by e.version hs.0) hs.1))

pub reads_entry : Reads Entry entry_fields_at entry_fields is_entry
unfolding entry_fields_at
reads_entry = reads_via entry_of entry_back (when_passes (λ x. is_entry_version x.0) (both short_at operation_at))
    (λ x. short_bytes x.0 ++ (operation_number x.1 ∷ operation_fields x.1)) fits_entry entry_fields is_entry
    (reads_passing (λ x. is_entry_version x.0) (both short_at operation_at) (λ x. short_bytes x.0 ++ (operation_number x.1 ∷ operation_fields x.1)) (λ x. is_short x.0 && is_operation x.1)
    (reads_both short_at operation_at short_bytes (λ op. operation_number op ∷ operation_fields op) is_short is_operation reads_short reads_operation))
    entry_there entry_here
