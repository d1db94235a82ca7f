-- How long a frame is: at most 276 bytes.
use Rattle.std.proofs.Common.{◌≡◌, ℕ, suc, ◌+◌, ◌*◌, ◌≤◌, Bool, true, false, cond, ◌&&◌, List, [], ◌∷◌, ◌++◌, length, refl, arith}
use Rattle.std.specs.Prelude.{nat_lt, nat_le, slice_index, is_none}
use Rattle.std.specs.Int.{w32, to_be_bytes}
use Rattle.std.specs.Str.{chars, is_utf8}
use Rattle.std.specs.List.{flat_map}
use Rattle.std.proofs.lemmas.Bool.{leb-true, and_parts}
use Rattle.std.proofs.lemmas.List.{length-append}
use Rattle.std.proofs.lemmas.List.Concat.{flat_map-cons}
use Rattle.element_name.specs.Name.{Name}
use Rattle.coop_request.specs.Piece.{is_piece}
use Rattle.coop_request.specs.Request.{request_fault}
use Rattle.coop_request.specs.declared.edit.Edit.{Edit}
use Rattle.coop_request.specs.declared.edit.Edit.TheVariants.{Insert, Delete, Update}
use Rattle.policy_book.specs.Lists.{is_short, is_name, is_num_list, is_name_list}
use Rattle.policy_book.specs.Entry.{is_entry_version}
use Rattle.policy_book.specs.Operation.{is_extent, is_user_set, is_auth, is_operation}
use Rattle.edit_message.specs.Formed.{is_edit}
use Rattle.policy_book.specs.Rights.{has_any}
use Rattle.policy_book.specs.declared.auth.Extent.{Extent}
use Rattle.policy_book.specs.declared.auth.Extent.TheVariants as extents
use Rattle.policy_book.specs.declared.auth.UserSet.{UserSet}
use Rattle.policy_book.specs.declared.auth.UserSet.TheVariants as users
use Rattle.policy_book.specs.declared.auth.Auth.{Auth}
use Rattle.policy_book.specs.declared.op.AdminOp.{AdminOp}
use Rattle.policy_book.specs.declared.op.AdminOp.TheVariants.{AddUser, DelUser, AddObj, DelObj, AddGroup, DelGroup, AddMember, DelMember, AddAuth, DelAuth, Validate}
use Rattle.edit_message.specs.declared.message.Message.TheVariants.{Coop, Admin}
use Rattle.edit_frame.specs.declared.frame.Frame.{Frame}
use Rattle.edit_frame.specs.declared.frame.Frame.TheVariants.{Item, Turn, End}
use Rattle.edit_frame.specs.Spelling.{short_bytes, name_bytes, extent_bytes, user_set_bytes, rights_bytes, objects_bytes, auth_bytes, operation_number, operation_fields, is_one_char, letter_bytes, edit_bytes, fields, body}
use Rattle.edit_frame.specs.Spells.{is_frame}
use native.Mathlib.Numerals.{unary_clauses}

pub length_short : (n : ℕ) → length (short_bytes n) ≡ 2
unfolding short_bytes
length_short n = refl

pub length_name : (n : Name) → length (name_bytes n) ≡ 8
unfolding name_bytes
length_name n = refl

step : (k n : ℕ) → k + k * n ≡ k * suc n
step k n = simp unary_clauses (omega arith)

length_each : {A : Type 0} (spell : A → List ℕ) (k : ℕ) → ((x : A) → length (spell x) ≡ k) → (xs : List A) → length (flat_map spell xs) ≡ k * length xs
length_each spell k each [] = omega arith
length_each spell k each (x ∷ xs) =
    let more = length_each spell k each xs in
    let one = each x in
    rw (flat_map-cons, length-append, one, more) (step k (length xs))

few_numbers : (ns : List ℕ) → is_num_list ns ≡ true → length (flat_map short_bytes ns) ≤ 32
few_numbers ns h =
    let m = and_parts (nat_lt 0 (length ns) && nat_le (length ns) 16) _ h in
    let le : length ns ≤ 16 = leb-true _ _ (and_parts (nat_lt 0 (length ns)) (nat_le (length ns) 16) m.0).1 in
    omega (arith, length_each short_bytes 2 length_short ns)

few_names : (ns : List Name) → is_name_list ns ≡ true → length (flat_map name_bytes ns) ≤ 256
few_names ns h =
    let m = and_parts (nat_lt 0 (length ns) && nat_le (length ns) 32) _ h in
    let le : length ns ≤ 32 = leb-true _ _ (and_parts (nat_lt 0 (length ns)) (nat_le (length ns) 32) m.0).1 in
    omega (arith, length_each name_bytes 8 length_name ns)

short_extent : (x : Extent) → is_extent x ≡ true → length (extent_bytes x) ≤ 258
unfolding extent_bytes
short_extent extents.All h = omega arith
short_extent (extents.Span a b) h = omega (arith, length-append (name_bytes a) (name_bytes b), length_name a, length_name b)
short_extent (extents.Elems names) h = omega (arith, few_names names h)
short_extent (extents.By u) h = omega (arith, length_short u)

short_user_set : (x : UserSet) → is_user_set x ≡ true → length (user_set_bytes x) ≤ 33
unfolding user_set_bytes
short_user_set users.All h = omega arith
short_user_set (users.Listed ns) h = omega (arith, few_numbers ns h)
short_user_set (users.Groups ns) h = omega (arith, few_numbers ns h)

short_objects : (ns : List ℕ) → is_num_list ns ≡ true → length (objects_bytes ns) ≤ 33
unfolding objects_bytes
short_objects ns h = omega (arith, few_numbers ns h)

short_auth : (a : Auth) → is_auth a ≡ true → length (auth_bytes a) ≤ 68
unfolding auth_bytes rights_bytes
short_auth a h =
    let p = and_parts (is_user_set a.users) (has_any a.rights && is_num_list a.objects) h in
    let q = and_parts (has_any a.rights) (is_num_list a.objects) p.1 in
    omega (arith, length-append (user_set_bytes a.users) (objects_bytes a.objects), short_user_set a.users p.0, short_objects a.objects q.1)

short_operation : (op : AdminOp) → is_operation op ≡ true → length (operation_fields op) ≤ 260
unfolding operation_fields
short_operation (AddUser u) h = omega (arith, length_short u)
short_operation (DelUser u) h = omega (arith, length_short u)
short_operation (AddObj n x) h = omega (arith, length-append (short_bytes n) (extent_bytes x), length_short n, short_extent x (and_parts (is_short n) (is_extent x) h).1)
short_operation (DelObj n) h = omega (arith, length_short n)
short_operation (AddAuth place a) h = omega (arith, length-append (short_bytes place) (auth_bytes a), length_short place, short_auth a (and_parts (is_short place) (is_auth a) h).1)
short_operation (DelAuth place) h = omega (arith, length_short place)
short_operation (Validate n) h = omega (arith, length_name n)
short_operation (AddGroup g) h = omega (arith, length_short g)
short_operation (DelGroup g) h = omega (arith, length_short g)
short_operation (AddMember g u) h = omega (arith, length-append (short_bytes g) (short_bytes u), length_short g, length_short u)
short_operation (DelMember g u) h = omega (arith, length-append (short_bytes g) (short_bytes u), length_short g, length_short u)

letter_by : (b : Bool) (x y : List ℕ) → length x ≤ 256 → length y ≤ 256 → length (cond b x y) ≤ 256
letter_by true x y hx hy = hx
letter_by false x y hx hy = hy

short_letter : (p : List ℕ) → is_piece p ≡ true → length (letter_bytes p) ≤ 256
unfolding letter_bytes
short_letter p h =
    let u = and_parts (nat_lt 0 (length p) && nat_le (length p) 255) (is_utf8 p) h in
    let le : length p ≤ 255 = leb-true _ _ (and_parts (nat_lt 0 (length p)) (nat_le (length p) 255) u.0).1 in
    letter_by (is_one_char p) (to_be_bytes w32 (slice_index (chars p) 0)) (length p ∷ p) (omega arith) (omega arith)

short_edit : (e : Edit) → is_edit e ≡ true → length (edit_bytes e) ≤ 264
unfolding edit_bytes
short_edit (Insert after p) h = omega (arith, length-append (name_bytes after) (letter_bytes p), length_name after, short_letter p (and_parts (is_name after) (is_piece p) h).1)
short_edit (Delete target) h = omega (arith, length_name target)
short_edit (Update target p) h = omega (arith, length-append (name_bytes target) (letter_bytes p), length_name target, short_letter p (and_parts (is_name target) (is_piece p) h).1)

pub short_body : (f : Frame) → is_frame f ≡ true → length (body f) ≤ 276
unfolding fields
short_body (Item (Coop q)) h =
    let a = and_parts (is_name q.id) (is_edit q.edit && is_none (request_fault q)) h in
    let b = and_parts (is_edit q.edit) (is_none (request_fault q)) a.1 in
    omega (arith, length-append (name_bytes q.id) (short_bytes q.version ++ edit_bytes q.edit), length-append (short_bytes q.version) (edit_bytes q.edit), length_name q.id, length_short q.version, short_edit q.edit b.0)
short_body (Item (Admin e)) h =
    let a = and_parts (is_entry_version e.version) (is_operation e.op) h in
    omega (arith, length-append (short_bytes e.version) (operation_number e.op ∷ operation_fields e.op), length_short e.version, short_operation e.op a.1)
short_body Turn h = omega arith
short_body End h = omega arith
