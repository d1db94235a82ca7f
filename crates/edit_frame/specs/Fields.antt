-- Reading the fields of a frame, each a prefix of the bytes: a value and the bytes after it, or nothing.
use Rattle.std.specs.Prelude.{ℕ, zero, suc, ◌-◌, ◌/◌, ◌%◌, ◌^◌, Bool, not, ◌&&◌, ◌||◌, List, [], ◌∷◌, Option, Some, None, length, take, drop, slice_index, ◌==◌, nat_lt, nat_le, if◌then◌else◌}
use Rattle.std.specs.Int.{Width, w16, w32, w64, byte_len, from_be_bytes}
use Rattle.std.specs.Char.{encode_utf8}
use Rattle.element_name.specs.Cases.{when, ◌>>=◌}
use Rattle.element_name.specs.Name.{Name}
use Rattle.coop_request.specs.Piece.{is_piece}
use Rattle.coop_request.specs.declared.edit.Edit.{Edit}
use Rattle.coop_request.specs.declared.edit.Edit.TheVariants.{Insert, Delete, Update}
use Rattle.policy_book.specs.Lists.{is_name, is_num_list, is_name_list}
use Rattle.policy_book.specs.Rights.{Rights}
use Rattle.policy_book.specs.declared.auth.Extent.{Extent}
use Rattle.policy_book.specs.declared.auth.Extent.TheVariants as extents
use Rattle.policy_book.specs.declared.auth.UserSet.{UserSet}
use Rattle.policy_book.specs.declared.auth.UserSet.TheVariants as users
use Rattle.policy_book.specs.declared.auth.Auth.{Auth}
use Rattle.policy_book.specs.declared.op.AdminOp.{AdminOp}
use Rattle.policy_book.specs.declared.op.AdminOp.TheVariants.{AddUser, DelUser, AddObj, DelObj, AddGroup, DelGroup, AddMember, DelMember, AddAuth, DelAuth, Validate}
use Rattle.edit_frame.specs.declared.numbers.TheConstants.{PLAIN_VERSION, INSERT_KIND, DELETE_KIND, UPDATE_KIND, EVERYTHING, SPAN, ELEMENTS, ELEMENTS_BY, EVERYONE, GROUPS_ABOVE, ALLOWING, INSERT_WORTH, DELETE_WORTH, UPDATE_WORTH, ALL_RIGHTS}
use Rattle.edit_frame.specs.declared.numbers.TheConstants.{ADD_USER, DEL_USER, ADD_OBJECT, DEL_OBJECT, ADD_AUTH, DEL_AUTH, VALIDATE, ADD_GROUP, DEL_GROUP, ADD_MEMBER, DEL_MEMBER}
use Rattle.edit_frame.specs.Spelling.{is_one_char}
use lib.Utf8.{scalar}

-- a field that was read: a value, and the bytes after it
abbrev pub Field : Type 0 → Type 0
Field A = Option (A × List ℕ)

-- how a field is read
abbrev pub Reader : Type 0 → Type 0
Reader A = List ℕ → Field A

-- ---- readers made of readers

-- a value that has no bytes
abbrev pub constant : {A : Type 0} → A → Reader A
constant x bytes = Some (x, bytes)

-- another value in its place
abbrev pub as_value : {A B : Type 0} → (A → B) → Reader A → Reader B
as_value f at bytes = at bytes >>= λ x. Some (f x.0, x.1)

-- one field, and the next
abbrev pub both : {A B : Type 0} → Reader A → Reader B → Reader (A × B)
both at next bytes = at bytes >>= λ x. next x.1 >>= λ y. Some ((x.0, y.0), y.1)

-- one field that says how the next is read
abbrev pub then_by : {A B : Type 0} → Reader A → (A → Reader B) → Reader B
then_by at next bytes = at bytes >>= λ x. next x.0 x.1

-- a field whose value passes a test
abbrev pub when_passes : {A : Type 0} → (A → Bool) → Reader A → Reader A
when_passes test at bytes = at bytes >>= λ x. when (test x.0) x

-- the row of a number
abbrev pub choose : {A : Type 0} → ℕ → List (ℕ × Reader A) → Reader A
choose n [] bytes = None
choose n (row ∷ rows) bytes = if n == row.0 then row.1 bytes else choose n rows bytes

-- so many items
unfoldable pub items_at : {A : Type 0} → Reader A → ℕ → Reader (List A)
items_at item zero bytes = Some ([], bytes)
items_at item (suc n) bytes = item bytes >>= λ x. items_at item n x.1 >>= λ xs. Some (x.0 ∷ xs.0, xs.1)

-- ---- numbers and names

-- a number of so many bytes, the highest first
abbrev pub big_endian_at : Width → Reader ℕ
big_endian_at w bytes = when (nat_le (byte_len w) (length bytes)) (from_be_bytes w (take (byte_len w) bytes), drop (byte_len w) bytes)

-- one byte
unfoldable pub byte_at : Reader ℕ
byte_at [] = None
byte_at (b ∷ bytes) = Some (b, bytes)

-- two bytes
unfoldable pub short_at : Reader ℕ
short_at bytes = big_endian_at w16 bytes

-- the stamp above the lower 16 bits, and the site in them
abbrev pub name_of_number : ℕ → Name
name_of_number n = record { stamp = n / 2 ^ 16; site = n % 2 ^ 16 }

-- eight bytes that are a name: with stamp 0 only eight zero bytes are one
unfoldable pub name_at : Reader Name
name_at bytes = when_passes is_name (as_value name_of_number (big_endian_at w64)) bytes

-- ---- lists

-- so many numbers, which are a list of them
unfoldable pub numbers_at : ℕ → Reader (List ℕ)
numbers_at count bytes = when_passes is_num_list (items_at short_at count) bytes

-- so many names, which are a list of them
unfoldable pub names_at : ℕ → Reader (List Name)
names_at count bytes = when_passes is_name_list (items_at name_at count) bytes

-- ---- the parts of an operation

-- an extent of this kind
unfoldable pub extent_by : ℕ → Reader Extent
extent_by kind bytes = choose kind (
    (EVERYTHING, constant extents.All)
    ∷ (SPAN, as_value (λ x. extents.Span x.0 x.1) (both name_at name_at))
    ∷ (ELEMENTS, as_value extents.Elems (then_by byte_at names_at))
    ∷ (ELEMENTS_BY, as_value extents.By short_at)
    ∷ []) bytes

-- a kind, and its extent
unfoldable pub extent_at : Reader Extent
extent_at bytes = then_by byte_at extent_by bytes

-- the users of a count: of 0 everyone, up to GROUPS_ABOVE so many users, and above it so many groups as it is above
unfoldable pub user_set_by : ℕ → Reader UserSet
user_set_by count bytes =
    if count == EVERYONE then constant users.All bytes
    else if nat_le count GROUPS_ABOVE then as_value users.Listed (numbers_at count) bytes
    else as_value users.Groups (numbers_at (count - GROUPS_ABOVE)) bytes

-- a count, and its users
unfoldable pub user_set_at : Reader UserSet
user_set_at bytes = then_by byte_at user_set_by bytes

-- whether it allows: 1 does and 0 doesn't
unfoldable pub sign_at : Reader Bool
sign_at bytes = as_value (λ n. n == ALLOWING) (when_passes (λ n. nat_le n ALLOWING) byte_at) bytes

-- the bit of this worth is set
abbrev pub has_bit : ℕ → ℕ → Bool
has_bit worth n = (n / worth) % 2 == 1

-- the rights of a sum of their worths
abbrev pub rights_of_byte : ℕ → Rights
rights_of_byte n = record { insert = has_bit INSERT_WORTH n; delete = has_bit DELETE_WORTH n; update = has_bit UPDATE_WORTH n }

-- at least one right
unfoldable pub rights_at : Reader Rights
rights_at bytes = as_value rights_of_byte (when_passes (λ n. nat_lt 0 n && nat_le n ALL_RIGHTS) byte_at) bytes

-- a count, and so many numbers of objects
unfoldable pub objects_at : Reader (List ℕ)
objects_at bytes = then_by byte_at numbers_at bytes

-- the authorization of a sign, rights, users and objects
abbrev pub auth_of : Bool × (Rights × (UserSet × List ℕ)) → Auth
auth_of x = record { users = x.1.1.0; rights = x.1.0; objects = x.1.1.1; grant = x.0 }

-- a sign, rights, users and objects
unfoldable pub auth_at : Reader Auth
auth_at bytes = as_value auth_of (both sign_at (both rights_at (both user_set_at objects_at))) bytes

-- the fields of each operation, by its number
abbrev pub operation_rows : List (ℕ × Reader AdminOp)
operation_rows =
    (ADD_USER, as_value AddUser short_at)
    ∷ (DEL_USER, as_value DelUser short_at)
    ∷ (ADD_OBJECT, as_value (λ x. AddObj x.0 x.1) (both short_at extent_at))
    ∷ (DEL_OBJECT, as_value DelObj short_at)
    ∷ (ADD_AUTH, as_value (λ x. AddAuth x.0 x.1) (both short_at auth_at))
    ∷ (DEL_AUTH, as_value DelAuth short_at)
    ∷ (VALIDATE, as_value Validate name_at)
    ∷ (ADD_GROUP, as_value AddGroup short_at)
    ∷ (DEL_GROUP, as_value DelGroup short_at)
    ∷ (ADD_MEMBER, as_value (λ x. AddMember x.0 x.1) (both short_at short_at))
    ∷ (DEL_MEMBER, as_value (λ x. DelMember x.0 x.1) (both short_at short_at))
    ∷ []

-- the fields of the operation of this number
unfoldable pub operation_by : ℕ → Reader AdminOp
operation_by number bytes = choose number operation_rows bytes

-- a number, and the fields of its operation
unfoldable pub operation_at : Reader AdminOp
operation_at bytes = then_by byte_at operation_by bytes

-- the operation has lists: it is an authorization, or an object of listed elements
abbrev pub has_lists : List ℕ → Bool
has_lists bytes = (slice_index bytes 0 == ADD_AUTH) || ((slice_index bytes 0 == ADD_OBJECT) && (slice_index bytes 3 == ELEMENTS))

-- ---- pieces and edits

-- four bytes that are a scalar value, as the piece of it alone
unfoldable pub char_at : Reader (List ℕ)
char_at bytes = as_value encode_utf8 (when_passes scalar (big_endian_at w32)) bytes

-- so many bytes
unfoldable pub bytes_at : ℕ → Reader (List ℕ)
bytes_at n bytes = when (nat_le n (length bytes)) (take n bytes, drop n bytes)

-- a piece of more than one scalar value
unfoldable pub is_long_piece : List ℕ → Bool
is_long_piece piece = is_piece piece && not (is_one_char piece)

-- a count, and the bytes of a long piece
unfoldable pub long_piece_at : Reader (List ℕ)
long_piece_at bytes = when_passes is_long_piece (then_by byte_at bytes_at) bytes

-- the piece in a frame of this version
unfoldable pub letter_at : ℕ → Reader (List ℕ)
letter_at version bytes = if version == PLAIN_VERSION then char_at bytes else long_piece_at bytes

-- the edit in a frame of this version and kind
unfoldable pub edit_at : ℕ → ℕ → Reader Edit
edit_at version kind bytes = choose kind (
    (INSERT_KIND, as_value (λ x. Insert x.0 x.1) (both name_at (letter_at version)))
    ∷ (DELETE_KIND, as_value Delete name_at)
    ∷ (UPDATE_KIND, as_value (λ x. Update x.0 x.1) (both name_at (letter_at version)))
    ∷ []) bytes
