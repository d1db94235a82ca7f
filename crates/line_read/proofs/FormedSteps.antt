-- What is read is well formed: numbers, sets, operations, messages and steps.
use Rattle.std.proofs.Common.{◌≡◌, ℕ, ◌+◌, ◌^◌, Bool, true, false, ◌&&◌, ◌||◌, List, [], ◌∷◌, take, drop, refl, arith}
use Rattle.std.specs.Prelude.{nat_le, map, position, is_none, ◌==◌}
use Rattle.std.proofs.lemmas.Bool.{and_from, lt-ltb, leb-true}
use Rattle.element_name.specs.declared.limits.TheConstants.{MAX_STAMP}
use Rattle.element_name.specs.Name.{Name, is_in_range}
use Rattle.coop_request.specs.declared.edit.Edit.TheVariants as edits
use Rattle.coop_request.specs.Piece.{is_piece}
use Rattle.coop_request.specs.Request.{Request, request_fault}
use Rattle.policy_book.specs.Lists.{is_short, is_name, is_num_list, is_name_list}
use Rattle.policy_book.specs.Rights.{has_any}
use Rattle.policy_book.specs.declared.auth.Extent.TheVariants as extents
use Rattle.policy_book.specs.declared.auth.UserSet.TheVariants as users
use Rattle.policy_book.specs.declared.op.AdminOp.TheVariants.{AddUser, DelUser, AddObj, DelObj, AddGroup, DelGroup, AddMember, DelMember, AddAuth, DelAuth, Validate}
use Rattle.policy_book.specs.Operation.{is_extent, is_user_set, is_operation}
use Rattle.policy_book.specs.Entry.{is_entry_version}
use Rattle.edit_message.specs.declared.message.Message.TheVariants.{Coop, Admin}
use Rattle.edit_message.specs.Formed.{is_edit, is_message}
use Rattle.peer_step.specs.declared.step.LocalEdit.TheVariants.{Insert, Delete, Update}
use Rattle.peer_step.specs.declared.step.Step.TheVariants.{Edit as edit_step, Administer, Receive, ValidateNext, Look, Settle, Show}
use Rattle.peer_step.specs.Formed.{is_local_edit, is_step}
use Rattle.line_spelling.specs.declared.signs.TheConstants.{COMMA, POINT}
use Rattle.line_read.specs.declared.numbers.TheConstants.{MAX_SHORT}
use Rattle.line_read.specs.Words.{is_line, words, parts, each_some, are_none}
use Rattle.line_read.specs.Numbers.{read_number, read_short, read_wide, read_name, one_short, two_shorts, one_wide, one_name, two_names}
use Rattle.line_read.specs.Pieces.{unescaped_bytes, read_piece}
use Rattle.line_read.specs.Sets.{read_numbers, read_names, read_listed, read_users, rights_of, read_rights}
use Rattle.line_read.specs.Operation.{one_name_list, read_extent, read_object, read_auth, read_rule, read_operation_by, read_operation}
use Rattle.line_read.specs.Message.{name_and_piece, read_edit, read_request, read_entry, read_message}
use Rattle.line_read.specs.Step.{place_and_piece, read_local_edit, read_plain, read_step}
use Rattle.line_read.specs.Laws.{FormedStepLaw}
use Rattle.line_read.proofs.Passing.{Passes, none, some, where_, tested, allowed, either, then, mapped, both, alone, pair}

-- ---- numbers, names and pieces

-- a number is at most its limit
pub number_low : (limit : ℕ) (word : List ℕ) → Passes (λ n. nat_le n limit) (read_number limit word)
unfolding read_number
number_low limit word = tested (λ n. nat_le n limit) _

-- a number of at most 16 bits is below 65,536
short_from : (n : ℕ) → nat_le n MAX_SHORT ≡ true → is_short n ≡ true
short_from n h = lt-ltb n (2 ^ 16) (let low = leb-true n MAX_SHORT h in omega (arith, low))

-- U, OBJECT, PLACE and G are numbers of 16 bits
short : (word : List ℕ) → Passes is_short (read_short word)
short word n e = short_from n (number_low MAX_SHORT word n e)

-- NAME is in its ranges
name : (word : List ℕ) → Passes is_name (read_name word)
unfolding read_name
name word =
    then is_name (position (λ b. b == POINT) word) _ (λ point at. then is_name (read_number MAX_STAMP (take point word)) _ (λ stamp is_stamp. then is_name _ _ (λ site is_site.
    where_ is_name (is_in_range stamp site) (record { stamp = stamp; site = site })
    (λ h. and_from (is_in_range stamp site) (is_short site) h (short (drop (point + 1) word) site is_site)))))

-- LETTER is a piece
piece : (word : List ℕ) → Passes is_piece (read_piece word)
unfolding read_piece
piece word = tested is_piece (unescaped_bytes false word)

-- one argument, a number of 16 bits
a_short : (args : List (List ℕ)) → Passes is_short (one_short args)
a_short = alone is_short read_short short

-- two arguments, numbers of 16 bits
shorts : (args : List (List ℕ)) → Passes (both is_short is_short) (two_shorts args)
shorts = pair is_short is_short read_short read_short short short

-- one argument, a name
a_name : (args : List (List ℕ)) → Passes is_name (one_name args)
a_name = alone is_name read_name name

-- two arguments, names
names : (args : List (List ℕ)) → Passes (both is_name is_name) (two_names args)
names = pair is_name is_name read_name read_name name name

-- ---- lists, users and rights

-- OBJECTS is a list of numbers
number_list : (word : List ℕ) → Passes is_num_list (read_numbers word)
unfolding read_numbers
number_list word = tested is_num_list (each_some (map read_short (parts COMMA word)))

-- NAMES is a list of names
name_list : (word : List ℕ) → Passes is_name_list (read_names word)
unfolding read_names
name_list word = tested is_name_list (each_some (map read_name (parts COMMA word)))

-- numbers of users, or of groups behind `@`, are a set of users
listed : (word : List ℕ) → Passes is_user_set (read_listed word)
listed [] = none is_user_set
listed (b ∷ bs) =
    either is_user_set _ _ _ (mapped is_user_set users.Groups (read_numbers bs) (number_list bs)) (mapped is_user_set users.Listed (read_numbers (b ∷ bs)) (number_list (b ∷ bs)))

-- USERS is a set of users
user_set : (word : List ℕ) → Passes is_user_set (read_users word)
unfolding read_users
user_set word = either is_user_set _ _ _ (some is_user_set users.All refl) (listed word)

-- three letters of which one is there are rights
some_rights : (insert delete update : Bool) → (insert || (delete || update)) ≡ true → Passes has_any (rights_of insert delete update)
some_rights insert delete update h = some has_any (record { insert = insert; delete = delete; update = update }) h

-- RIGHTS has at least one right
rights : (word : List ℕ) → Passes has_any (read_rights word)
unfolding read_rights
rights word =
    either has_any _ _ _ (some_rights true false false refl)
    (either has_any _ _ _ (some_rights false true false refl)
    (either has_any _ _ _ (some_rights false false true refl)
    (either has_any _ _ _ (some_rights true true false refl)
    (either has_any _ _ _ (some_rights true false true refl)
    (either has_any _ _ _ (some_rights false true true refl)
    (either has_any _ _ _ (some_rights true true true refl) (none has_any)))))))

-- ---- operations

-- one argument, a list of names
a_name_list : (args : List (List ℕ)) → Passes is_name_list (one_name_list args)
a_name_list = alone is_name_list read_names name_list

-- an extent is in its ranges
extent : (word : List ℕ) (args : List (List ℕ)) → Passes is_extent (read_extent word args)
unfolding read_extent
extent word args =
    either is_extent _ _ _ (where_ is_extent (are_none args) extents.All (λ h. refl))
    (either is_extent _ _ _ (mapped is_extent (λ (ends : Name × Name). extents.Span ends.0 ends.1) (two_names args) (names args))
    (either is_extent _ _ _ (mapped is_extent extents.Elems (one_name_list args) (a_name_list args))
    (either is_extent _ _ _ (mapped is_extent extents.By (one_short args) (a_short args)) (none is_extent))))

-- so is an object with its extent
object : (args : List (List ℕ)) → Passes is_operation (read_object args)
unfolding read_object
object (number ∷ word ∷ args) =
    then is_operation _ _ (λ n is_n. then is_operation _ _ (λ e is_e.
    some is_operation (AddObj n e) (and_from (is_short n) (is_extent e) (short number n is_n) (extent word args e is_e))))
object args = none is_operation

-- so is an authorization at its place
auth : (args : List (List ℕ)) → Passes is_operation (read_auth args)
unfolding read_auth
auth (place ∷ sign ∷ whom ∷ what ∷ objects ∷ []) =
    then is_operation _ _ (λ at is_at. then is_operation _ _ (λ grant is_grant. then is_operation _ _ (λ r is_r. then is_operation _ _ (λ u is_u. then is_operation _ _ (λ o is_o.
    some is_operation (AddAuth at (record { users = u; rights = r; objects = o; grant = grant }))
    (and_from (is_short at) (is_user_set u && (has_any r && is_num_list o)) (short place at is_at)
    (and_from (is_user_set u) (has_any r && is_num_list o) (user_set whom u is_u)
    (and_from (has_any r) (is_num_list o) (rights what r is_r) (number_list objects o is_o)))))))))
auth args = none is_operation

-- so is an operation on objects or authorizations, or a validation
rule : (word : List ℕ) (args : List (List ℕ)) → Passes is_operation (read_rule word args)
unfolding read_rule
rule word args =
    either is_operation _ _ _ (object args)
    (either is_operation _ _ _ (mapped is_operation DelObj (one_short args) (a_short args))
    (either is_operation _ _ _ (auth args)
    (either is_operation _ _ _ (mapped is_operation DelAuth (one_short args) (a_short args))
    (either is_operation _ _ _ (mapped is_operation Validate (one_name args) (a_name args)) (none is_operation)))))

-- so is an operation, by its first word
operation_by : (word : List ℕ) (args : List (List ℕ)) → Passes is_operation (read_operation_by word args)
unfolding read_operation_by
operation_by word args =
    either is_operation _ _ _ (mapped is_operation AddUser (one_short args) (a_short args))
    (either is_operation _ _ _ (mapped is_operation DelUser (one_short args) (a_short args))
    (either is_operation _ _ _ (mapped is_operation AddGroup (one_short args) (a_short args))
    (either is_operation _ _ _ (mapped is_operation DelGroup (one_short args) (a_short args))
    (either is_operation _ _ _ (mapped is_operation (λ (pair : ℕ × ℕ). AddMember pair.0 pair.1) (two_shorts args) (shorts args))
    (either is_operation _ _ _ (mapped is_operation (λ (pair : ℕ × ℕ). DelMember pair.0 pair.1) (two_shorts args) (shorts args)) (rule word args))))))

-- OP is in its ranges
pub operation : (args : List (List ℕ)) → Passes is_operation (read_operation args)
unfolding read_operation
operation [] = none is_operation
operation (word ∷ args) = operation_by word args

-- ---- messages

-- two arguments, a name and a piece
named_piece : (args : List (List ℕ)) → Passes (both is_name is_piece) (name_and_piece args)
named_piece = pair is_name is_piece read_name read_piece name piece

-- the edit of a request is in its ranges
edit : (word : List ℕ) (args : List (List ℕ)) → Passes is_edit (read_edit word args)
unfolding read_edit
edit word args =
    either is_edit _ _ _ (mapped is_edit (λ (pair : Name × List ℕ). edits.Insert pair.0 pair.1) (name_and_piece args) (named_piece args))
    (either is_edit _ _ _ (mapped is_edit edits.Delete (one_name args) (a_name args))
    (either is_edit _ _ _ (mapped is_edit (λ (pair : Name × List ℕ). edits.Update pair.0 pair.1) (name_and_piece args) (named_piece args)) (none is_edit)))

-- a request is well formed
request : (args : List (List ℕ)) → Passes is_message (read_request args)
unfolding read_request
request (a ∷ number ∷ word ∷ args) =
    then is_message _ _ (λ id is_id. then is_message _ _ (λ version is_version. then is_message _ _ (λ e is_e.
    let q : Request = record { id = id; version = version; edit = e } in
    where_ is_message (is_none (request_fault q)) (Coop q) (λ h.
    and_from (is_name id) (is_edit e && is_none (request_fault q)) (name a id is_id)
    (and_from (is_edit e) (is_none (request_fault q)) (edit word args e is_e) h)))))
request args = none is_message

-- so is an entry
entry : (args : List (List ℕ)) → Passes is_message (read_entry args)
unfolding read_entry
entry [] = none is_message
entry (number ∷ args) =
    then is_message _ _ (λ version is_version. then is_message _ _ (λ op is_op.
    where_ is_message (is_entry_version version) (Admin (record { version = version; op = op }))
    (λ h. and_from (is_entry_version version) (is_operation op) h (operation args op is_op))))

-- MESSAGE is well formed
pub message : (args : List (List ℕ)) → Passes is_message (read_message args)
unfolding read_message
message [] = none is_message
message (word ∷ args) = either is_message _ _ _ (request args) (either is_message _ _ _ (entry args) (none is_message))

-- ---- steps

-- two arguments, a place and a piece
placed_piece : (args : List (List ℕ)) → Passes (both (λ at. true) is_piece) (place_and_piece args)
placed_piece = pair (λ at. true) is_piece read_wide read_piece (λ word at is_at. refl) piece

-- an edit at a place brings a piece
pub local_edit : (args : List (List ℕ)) → Passes is_local_edit (read_local_edit args)
unfolding read_local_edit
local_edit [] = none is_local_edit
local_edit (word ∷ args) =
    either is_local_edit _ _ _ (mapped is_local_edit (λ (pair : ℕ × List ℕ). Insert pair.0 pair.1) (place_and_piece args) (placed_piece args))
    (either is_local_edit _ _ _ (mapped is_local_edit Delete (one_wide args) (λ at is_at. refl))
    (either is_local_edit _ _ _ (mapped is_local_edit (λ (pair : ℕ × List ℕ). Update pair.0 pair.1) (place_and_piece args) (placed_piece args)) (none is_local_edit)))

-- a step that is one word is well formed
plain : (word : List ℕ) → Passes is_step (read_plain word)
unfolding read_plain
plain word =
    either is_step _ _ _ (some is_step Show refl)
    (either is_step _ _ _ (some is_step Settle refl)
    (either is_step _ _ _ (some is_step ValidateNext refl) (none is_step)))

-- so is every step
any_step : (args : List (List ℕ)) → Passes is_step (read_step args)
unfolding read_step
any_step [] = none is_step
any_step (word ∷ args) =
    either is_step _ _ _ (mapped is_step edit_step (read_local_edit args) (local_edit args))
    (either is_step _ _ _ (mapped is_step Look (one_wide args) (λ at is_at. refl))
    (either is_step _ _ _ (mapped is_step Receive (read_message args) (message args))
    (either is_step _ _ _ (mapped is_step Administer (read_operation args) (operation args)) (allowed is_step (are_none args) _ (plain word)))))

pub formed_step_law : FormedStepLaw
formed_step_law bytes = allowed is_step (is_line bytes) _ (any_step (words bytes))
