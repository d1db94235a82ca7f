-- OP: administrative operations, by the words that they are written in.
use Rattle.std.specs.Prelude.{ℕ, List, [], ◌∷◌, Option, Some, None, option_map, codes}
use Rattle.element_name.specs.Cases.{when, ◌>>=◌}
use Rattle.element_name.specs.Name.{Name}
use Rattle.policy_book.specs.declared.auth.Extent.{Extent}
use Rattle.policy_book.specs.declared.auth.Extent.TheVariants.{All, Span, Elems, By}
use Rattle.policy_book.specs.declared.op.AdminOp.{AdminOp}
use Rattle.policy_book.specs.declared.op.AdminOp.TheVariants.{AddUser, DelUser, AddObj, DelObj, AddGroup, DelGroup, AddMember, DelMember, AddAuth, DelAuth, Validate}
use Rattle.line_read.specs.Words.{beside, are_none, one_word}
use Rattle.line_read.specs.Numbers.{read_short, one_short, two_shorts, one_name, two_names}
use Rattle.line_read.specs.Sets.{read_numbers, read_names, read_users, read_rights, read_sign}

abbrev pub one_name_list : List (List ℕ) → Option (List Name)
one_name_list = one_word read_names

-- the extent of an object
unfoldable pub read_extent : List ℕ → List (List ℕ) → Option Extent
read_extent word args = beside word (
    (codes "all", when (are_none args) All)
    ∷ (codes "span", option_map (λ ends. Span ends.0 ends.1) (two_names args))
    ∷ (codes "elems", option_map Elems (one_name_list args))
    ∷ (codes "by", option_map By (one_short args))
    ∷ [])
    None

-- OBJECT and its extent
unfoldable pub read_object : List (List ℕ) → Option AdminOp
read_object (number ∷ word ∷ args) = do
  n ← read_short number
  extent ← read_extent word args
  Some (AddObj n extent)
read_object args = None

-- PLACE SIGN USERS RIGHTS OBJECTS
unfoldable pub read_auth : List (List ℕ) → Option AdminOp
read_auth (place ∷ sign ∷ users ∷ rights ∷ objects ∷ []) = do
  at ← read_short place
  grant ← read_sign sign
  what ← read_rights rights
  whom ← read_users users
  where_ ← read_numbers objects
  Some (AddAuth at (record { users = whom; rights = what; objects = where_; grant = grant }))
read_auth args = None

-- an operation on objects or authorizations, or a validation, by its first word and the others
unfoldable pub read_rule : List ℕ → List (List ℕ) → Option AdminOp
read_rule word args = beside word (
    (codes "addobj", read_object args)
    ∷ (codes "delobj", option_map DelObj (one_short args))
    ∷ (codes "addauth", read_auth args)
    ∷ (codes "delauth", option_map DelAuth (one_short args))
    ∷ (codes "validate", option_map Validate (one_name args))
    ∷ [])
    None

-- an operation by its first word and the others: on users, groups or members, or another one
unfoldable pub read_operation_by : List ℕ → List (List ℕ) → Option AdminOp
read_operation_by word args = beside word (
    (codes "adduser", option_map AddUser (one_short args))
    ∷ (codes "deluser", option_map DelUser (one_short args))
    ∷ (codes "addgroup", option_map AddGroup (one_short args))
    ∷ (codes "delgroup", option_map DelGroup (one_short args))
    ∷ (codes "addmember", option_map (λ pair. AddMember pair.0 pair.1) (two_shorts args))
    ∷ (codes "delmember", option_map (λ pair. DelMember pair.0 pair.1) (two_shorts args))
    ∷ [])
    (read_rule word args)

unfoldable pub read_operation : List (List ℕ) → Option AdminOp
read_operation (word ∷ args) = read_operation_by word args
read_operation [] = None
