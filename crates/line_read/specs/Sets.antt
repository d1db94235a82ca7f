-- Lists of numbers and names, users, rights and signs, as words.
use Rattle.std.specs.Prelude.{ℕ, Bool, true, false, List, [], ◌∷◌, map, Option, Some, None, ◌==◌, option_map, codes, if◌then◌else◌}
use Rattle.std.specs.Str.{bytes_eq}
use Rattle.element_name.specs.Cases.{when, ◌>>=◌}
use Rattle.element_name.specs.Name.{Name}
use Rattle.policy_book.specs.Lists.{is_num_list, is_name_list}
use Rattle.policy_book.specs.Rights.{Rights}
use Rattle.policy_book.specs.declared.auth.UserSet.{UserSet}
use Rattle.policy_book.specs.declared.auth.UserSet.TheVariants.{All, Listed, Groups}
use Rattle.line_spelling.specs.declared.signs.TheConstants.{COMMA, GROUP_SIGN}
use Rattle.line_read.specs.Words.{parts, each_some, beside}
use Rattle.line_read.specs.Numbers.{read_short, read_name}

-- OBJECTS: 1 to 16 numbers, strictly ascending, joined by `,`
unfoldable pub read_numbers : List ℕ → Option (List ℕ)
read_numbers word = do
  numbers ← each_some (map read_short (parts COMMA word))
  when (is_num_list numbers) numbers

-- NAMES: 1 to 32 names, strictly ascending, joined by `,`
unfoldable pub read_names : List ℕ → Option (List Name)
read_names word = do
  names ← each_some (map read_name (parts COMMA word))
  when (is_name_list names) names

-- numbers of users, or of groups behind `@`
abbrev pub read_listed : List ℕ → Option UserSet
read_listed [] = None
read_listed (b ∷ bs) = if b == GROUP_SIGN then option_map Groups (read_numbers bs) else option_map Listed (read_numbers (b ∷ bs))

-- USERS: `all`, numbers of users, or `@` and numbers of groups
unfoldable pub read_users : List ℕ → Option UserSet
read_users word = if bytes_eq word (codes "all") then Some All else read_listed word

abbrev pub rights_of : Bool → Bool → Bool → Option Rights
rights_of insert delete update = Some (record { insert = insert; delete = delete; update = update })

-- RIGHTS: one to three of the letters `i`, `d`, `u`, each once, in this order
unfoldable pub read_rights : List ℕ → Option Rights
read_rights word = beside word (
    (codes "i", rights_of true false false)
    ∷ (codes "d", rights_of false true false)
    ∷ (codes "u", rights_of false false true)
    ∷ (codes "id", rights_of true true false)
    ∷ (codes "iu", rights_of true false true)
    ∷ (codes "du", rights_of false true true)
    ∷ (codes "idu", rights_of true true true)
    ∷ [])
    None

-- SIGN: whether it grants
unfoldable pub read_sign : List ℕ → Option Bool
read_sign word = beside word ((codes "+", Some true) ∷ (codes "-", Some false) ∷ []) None
