-- How names, pieces, texts, lists and sets are written.
use Rattle.std.specs.Prelude.{ℕ, List, [], ◌∷◌, ◌++◌, map, ◌==◌, decimal, codes, flat_map, if◌then◌else◌}
use Rattle.element_name.specs.Name.{Name}
use Rattle.policy_book.specs.Rights.{Rights}
use Rattle.policy_book.specs.declared.auth.UserSet.{UserSet}
use Rattle.policy_book.specs.declared.auth.UserSet.TheVariants.{All, Listed, Groups}
use Rattle.line_spelling.specs.declared.signs.TheConstants.{LINE_END, SPACE, COMMA, POINT, GROUP_SIGN, BACKSLASH, LINE_END_LETTER, SPACE_LETTER}

-- each part behind a byte
abbrev pub each_behind : ℕ → List (List ℕ) → List ℕ
each_behind byte parts = flat_map (λ part. byte ∷ part) parts

-- each word behind a space
abbrev pub behind_spaces : List (List ℕ) → List ℕ
behind_spaces words = each_behind SPACE words

-- each part behind a comma
abbrev pub behind_commas : List (List ℕ) → List ℕ
behind_commas parts = each_behind COMMA parts

-- the parts with a byte between each two
abbrev pub joined_by : ℕ → List (List ℕ) → List ℕ
joined_by byte [] = []
joined_by byte (part ∷ parts) = part ++ each_behind byte parts

-- words with a space between each two
abbrev pub spaced : List (List ℕ) → List ℕ
spaced words = joined_by SPACE words

-- parts with a comma between each two
abbrev pub comma_joined : List (List ℕ) → List ℕ
comma_joined parts = joined_by COMMA parts

abbrev pub name_text : Name → List ℕ
name_text n = decimal n.stamp ++ POINT ∷ decimal n.site

-- a byte of a text: a line end is `\n`, a backslash `\\`, and every other byte itself
abbrev pub text_byte : ℕ → List ℕ
text_byte b = if b == LINE_END then BACKSLASH ∷ LINE_END_LETTER ∷ [] else (if b == BACKSLASH then BACKSLASH ∷ BACKSLASH ∷ [] else b ∷ [])

-- a byte of a piece: a space is `\s`, and every other byte as in a text
abbrev pub piece_byte : ℕ → List ℕ
piece_byte b = if b == SPACE then BACKSLASH ∷ SPACE_LETTER ∷ [] else text_byte b

abbrev pub text_text : List ℕ → List ℕ
text_text bytes = flat_map text_byte bytes

abbrev pub piece_text : List ℕ → List ℕ
piece_text piece = flat_map piece_byte piece

abbrev pub numbers_text : List ℕ → List ℕ
numbers_text numbers = comma_joined (map decimal numbers)

abbrev pub names_text : List Name → List ℕ
names_text names = comma_joined (map name_text names)

abbrev pub users_text : UserSet → List ℕ
users_text All = codes "all"
users_text (Listed users) = numbers_text users
users_text (Groups groups) = GROUP_SIGN ∷ numbers_text groups

-- the letters of the rights that are held
abbrev pub rights_text : Rights → List ℕ
rights_text r = (if r.insert then codes "i" else []) ++ ((if r.delete then codes "d" else []) ++ (if r.update then codes "u" else []))
