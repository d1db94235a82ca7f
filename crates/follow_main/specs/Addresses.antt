-- How an address is taken apart.
use Rattle.std.specs.Prelude.{◌≡◌, ◌⊎◌, ℕ, List, [], ◌∷◌, ◌++◌, ◌==◌, length, take, drop, codes}
use Rattle.std.specs.List.{before_first, after_first}
use Rattle.std.specs.Str.Parse.{IsNumeral, digits_value, without_leading_plus}
use Rattle.follow_main.specs.declared.address.Address.{Address}
use Rattle.follow_main.specs.declared.address.Key.{Key}
use Rattle.follow_main.specs.declared.address.Key.TheVariants as keys

-- what of a text stands in front of the first of some byte, all where it isn't there; and what behind that, nothing where it isn't
abbrev pub before_byte : ℕ → List ℕ → List ℕ
before_byte byte text = before_first (λ b. b == byte) text

abbrev pub after_byte : ℕ → List ℕ → List ℕ
after_byte byte text = after_first (λ b. b == byte) text

-- these digits, maybe behind a plus, write a number
abbrev pub IsDecimal : List ℕ → ℕ → Type 0
IsDecimal digits n = IsNumeral 10 (without_leading_plus digits) × (n ≡ digits_value 10 (without_leading_plus digits))

-- a place is a host alone, whose port is 80 then; or stands in front of its last colon, without brackets around it, and the port's digits
-- behind that
abbrev pub IsPlace : List ℕ → List ℕ → ℕ → Type 0
IsPlace place host port = ((host ≡ place) × (port ≡ 80))
    ⊎ ((front : List ℕ) × (digits : List ℕ) × (place ≡ front ++ 58 ∷ digits) × IsDecimal digits port
    × ((opens : ℕ) × (host ≡ take (length host) (drop opens front))))

-- what stands behind the hash: nothing; a site, a dot and a device's secret; or the secret of an invitation
abbrev pub IsKey : List ℕ → Key → Type 0
IsKey words keys.None = words ≡ []
IsKey words (keys.Device site secret) = IsDecimal (before_byte 46 words) site × (secret.now ≡ after_byte 46 words)
IsKey words (keys.Invitation secret) = secret.now ≡ words

-- a text is `http://`, a place, a slash, a path, which may end with more slashes than are taken of it, a hash, and a key
pub record IsAddress (text : List ℕ) (address : Address) : Type 0 where
  pub rest : List ℕ
  pub begins : text ≡ codes "http://" ++ rest
  pub place : IsPlace (before_byte 47 (before_byte 35 rest)) address.host.now address.port
  pub path : address.path.now ≡ take (length address.path.now) (after_byte 47 (before_byte 35 rest))
  pub key : IsKey (after_byte 35 rest) address.key
