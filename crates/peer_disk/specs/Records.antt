-- What a file of records is, and what bodies it has.
use Rattle.std.specs.Prelude.{◌≡◌, ◌⊎◌, ⊤, ℕ, suc, ◌+◌, ◌-◌, ◌<◌, ◌^◌, List, [], ◌∷◌, ◌++◌, length, take, drop, map, All, Option, Some, Vec, IfSome, IsSomeAnd, ◌≤◌}
use Rattle.std.specs.Int.{w16, to_be_bytes, from_be_bytes}
use Rattle.peer_disk.specs.Disk.{Torn, Only}
use Rattle.peer_disk.specs.declared.layout.TheConstants.{FIRST_BYTE, FIRST_GATE, OPEN, CLOSED, BESIDE_BODY}
use mathlib.Core.Logic.{◌≢◌}

-- the file's first bytes: the site behind one that is the same in each
abbrev pub file_head : ℕ → List ℕ
file_head site = FIRST_BYTE ∷ to_be_bytes w16 site

-- a file begins as one of this site
abbrev pub HasHead : ℕ → List ℕ → Type 0
HasHead site file = take FIRST_GATE file ≡ file_head site

-- a record: an open gate, the length of its body, and the body
abbrev pub record_of : List ℕ → List ℕ
record_of body = OPEN ∷ to_be_bytes w16 (length body) ++ body

-- the records of these bodies
abbrev pub records : List (List ℕ) → List ℕ
records [] = []
records (body ∷ bodies) = record_of body ++ records bodies

-- the place of the gate behind the records of these bodies
abbrev pub gate_place : List (List ℕ) → ℕ
gate_place bodies = FIRST_GATE + length (records bodies)

-- what is written behind a gate for a body: its length, the body, and the next gate, closed
abbrev pub behind_gate_of : List ℕ → List ℕ
behind_gate_of body = to_be_bytes w16 (length body) ++ body ++ CLOSED ∷ []

-- the body in it: all but the length and the gate
abbrev pub body_behind : List ℕ → List ℕ
body_behind bytes = take (length bytes - BESIDE_BODY) (drop 2 bytes)

-- a body's length goes into two bytes
abbrev pub FitsRecord : List ℕ → Type 0
FitsRecord body = length body < 2 ^ 16

-- the bytes are written behind the gate of a body
abbrev pub IsBehindGate : List ℕ → Type 0
IsBehindGate bytes = FitsRecord (body_behind bytes) × (bytes ≡ behind_gate_of (body_behind bytes))

-- bytes are written behind a gate for these bodies: behind an open one they are the records, and then a closed gate
pub record AreBehindGate (bodies : List (List ℕ)) (bytes : List ℕ) : Type 0 where
  pub short : All FitsRecord bodies
  pub bytes_are : OPEN ∷ bytes ≡ records bodies ++ CLOSED ∷ []

-- the bodies of at most so many whole records that bytes begin with, whatever stands at their gates
abbrev pub bodies_in : ℕ → List ℕ → List (List ℕ)
bodies_in (suc most) (gate ∷ high ∷ low ∷ rest) =
    take (from_be_bytes w16 (high ∷ low ∷ [])) rest ∷ bodies_in most (drop (from_be_bytes w16 (high ∷ low ∷ [])) rest)
bodies_in most bytes = []

-- all of them
abbrev pub bodies_of : List ℕ → List (List ℕ)
bodies_of bytes = bodies_in (length bytes) bytes

-- bytes are records, and then a closed gate
pub record AreClosedRecords (bytes : List ℕ) : Type 0 where
  pub short : All FitsRecord (bodies_of bytes)
  pub bytes_are : bytes ≡ records (bodies_of bytes) ++ CLOSED ∷ []

-- a file of this site has these bodies: its head, a record of each, then a closed gate, and any bytes
pub record HasBodies (site : ℕ) (bodies : List (List ℕ)) (file : List ℕ) : Type 0 where
  pub gate : ℕ
  pub rest : List ℕ
  pub closed : gate ≢ OPEN
  pub short : All FitsRecord bodies
  pub bytes : file ≡ file_head site ++ records bodies ++ gate ∷ rest

-- these bytes begin with no gate, or with an open one whose record isn't whole
abbrev pub IsNoRecord : List ℕ → Type 0
IsNoRecord [] = ⊤
IsNoRecord (gate ∷ []) = gate ≡ OPEN
IsNoRecord (gate ∷ high ∷ []) = gate ≡ OPEN
IsNoRecord (gate ∷ high ∷ low ∷ rest) = (gate ≡ OPEN) × (length rest < from_be_bytes w16 (high ∷ low ∷ []))

-- these bytes begin with a gate that isn't open
abbrev pub IsClosedGate : List ℕ → Type 0
IsClosedGate [] = ⊥
IsClosedGate (gate ∷ rest) = gate ≢ OPEN

-- a file of this site has these bodies, and behind their records no gate, or an open one whose record isn't whole
pub record BreaksAfter (site : ℕ) (bodies : List (List ℕ)) (file : List ℕ) : Type 0 where
  pub rest : List ℕ
  pub broken : IsNoRecord rest
  pub short : All FitsRecord bodies
  pub bytes : file ≡ file_head site ++ records bodies ++ rest

-- a disk tells a file that has these bodies, all of it on the disk, and its last gate stands at this place
pub record Keeps (site : ℕ) (bodies : List (List ℕ)) (place : ℕ) (seen : Option (List ℕ)) (may_leave : List ℕ → Type 0) : Type 0 where
  pub file : List ℕ
  pub told : seen ≡ Some file
  pub has : HasBodies site bodies file
  pub durable : Only file may_leave
  pub place_is : place ≡ gate_place bodies

-- a file has these bodies, with one more or without it
abbrev pub IsBeforeOrAfter : ℕ → List (List ℕ) → List ℕ → List ℕ → Type 0
IsBeforeOrAfter site bodies body file = HasBodies site bodies file ⊎ HasBodies site (bodies ++ body ∷ []) file

-- a file has these bodies, with all of some more or without them
abbrev pub IsBeforeOrAll : ℕ → List (List ℕ) → List (List ℕ) → List ℕ → Type 0
IsBeforeOrAll site bodies more file = HasBodies site bodies file ⊎ HasBodies site (bodies ++ more) file

-- a file has no bodies, if it is a file of this site at all
abbrev pub HasNoneIfAny : ℕ → List ℕ → Type 0
HasNoneIfAny site file = (bodies : List (List ℕ)) → HasBodies site bodies file → bodies ≡ []

-- a crash leaves what it might have left before, or that with a write of n bytes from a place on cut short
abbrev pub TornSince : (List ℕ → Type 0) → ℕ → ℕ → List ℕ → Type 0
TornSince before from n left = (old : List ℕ) × before old × Torn from n old left

-- the bytes of each buffer
abbrev pub bytes_of_each : {A : Type 0} → List (Vec ℕ A) → List (List ℕ)
bytes_of_each buffers = map (λ buffer. buffer.items) buffers

-- where a file is told after a call, it was told before, and is no shorter
abbrev pub IsNoShorter : Option (List ℕ) → Option (List ℕ) → Type 0
IsNoShorter before now = IfSome now (λ new. IsSomeAnd before (λ old. length old ≤ length new))
