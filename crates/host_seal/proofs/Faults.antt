-- When a seal's fault is found.
use Rattle.std.proofs.Common.{◌≡◌, ℕ, ◌<◌, ◌≤◌, Bool, true, false, not, List, [], ◌∷◌, ◌++◌, length, take, Some, None, refl, sym, ap, ap₂, ◌∙◌, take-take, length-take, length-take-le, arith}
use Rattle.std.specs.Prelude.{Option, nat_lt, bytes_eq}
use Rattle.std.proofs.Math.Seq.{take-append_seam}
use Rattle.std.proofs.lemmas.Bool.{ltb-false, le-ltb, lt-ltb}
use Rattle.std.proofs.lemmas.Slice.Eq.{bytes_eq-Decides}
use Rattle.sha2.specs.Sha256.{sha256}
use Rattle.element_name.specs.Cases.{when, first_of}
use Rattle.edit_message.specs.declared.message.Message.{Message}
use Rattle.host_seal.specs.declared.seal.Seal.{Seal}
use Rattle.host_seal.specs.declared.seal.SealFault.{SealFault}
use Rattle.host_seal.specs.declared.seal.SealFault.TheVariants.{Fewer, Others}
use Rattle.host_seal.specs.Frames.{item_frames}
use Rattle.host_seal.specs.Seals.{seal_of, seal_fault, IsSealed}
use Rattle.host_seal.specs.Laws.{FaultLaw, GrowthLaw}

-- the first fault, by whether there are fewer messages, and whether their digest is that of the seal
abbrev pub fault_by : Bool → Bool → Option SealFault
fault_by fewer same = first_of (when fewer Fewer ∷ when (not same) Others ∷ [])

-- a seal by its parts
abbrev seal_by : ℕ → List ℕ → Seal
seal_by items digest = record { items = items; digest = digest }

-- whether the digest of a journal's first messages is that of a seal
abbrev pub has_digest : Seal → List Message → Bool
has_digest seal messages = bytes_eq (sha256 (item_frames messages)) seal.digest

-- where no fault is found there are enough messages, and their digest is that of the seal
faultless_parts : (fewer same : Bool) → fault_by fewer same ≡ None → (fewer ≡ false) × (same ≡ true)
faultless_parts true same h = absurd cc
faultless_parts false true h = (refl, refl)
faultless_parts false false h = absurd cc

-- a journal without a fault begins with messages of the seal
pub begins_sealed : (seal : Seal) (J : List Message) → seal_fault seal J ≡ None → IsSealed seal J
begins_sealed seal J none =
    let parts = faultless_parts (nat_lt (length J) seal.items) (has_digest seal (take seal.items J)) none in
    let enough = ltb-false (length J) seal.items parts.0 in
    let count = length-take-le seal.items J enough in
    let digest = (bytes_eq-Decides (sha256 (item_frames (take seal.items J))) seal.digest).0 parts.1 in
    ap₂ seal_by (sym count) (sym digest)

-- and one that begins so has no fault
pub no_fault : (seal : Seal) (J : List Message) → IsSealed seal J → seal_fault seal J ≡ None
no_fault seal J is =
    let count : seal.items ≡ length (take seal.items J) = ap (λ (s : Seal). s.items) is in
    let least = length-take seal.items J in
    let digest : sha256 (item_frames (take seal.items J)) ≡ seal.digest = sym (ap (λ (s : Seal). s.digest) is) in
    ap₂ fault_by (le-ltb (length J) seal.items (omega (arith, count, least)))
    ((bytes_eq-Decides (sha256 (item_frames (take seal.items J))) seal.digest).1 digest)

pub faults : FaultLaw
faults seal J = (begins_sealed seal J, no_fault seal J)

-- what was sealed has no fault, whatever comes behind it
pub growth : GrowthLaw
growth messages more =
    let seam = take-append_seam messages more in
    no_fault (seal_of messages) (messages ++ more) (ap (λ (first : List Message). seal_of first) (sym seam))

-- ---- what is found of a journal's first messages

-- too few of them
pub too_few : (seal : Seal) (J : List Message) (items : ℕ) → items ≤ length J → items < seal.items → seal_fault seal (take items J) ≡ Some Fewer
too_few seal J items within few =
    let size = length-take-le items J within in
    ap (λ (fewer : Bool). fault_by fewer (has_digest seal (take seal.items (take items J))))
    (lt-ltb (length (take items J)) seal.items (omega (arith, size, few)))

-- enough of them, whose digest is that of the seal or not
pub enough : (seal : Seal) (J : List Message) (items : ℕ) (same : Bool) → items ≤ length J → seal.items ≤ items → has_digest seal (take seal.items J) ≡ same
    → seal_fault seal (take items J) ≡ fault_by false same
enough seal J items same within many found =
    let size = length-take-le items J within in
    let first : take seal.items (take items J) ≡ take seal.items J = take-take seal.items items J many in
    ap₂ fault_by (le-ltb (length (take items J)) seal.items (omega (arith, size, many)))
    (ap (λ (messages : List Message). has_digest seal messages) first ∙ found)
