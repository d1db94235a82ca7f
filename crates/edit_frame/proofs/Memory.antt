-- Which operations have lists, by the bytes that were read of them.
use Rattle.std.proofs.Common.{◌≡◌, ℕ, true, List, [], ◌∷◌, length, take, drop, Some, refl, sym, ap, subst, ◌∙◌}
use Rattle.std.specs.Prelude.{nat_le, slice_index, ◌==◌}
use Rattle.std.specs.Int.{w16, from_be_bytes}
use Rattle.std.proofs.lemmas.List.{get_or-drop}
use Rattle.element_name.proofs.CaseLemmas.{when-Some}
use Rattle.edit_frame.specs.declared.numbers.TheConstants.{ADD_OBJECT, ADD_AUTH, ELEMENTS}
use Rattle.edit_frame.specs.Fields.{byte_at, short_at, has_lists}
use Rattle.edit_frame.proofs.Readers.{some_is}

byte_before : (bytes rest : List ℕ) (b : ℕ) → byte_at bytes ≡ Some (b, rest) → bytes ≡ b ∷ rest
unfolding byte_at
byte_before [] rest b e = absurd cc
byte_before (c ∷ bytes) rest b e =
    let same = some_is (c, bytes) (b, rest) e in
    ap (λ (x : ℕ × List ℕ). x.0 ∷ x.1) same

short_before : (bytes rest : List ℕ) (n : ℕ) → short_at bytes ≡ Some (n, rest) → rest ≡ drop 2 bytes
unfolding short_at
short_before bytes rest n e =
    let g = when-Some (nat_le 2 (length bytes)) (from_be_bytes w16 (take 2 bytes), drop 2 bytes) (n, rest) e in
    sym (ap (λ (x : ℕ × List ℕ). x.1) g.1)

pub elements_by : (bytes rest : List ℕ) (b : ℕ) → byte_at bytes ≡ Some (b, rest) → b ≡ ELEMENTS → (slice_index bytes 0 == ELEMENTS) ≡ true
elements_by bytes rest b e is = rw (byte_before bytes rest b e, is) refl

pub auth_lists : (bytes rest : List ℕ) (b : ℕ) → byte_at bytes ≡ Some (b, rest) → b ≡ ADD_AUTH → has_lists bytes ≡ true
auth_lists bytes rest b e is = rw (byte_before bytes rest b e, is) refl

pub object_lists : (bytes after rest : List ℕ) (b n : ℕ) → byte_at bytes ≡ Some (b, after) → b ≡ ADD_OBJECT → short_at after ≡ Some (n, rest)
    → (slice_index rest 0 == ELEMENTS) ≡ true → has_lists bytes ≡ true
object_lists bytes after rest b n e is g h =
    let place : slice_index rest 0 ≡ slice_index after 2 = ap (λ (x : List ℕ). slice_index x 0) (short_before after rest n g) ∙ rw get_or-drop refl in
    let kind : (slice_index after 2 == ELEMENTS) ≡ true = subst (λ (x : ℕ). (x == ELEMENTS) ≡ true) place h in
    rw (byte_before bytes after b e, is) kind

pub lists_after : (bytes rest : List ℕ) (n : ℕ) → short_at bytes ≡ Some (n, rest) → has_lists rest ≡ true → has_lists (drop 2 bytes) ≡ true
lists_after bytes rest n e h = subst (λ (x : List ℕ). has_lists x ≡ true) (short_before bytes rest n e) h
