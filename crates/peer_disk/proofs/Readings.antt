-- That bytes are read in one way.
use Rattle.std.proofs.Common.{◌≡◌, ◌≢◌, ℕ, List, [], ◌∷◌, ◌++◌, length, get_or, take, drop, refl, sym, ◌∙◌, ap, subst, arith, append_assoc, append-nil, length-append, All}
use Rattle.std.specs.Int.{w16, to_be_bytes, from_be_bytes}
use Rattle.std.proofs.lemmas.Nat.{from_be_bytes-to_be_bytes_2}
use Rattle.std.proofs.lemmas.List.{take_at, drop_at}
use Rattle.std.proofs.lemmas.List.Elements.{All-head, All-tail}
use Rattle.peer_disk.specs.declared.layout.TheConstants.{OPEN}
use Rattle.peer_disk.specs.Records.{file_head, records, FitsRecord, HasBodies, BreaksAfter, IsNoRecord}

regrouped : (body : List ℕ) (bodies : List (List ℕ)) (end : List ℕ) → (body ++ records bodies) ++ end ≡ body ++ (records bodies ++ end)
regrouped body bodies end = append_assoc body (records bodies) end

-- two files that begin with a record have the same length field
same_length : (x y : List ℕ) (a b : List (List ℕ)) (r s : List ℕ) → FitsRecord x → FitsRecord y → records (x ∷ a) ++ r ≡ records (y ∷ b) ++ s → length x ≡ length y
same_length x y a b r s fits_x fits_y same =
    let fields : to_be_bytes w16 (length x) ≡ to_be_bytes w16 (length y) = ap (λ (l : List ℕ). take 2 (drop 1 l)) same in
    sym (from_be_bytes-to_be_bytes_2 (length x) fits_x) ∙ ap (from_be_bytes w16) fields ∙ from_be_bytes-to_be_bytes_2 (length y) fits_y

-- and so the same body, and the same bytes behind it
same_rest : (x y : List ℕ) (a b : List (List ℕ)) (r s : List ℕ) → records (x ∷ a) ++ r ≡ records (y ∷ b) ++ s → x ++ (records a ++ r) ≡ y ++ (records b ++ s)
same_rest x y a b r s same = sym (regrouped x a r) ∙ ap (drop 3) same ∙ regrouped y b s

same_body : (x y : List ℕ) (more others : List ℕ) → length x ≡ length y → x ++ more ≡ y ++ others → x ≡ y
same_body x y more others long same = sym (take_at x more (length x) refl) ∙ ap (take (length x)) same ∙ take_at y others (length x) (sym long)

same_more : (x y : List ℕ) (more others : List ℕ) → length x ≡ length y → x ++ more ≡ y ++ others → more ≡ others
same_more x y more others long same = sym (drop_at x more (length x) refl) ∙ ap (drop (length x)) same ∙ drop_at y others (length x) (sym long)

-- all bodies are some and others, and what stands behind the records of some are those of the others and what stands behind all
pub record GoesOn (some all : List (List ℕ)) (rest end : List ℕ) : Type 0 where
  pub others : List (List ℕ)
  pub all_are : all ≡ some ++ others
  pub short : All FitsRecord others
  pub rest_is : rest ≡ records others ++ end

-- where bytes begin with some records, and are all records up to a gate that isn't open, the first of these are those
first_bodies : (some all : List (List ℕ)) (gate : ℕ) (rest behind : List ℕ) → All FitsRecord some → All FitsRecord all → gate ≢ OPEN → records some ++ rest ≡ records all ++ gate ∷ behind
    → GoesOn some all rest (gate ∷ behind)
first_bodies [] all gate rest behind fits_some fits_all closed same = record { others = all; all_are = refl; short = fits_all; rest_is = same }
first_bodies (x ∷ some) [] gate rest behind fits_some fits_all closed same = absurd (closed (sym (ap (λ (l : List ℕ). get_or l 0 0) same)))
first_bodies (x ∷ some) (y ∷ all) gate rest behind fits_some fits_all closed same =
    let long = same_length x y some all rest (gate ∷ behind) (All-head FitsRecord x some fits_some) (All-head FitsRecord y all fits_all) same in
    let bodies = same_rest x y some all rest (gate ∷ behind) same in
    let body : y ≡ x = sym (same_body x y (records some ++ rest) (records all ++ gate ∷ behind) long bodies) in
    let more = first_bodies some all gate rest behind (All-tail FitsRecord x some fits_some) (All-tail FitsRecord y all fits_all) closed (same_more x y (records some ++ rest) (records all ++ gate ∷ behind) long bodies) in
    record { others = more.others; all_are = λ i. body i ∷ more.all_are i; short = more.short; rest_is = more.rest_is }

-- the same of two files of a site
pub continues : (site : ℕ) (some all : List (List ℕ)) (gate : ℕ) (rest behind : List ℕ) → All FitsRecord some → All FitsRecord all → gate ≢ OPEN
    → file_head site ++ records some ++ rest ≡ file_head site ++ records all ++ gate ∷ behind → GoesOn some all rest (gate ∷ behind)
continues site some all gate rest behind fits_some fits_all closed same =
    first_bodies some all gate rest behind fits_some fits_all closed
    (ap (drop 3) (sym (append_assoc (file_head site) (records some) rest) ∙ same ∙ append_assoc (file_head site) (records all) (gate ∷ behind)))

-- behind a gate that isn't open no record goes on
no_others : (gate other : ℕ) (rest end : List ℕ) (others : List (List ℕ)) → gate ≢ OPEN → gate ∷ rest ≡ records others ++ other ∷ end → others ≡ []
no_others gate other rest end [] closed same = refl
no_others gate other rest end (body ∷ others) closed same = absurd (closed (ap (λ (l : List ℕ). get_or l 0 0) same))

pub one_reading : (site : ℕ) (file : List ℕ) (first second : List (List ℕ)) → HasBodies site first file → HasBodies site second file → first ≡ second
one_reading site file first second one other =
    let more = continues site first second other.gate (one.gate ∷ one.rest) other.rest one.short other.short other.closed (sym one.bytes ∙ other.bytes) in
    sym (more.all_are ∙ ap (λ (l : List (List ℕ)). first ++ l) (no_others one.gate other.gate one.rest other.rest more.others one.closed more.rest_is) ∙ append-nil first)

-- bytes that begin with no record don't begin with a closed gate
open_gate : (gate : ℕ) (rest : List ℕ) → IsNoRecord (gate ∷ rest) → gate ≡ OPEN
open_gate gate [] no_record = no_record
open_gate gate (high ∷ []) no_record = no_record
open_gate gate (high ∷ low ∷ rest) no_record = no_record.0

-- nor with a whole record
whole : (body : List ℕ) (bodies : List (List ℕ)) (end : List ℕ) → FitsRecord body → IsNoRecord (records (body ∷ bodies) ++ end) → ⊥
whole body bodies end fits no_record =
    omega (arith, no_record.1, from_be_bytes-to_be_bytes_2 (length body) fits, length-append (body ++ records bodies) end, length-append body (records bodies))

breaks_off : (others : List (List ℕ)) (gate : ℕ) (end : List ℕ) → All FitsRecord others → gate ≢ OPEN → IsNoRecord (records others ++ gate ∷ end) → ⊥
breaks_off [] gate end short closed no_record = closed (open_gate gate end no_record)
breaks_off (body ∷ others) gate end short closed no_record = whole body others (gate ∷ end) (All-head FitsRecord body others short) no_record

pub broken_has_none : (site : ℕ) (file : List ℕ) (first second : List (List ℕ)) → BreaksAfter site first file → HasBodies site second file → ⊥
broken_has_none site file first second broken has =
    let more = continues site first second has.gate broken.rest has.rest broken.short has.short has.closed (sym broken.bytes ∙ has.bytes) in
    breaks_off more.others has.gate has.rest more.short has.closed (subst IsNoRecord more.rest_is broken.broken)
