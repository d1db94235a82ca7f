-- Faults and their lines, one more at a time.
use Rattle.std.proofs.Common.{◌≡◌, ℕ, zero, suc, ◌+◌, ◌<◌, ◌≤◌, List, [], ◌∷◌, ◌++◌, Option, length, take, get_or, refl, sym, ap, ◌∙◌, arith, append_assoc, append-nil}
use Rattle.std.specs.Prelude.{flat_map, option_to_list}
use Rattle.std.specs.declared.result.Result.{Result}
use Rattle.session_core.specs.declared.fault.SessionFault.{SessionFault}
use Rattle.form_link.specs.declared.faults.Fault.{Fault}
use Rattle.form_link.specs.Faults.{outcome_fault, link_faults}
use Rattle.form_link.specs.Lines.{fault_line, fault_status, first_status}

-- the faults of one link more
faults_suc : (k i : ℕ) (xs : List (Option (Result ℕ SessionFault))) (d : Option (Result ℕ SessionFault)) → i < length xs
    → link_faults k (take (suc i) xs) ≡ link_faults k (take i xs) ++ option_to_list (outcome_fault (k + i) (get_or xs i d))
faults_suc k i [] d lt = absurd (omega arith)
faults_suc k zero (x ∷ xs) d lt =
    let same : k ≡ k + zero = omega arith in
    append-nil (option_to_list (outcome_fault k x)) ∙ ap (λ (n : ℕ). option_to_list (outcome_fault n x)) same
faults_suc k (suc i) (x ∷ xs) d lt =
    let same : (k + 1) + i ≡ k + suc i = omega arith in
    let first : List Fault = option_to_list (outcome_fault k x) in
    ap (λ (l : List Fault). first ++ l) (faults_suc (k + 1) i xs d (omega arith))
    ∙ sym (append_assoc first (link_faults (k + 1) (take i xs)) (option_to_list (outcome_fault ((k + 1) + i) (get_or xs i d))))
    ∙ ap (λ (n : ℕ). (first ++ link_faults (k + 1) (take i xs)) ++ option_to_list (outcome_fault n (get_or xs i d))) same

pub one_link : (i n : ℕ) (xs : List (Option (Result ℕ SessionFault))) (x d : Option (Result ℕ SessionFault)) (before now old : List Fault) → i < length xs → n ≡ i + 1 → x ≡ get_or xs i d
    → before ≡ old ++ link_faults 1 (take i xs) → now ≡ before ++ option_to_list (outcome_fault n x) → now ≡ old ++ link_faults 1 (take (i + 1) xs)
one_link i n xs x d before now old lt number is so_far grown =
    let here : n ≡ 1 + i = omega arith in
    let next : suc i ≡ i + 1 = omega arith in
    grown ∙ ap (λ (l : List Fault). l ++ option_to_list (outcome_fault n x)) so_far
    ∙ append_assoc old (link_faults 1 (take i xs)) (option_to_list (outcome_fault n x))
    ∙ ap (λ (m : ℕ). old ++ (link_faults 1 (take i xs) ++ option_to_list (outcome_fault m x))) here
    ∙ ap (λ (y : Option (Result ℕ SessionFault)). old ++ (link_faults 1 (take i xs) ++ option_to_list (outcome_fault (1 + i) y))) is
    ∙ ap (λ (l : List Fault). old ++ l) (sym (faults_suc 1 i xs d lt))
    ∙ ap (λ (m : ℕ). old ++ link_faults 1 (take m xs)) next

-- the lines of one fault more
lines_suc : (i : ℕ) (fs : List Fault) (d : Fault) → i < length fs → flat_map fault_line (take (suc i) fs) ≡ flat_map fault_line (take i fs) ++ fault_line (get_or fs i d)
lines_suc i [] d lt = absurd (omega arith)
lines_suc zero (f ∷ fs) d lt = append-nil (fault_line f)
lines_suc (suc i) (f ∷ fs) d lt =
    ap (λ (l : List ℕ). fault_line f ++ l) (lines_suc i fs d (omega arith))
    ∙ sym (append_assoc (fault_line f) (flat_map fault_line (take i fs)) (fault_line (get_or fs i d)))

pub one_line : (i : ℕ) (fs : List Fault) (f d : Fault) (before now : List ℕ) → i < length fs → f ≡ get_or fs i d
    → before ≡ flat_map fault_line (take i fs) → now ≡ before ++ fault_line f → now ≡ flat_map fault_line (take (i + 1) fs)
one_line i fs f d before now lt is so_far grown =
    let next : suc i ≡ i + 1 = omega arith in
    grown ∙ ap (λ (l : List ℕ). l ++ fault_line f) so_far ∙ ap (λ (g : Fault). flat_map fault_line (take i fs) ++ fault_line g) is
    ∙ sym (lines_suc i fs d lt) ∙ ap (λ (m : ℕ). flat_map fault_line (take m fs)) next

-- the first fault, where there is one
pub first_is : (fs : List Fault) (d : Fault) → 1 ≤ length fs → fault_status (get_or fs 0 d) ≡ first_status fs
first_is [] d le = absurd (omega arith)
first_is (f ∷ fs) d le = refl
