-- The first line among bytes, and what it says.
use Rattle.std.proofs.Common.{◌≡◌, ◌⊎◌, inl, inr, ℕ, ◌+◌, ◌<◌, Bool, true, false, List, [], ◌∷◌, ◌++◌, Option, Some, None, length, take, drop, get_or, refl, sym, ap, ◌∙◌, subst, arith, append-nil}
use Rattle.std.specs.Prelude.{◌&&◌, option_map, nat_le, if◌then◌else◌}
use Rattle.std.specs.Option.{option_map_or}
use Rattle.std.proofs.lemmas.List.{take_all, drop_all}
use Rattle.std.proofs.lemmas.Bool.Decides.{nat_tests}
use Rattle.element_name.specs.Cases.{given}
use Rattle.line_spelling.specs.declared.signs.TheConstants.{LINE_END}
use Rattle.line_spelling.specs.declared.line.TheConstants.{MAX_LINE}
use Rattle.line_engine.specs.declared.status.Status.TheVariants.{Done, TooLong, BadInput}
use Rattle.line_engine.specs.Output.{Output, bad_line}
use Rattle.line_engine.specs.Input.{lines_of}
use Rattle.line_engine.specs.Rest.{NoLf}
use Rattle.line_engine.specs.Run.{LineTurn, turn_of_line, output_of_lines, world_after_lines}
use Rattle.line_engine.proofs.LineRuns.{first_line, lines_line, lines_end_rest, run_long, world_long}
use Rattle.peer_step.specs.declared.step.Step.{Step}
use Rattle.line_read.specs.Step.{step_line}
use Rattle.line_input.specs.Steps.{good_steps, first_bad}
use Rattle.form_keep.specs.Reader.{EndsAt, MayFollow}

-- ---- by the first line

pub good_first : (line : List ℕ) (lines : List (List ℕ)) (step : Step) → step_line line ≡ Some step → good_steps (line ∷ lines) ≡ step ∷ good_steps lines
good_first line lines step e = ap (λ (o : Option Step). option_map_or (λ (s : Step). s ∷ good_steps lines) o []) e

pub good_number : (k : ℕ) (line : List ℕ) (lines : List (List ℕ)) (step : Step) → step_line line ≡ Some step → first_bad k (line ∷ lines) ≡ first_bad (k + 1) lines
good_number k line lines step e = ap (λ (o : Option Step). option_map_or (λ (s : Step). first_bad (k + 1) lines) o (Some k)) e

pub bad_first : (line : List ℕ) (lines : List (List ℕ)) → step_line line ≡ None → good_steps (line ∷ lines) ≡ []
bad_first line lines e = ap (λ (o : Option Step). option_map_or (λ (s : Step). s ∷ good_steps lines) o []) e

pub bad_number : (k : ℕ) (line : List ℕ) (lines : List (List ℕ)) → step_line line ≡ None → first_bad k (line ∷ lines) ≡ Some k
bad_number k line lines e = ap (λ (o : Option Step). option_map_or (λ (s : Step). first_bad (k + 1) lines) o (Some k)) e

-- ---- a line that is too long

long_by : (short : Bool) (line : List ℕ) → nat_le (length line) MAX_LINE ≡ short → short ≡ false → step_line line ≡ None
long_by short line is e = long (nat_le (length line) MAX_LINE) _ _ _ (is ∙ e)
  where
    long : (fits one text : Bool) (o : Option Step) → fits ≡ false → given ((fits && one) && text) o ≡ None
    long true one text o f = absurd cc
    long false one text o f = refl

-- it says no step
pub long_none : (line : List ℕ) → MAX_LINE < length line → step_line line ≡ None
long_none line lt =
    let fails : nat_le (length line) MAX_LINE ≡ false = grind (arith, nat_tests) in
    long_by false line fails refl

-- whether some line said a step
abbrev says_step : Bool → List ℕ → Option (LineTurn Bool)
says_step w line = option_map (λ (step : Step). record { reply = []; world = true }) (step_line line)

abbrev no_lines : Bool → Option (List ℕ)
no_lines w = Some []

stays : (lines : List (List ℕ)) → world_after_lines says_step true lines ≡ true
stays [] = refl
stays (line ∷ lines) = by (turn_of_line says_step true line) (short (nat_le (length line) MAX_LINE) (step_line line)) (stays lines)
  where
    IsTrueTurn : Option (LineTurn Bool) → Type 0
    IsTrueTurn None = Unit {0}
    IsTrueTurn (Some t) = t.world ≡ true

    short : (fits : Bool) (o : Option Step) → IsTrueTurn (if fits then option_map (λ (step : Step). record { reply = []; world = true }) o else None)
    short true None = tt
    short true (Some step) = refl
    short false o = tt

    by : (o : Option (LineTurn Bool)) → IsTrueTurn o → world_after_lines says_step true lines ≡ true → option_map_or (λ (t : LineTurn Bool). world_after_lines says_step t.world lines) o true ≡ true
    by None h others = refl
    by (Some t) h others = ap (λ (w : Bool). world_after_lines says_step w lines) h ∙ others

-- a rest that is too long begins a line that says no step, however it goes on
pub long_begins : (cut : Bool) (rest more : List ℕ) → NoLf rest → MAX_LINE < length rest
    → (line : List ℕ) × (others : List (List ℕ)) × (lines_of cut (rest ++ more) ≡ line ∷ others) × (step_line line ≡ None)
long_begins cut rest more no_lf long =
    by (lines_of cut (rest ++ more)) (run_long says_step no_lines cut 0 false rest more no_lf long) (world_long says_step no_lines cut false rest more no_lf long)
  where
    not_bad : (b : Bool) → output_of_lines says_step no_lines b 0 false [] ≡ bad_line 0 → ⊥
    not_bad true e = let is : TooLong ≡ BadInput = ap (λ (o : Output). o.status) e in cc
    not_bad false e = let is : Done ≡ BadInput = ap (λ (o : Output). o.status) e in cc

    none : (line : List ℕ) (lines : List (List ℕ)) (fits : Bool) (o : Option Step) → step_line line ≡ o → nat_le (length line) MAX_LINE ≡ fits
        → option_map_or (λ (t : LineTurn Bool). world_after_lines says_step t.world lines) (if fits then option_map (λ (step : Step). record { reply = []; world = true }) o else None) false ≡ false
        → o ≡ None
    none line lines fits None e short h = refl
    none line lines true (Some step) e short h = let is : true ≡ false = sym (stays lines) ∙ h in absurd cc
    none line lines false (Some step) e short h = absurd (let is : Some step ≡ None = sym e ∙ long_by false line short refl in cc)

    turned : (line : List ℕ) (lines : List (List ℕ)) → world_after_lines says_step false (line ∷ lines) ≡ false → step_line line ≡ None
    turned line lines h = none line lines (nat_le (length line) MAX_LINE) (step_line line) refl refl h

    by : (lines : List (List ℕ)) → output_of_lines says_step no_lines cut 0 false lines ≡ bad_line 0 → world_after_lines says_step false lines ≡ false
        → (line : List ℕ) × (others : List (List ℕ)) × (lines ≡ line ∷ others) × (step_line line ≡ None)
    by [] out world = absurd (not_bad cut out)
    by (line ∷ others) out world = (line, others, refl, turned line others world)

-- ---- the first line of bytes that aren't passed

-- it comes before the lines of what stands behind it, or is too long
line_begins : (xs : List ℕ) (len : ℕ) (ended cut : Bool) (more : List ℕ) → NoLf (take len xs) → 0 < length xs → MayFollow ended cut more
    → EndsAt xs ended len
    → (lines_of cut (xs ++ more) ≡ take len xs ∷ lines_of cut (drop (len + 1) xs ++ more)) ⊎ ((len ≡ length xs) × (MAX_LINE < len))
line_begins xs len ended cut more no_lf some may (inl h) =
    inl (ap (lines_of cut) (first_line xs more len h.0 h.1) ∙ lines_line cut (take len xs) (drop (len + 1) xs ++ more) no_lf)
line_begins xs len false cut more no_lf some may (inr (all, inl e)) = absurd cc
line_begins xs len true cut more no_lf some may (inr (all, inl e)) =
    let whole : take len xs ≡ xs = take_all len xs (omega arith) in
    let none : drop (len + 1) xs ≡ [] = drop_all (len + 1) xs (omega arith) in
    let here : lines_of false (xs ++ []) ≡ take len xs ∷ lines_of false (drop (len + 1) xs ++ []) =
    ap (lines_of false) (append-nil xs) ∙ lines_end_rest xs (subst NoLf whole no_lf) some
    ∙ ap (λ (l : List ℕ). l ∷ []) (sym whole) ∙ ap (λ (l : List ℕ). take len xs ∷ lines_of false (l ++ [])) (sym none) in
    inl (subst (λ (b : Bool). lines_of b (xs ++ more) ≡ take len xs ∷ lines_of b (drop (len + 1) xs ++ more)) (sym may.0)
    (subst (λ (m : List ℕ). lines_of false (xs ++ m) ≡ take len xs ∷ lines_of false (drop (len + 1) xs ++ m)) (sym may.1) here))
line_begins xs len ended cut more no_lf some may (inr (all, inr long)) = inr (all, long)

-- where it says a step, it comes before the others
pub step_begins : (xs : List ℕ) (len : ℕ) (ended cut : Bool) (more : List ℕ) (step : Step) → NoLf (take len xs) → 0 < length xs → MayFollow ended cut more
    → EndsAt xs ended len
    → step_line (take len xs) ≡ Some step
    → lines_of cut (xs ++ more) ≡ take len xs ∷ lines_of cut (drop (len + 1) xs ++ more)
step_begins xs len ended cut more step no_lf some may stop said = by (line_begins xs len ended cut more no_lf some may stop)
  where
    by : (lines_of cut (xs ++ more) ≡ take len xs ∷ lines_of cut (drop (len + 1) xs ++ more)) ⊎ ((len ≡ length xs) × (MAX_LINE < len))
        → lines_of cut (xs ++ more) ≡ take len xs ∷ lines_of cut (drop (len + 1) xs ++ more)
    by (inl first) = first
    by (inr (all, long)) =
        let whole : take len xs ≡ xs = take_all len xs (omega arith) in
        let size : MAX_LINE < length (take len xs) = omega (arith, ap length whole) in
        absurd (let is : Some step ≡ None = sym said ∙ long_none (take len xs) size in cc)

-- where it says none, the first line says none
pub bad_begins : (xs : List ℕ) (len : ℕ) (ended cut : Bool) (more : List ℕ) → NoLf (take len xs) → 0 < length xs → MayFollow ended cut more
    → EndsAt xs ended len
    → step_line (take len xs) ≡ None
    → (line : List ℕ) × (others : List (List ℕ)) × (lines_of cut (xs ++ more) ≡ line ∷ others) × (step_line line ≡ None)
bad_begins xs len ended cut more no_lf some may stop said = by (line_begins xs len ended cut more no_lf some may stop)
  where
    by : (lines_of cut (xs ++ more) ≡ take len xs ∷ lines_of cut (drop (len + 1) xs ++ more)) ⊎ ((len ≡ length xs) × (MAX_LINE < len))
        → (line : List ℕ) × (others : List (List ℕ)) × (lines_of cut (xs ++ more) ≡ line ∷ others) × (step_line line ≡ None)
    by (inl first) = (take len xs, lines_of cut (drop (len + 1) xs ++ more), first, said)
    by (inr (all, long)) =
        let whole : take len xs ≡ xs = take_all len xs (omega arith) in
        let size : MAX_LINE < length xs = omega arith in
        long_begins cut xs more (subst NoLf whole no_lf) size
