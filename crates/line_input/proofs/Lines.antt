-- What the engine says of step lines, in words of their own.
use Rattle.std.proofs.Common.{◌≡◌, ℕ, ◌+◌, Bool, true, false, List, [], ◌∷◌, ◌++◌, Option, Some, None, length, refl, sym, ap, ◌∙◌, arith, append_assoc, append-nil}
use Rattle.std.specs.Prelude.{◌&&◌, option_map, nat_le, nat_lt, if◌then◌else◌}
use Rattle.std.specs.Option.{option_map_or}
use Rattle.std.proofs.lemmas.Bool.Decides.{nat_tests}
use Rattle.element_name.specs.Cases.{given}
use Rattle.line_spelling.specs.declared.line.TheConstants.{MAX_LINE}
use Rattle.line_engine.specs.declared.status.Status.TheVariants.{Done}
use Rattle.line_engine.specs.Output.{Output, after_bytes, after_part, bad_line, too_long}
use Rattle.line_engine.specs.Input.{rest_lines, lines_of_parts}
use Rattle.line_engine.specs.Run.{LineTurn, turn_of_line, output_of_lines, part_of_lines, world_after_lines}
use Rattle.peer_step.specs.declared.step.Step.{Step}
use Rattle.line_read.specs.Step.{step_line}
use Rattle.line_input.specs.Steps.{good_steps, first_bad}
use Rattle.line_input.specs.Turn.{step_line_turn, step_line_closing}

-- the turn of a line with this step
abbrev turn_by : List Step → Option Step → Option (LineTurn (List Step))
turn_by w o = option_map (λ (step : Step). record { reply = []; world = w ++ step ∷ [] }) o

-- a line that is too long is no step line either
turn_is : (w : List Step) (line : List ℕ) → turn_of_line step_line_turn w line ≡ turn_by w (step_line line)
turn_is w line = long (nat_le (length line) MAX_LINE) _ _ _
  where
    long : (short one text : Bool) (o : Option Step) → (if short then turn_by w (given ((short && one) && text) o) else None) ≡ turn_by w (given ((short && one) && text) o)
    long true one text o = refl
    long false one text o = refl

-- ---- what is left

pub world_is : (w : List Step) (lines : List (List ℕ)) → world_after_lines step_line_turn w lines ≡ w ++ good_steps lines
world_is w [] = sym (append-nil w)
world_is w (line ∷ lines) =
    ap (λ (o : Option (LineTurn (List Step))). option_map_or (λ (t : LineTurn (List Step)). world_after_lines step_line_turn t.world lines) o w) (turn_is w line)
    ∙ by (step_line line) (λ (v : List Step). world_is v lines)
  where
    by : (o : Option Step) → ((v : List Step) → world_after_lines step_line_turn v lines ≡ v ++ good_steps lines)
        → option_map_or (λ (t : LineTurn (List Step)). world_after_lines step_line_turn t.world lines) (turn_by w o) w ≡ w ++ option_map_or (λ (step : Step). step ∷ good_steps lines) o []
    by None rest = sym (append-nil w)
    by (Some step) rest = rest (w ++ step ∷ []) ∙ append_assoc w (step ∷ []) (good_steps lines)

-- ---- what is written

-- by the first bad line
abbrev pub output_at : Bool → Option ℕ → Output
output_at cut (Some k) = bad_line k
output_at cut None = if cut then too_long else record { written = []; status = Done }

pub output_is : (cut : Bool) (k : ℕ) (w : List Step) (lines : List (List ℕ)) → output_of_lines step_line_turn step_line_closing cut k w lines ≡ output_at cut (first_bad k lines)
output_is cut k w [] = refl
output_is cut k w (line ∷ lines) =
    ap (λ (o : Option (LineTurn (List Step))). option_map_or (λ (t : LineTurn (List Step)). after_bytes t.reply (output_of_lines step_line_turn step_line_closing cut (k + 1) t.world lines)) o (bad_line k)) (turn_is w line)
    ∙ by (step_line line) (λ (v : List Step). output_is cut (k + 1) v lines)
  where
    by : (o : Option Step) → ((v : List Step) → output_of_lines step_line_turn step_line_closing cut (k + 1) v lines ≡ output_at cut (first_bad (k + 1) lines))
        → option_map_or (λ (t : LineTurn (List Step)). after_bytes t.reply (output_of_lines step_line_turn step_line_closing cut (k + 1) t.world lines)) (turn_by w o) (bad_line k)
        ≡ output_at cut (option_map_or (λ (step : Step). first_bad (k + 1) lines) o (Some k))
    by None rest = refl
    by (Some step) rest = rest (w ++ step ∷ [])

-- before a bad line stand the good ones
pub bad_number : (k j : ℕ) (lines : List (List ℕ)) → first_bad k lines ≡ Some j → j ≡ length (good_steps lines) + k
bad_number k j [] e = absurd cc
bad_number k j (line ∷ lines) e = by (step_line line) (bad_number (k + 1) j lines) e
  where
    by : (o : Option Step) → (first_bad (k + 1) lines ≡ Some j → j ≡ length (good_steps lines) + (k + 1)) → option_map_or (λ (step : Step). first_bad (k + 1) lines) o (Some k) ≡ Some j
        → j ≡ length (option_map_or (λ (step : Step). step ∷ good_steps lines) o []) + k
    by None rest h = let same : k ≡ j = cc in omega arith
    by (Some step) rest h = let next : j ≡ length (good_steps lines) + (k + 1) = rest h in omega arith

-- ---- where reading fails

short_rest : (rest : List ℕ) → nat_le (length rest) MAX_LINE ≡ true → rest_lines true rest ≡ []
short_rest [] short = refl
short_rest (b ∷ rest) short =
    let fits : nat_lt MAX_LINE (length (b ∷ rest)) ≡ false = grind (arith, nat_tests) in
    ap (λ (long : Bool). if long then (b ∷ rest) ∷ [] else []) fits

pub none_bad : (k : ℕ) (w : List Step) (parts : List (List ℕ)) (v : List ℕ) → part_of_lines step_line_turn w parts ≡ Some v → first_bad k (lines_of_parts true parts) ≡ None
none_bad k w [] v e = refl
none_bad k w (rest ∷ []) v e = by (nat_le (length rest) MAX_LINE) refl e
  where
    by : (short : Bool) → nat_le (length rest) MAX_LINE ≡ short → (if short then Some [] else None) ≡ Some v → first_bad k (rest_lines true rest) ≡ None
    by true short h = ap (first_bad k) (short_rest rest short)
    by false short h = absurd cc
none_bad k w (line ∷ part ∷ parts) v e =
    by (step_line line) (λ (u : List Step). none_bad (k + 1) u (part ∷ parts) v)
    (sym (ap (λ (o : Option (LineTurn (List Step))). option_map_or (λ (t : LineTurn (List Step)). after_part t.reply (part_of_lines step_line_turn t.world (part ∷ parts))) o None) (turn_is w line)) ∙ e)
  where
    same_part : (p : Option (List ℕ)) → after_part [] p ≡ Some v → p ≡ Some v
    same_part None h = absurd cc
    same_part (Some x) h = h

    by : (o : Option Step) → ((u : List Step) → part_of_lines step_line_turn u (part ∷ parts) ≡ Some v → first_bad (k + 1) (lines_of_parts true (part ∷ parts)) ≡ None)
        → option_map_or (λ (t : LineTurn (List Step)). after_part t.reply (part_of_lines step_line_turn t.world (part ∷ parts))) (turn_by w o) None ≡ Some v
        → option_map_or (λ (step : Step). first_bad (k + 1) (lines_of_parts true (part ∷ parts))) o (Some k) ≡ None
    by None rest h = absurd cc
    by (Some step) rest h = rest (w ++ step ∷ []) (same_part _ h)
