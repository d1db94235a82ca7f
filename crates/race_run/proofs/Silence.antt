-- What is written of step lines.
use Rattle.std.proofs.Common.{◌≡◌, ◌≢◌, ℕ, ◌+◌, Bool, true, false, List, [], ◌∷◌, ◌++◌, Option, Some, None, length, ◌⊎◌, inl, inr, refl, sym, ap, ◌∙◌}
use Rattle.std.specs.Prelude.{option_map, nat_le, nat_lt, if◌then◌else◌}
use Rattle.std.specs.Option.{option_map_or}
use Rattle.element_name.specs.Cases.{given}
use Rattle.line_spelling.specs.declared.line.TheConstants.{MAX_LINE}
use Rattle.line_engine.specs.declared.status.Status.TheVariants.{Done}
use Rattle.line_engine.specs.Output.{Output, after_bytes, after_part, bad_line}
use Rattle.line_engine.specs.Run.{LineTurn, turn_of_line, output_of_lines, part_of_lines}
use Rattle.peer_step.specs.declared.step.Step.{Step}
use Rattle.line_read.specs.Step.{step_line}
use Rattle.peer_lock.specs.declared.limits.TheConstants.{MAX_RUN}
use Rattle.race_run.specs.Lists.{WorkLists, step_count, with_step, list_turn}
use Rattle.race_run.specs.SilenceLaws.{IsAlone}

-- a good line's reply is empty
no_reply : (short room : Bool) (l : WorkLists) (step : Option Step) (t : LineTurn WorkLists)
    → (if short then given room (option_map (λ (s : Step). let u : LineTurn WorkLists = record { reply = []; world = with_step l s } in u) step) else None) ≡ Some t → t.reply ≡ []
no_reply false room l step t e = absurd cc
no_reply true false l step t e = absurd cc
no_reply true true l None t e = absurd cc
no_reply true true l (Some s) t e =
    let same : Some (let u : LineTurn WorkLists = record { reply = []; world = with_step l s } in u) ≡ Some t = e in
    let turn : (let u : LineTurn WorkLists = record { reply = []; world = with_step l s } in u) ≡ t = cc in
    sym (ap (λ (u : LineTurn WorkLists). u.reply) turn)

reply_none : (l : WorkLists) (line : List ℕ) (t : LineTurn WorkLists) → turn_of_line list_turn l line ≡ Some t → t.reply ≡ []
reply_none l line t e = no_reply (nat_le (length line) MAX_LINE) (nat_lt (step_count l) MAX_RUN) l (step_line line) t e

-- nothing in front of what is alone
alone_after : (reply bytes : List ℕ) (out : Output) → reply ≡ [] → IsAlone bytes out → IsAlone bytes (after_bytes reply out)
alone_after reply bytes out none is = rw none is

abbrev closing_with : List ℕ → WorkLists → Option (List ℕ)
closing_with bytes l = Some bytes

pub alone_lines : (bytes : List ℕ) (cut : Bool) (k : ℕ) (l : WorkLists) (lines : List (List ℕ)) → IsAlone bytes (output_of_lines list_turn (closing_with bytes) cut k l lines)
alone_lines bytes true k l [] = inr (inl refl)
alone_lines bytes false k l [] = inl refl
alone_lines bytes cut k l (line ∷ lines) = by (turn_of_line list_turn l line) refl (λ (w : WorkLists). alone_lines bytes cut (k + 1) w lines)
  where
    by : (o : Option (LineTurn WorkLists)) → turn_of_line list_turn l line ≡ o
        → ((w : WorkLists) → IsAlone bytes (output_of_lines list_turn (closing_with bytes) cut (k + 1) w lines))
        → IsAlone bytes (option_map_or (λ (t : LineTurn WorkLists). after_bytes t.reply (output_of_lines list_turn (closing_with bytes) cut (k + 1) t.world lines)) o (bad_line k))
    by None e rest = inr (inr (k, refl))
    by (Some t) e rest = alone_after t.reply bytes (output_of_lines list_turn (closing_with bytes) cut (k + 1) t.world lines) (reply_none l line t e) (rest t.world)

-- ---- what is written with other bytes at the end

-- both are the bytes of the end alone, or what is written is the same whatever stands at the end
abbrev pub DifferAtEnd : List ℕ → List ℕ → Output → Output → Type 0
DifferAtEnd xs ys a b = ((a ≡ record { written = xs; status = Done }) × (b ≡ record { written = ys; status = Done })) ⊎ ((a.status ≢ Done) × (b ≡ a))

differ_after : (reply xs ys : List ℕ) (a b : Output) → reply ≡ [] → DifferAtEnd xs ys a b → DifferAtEnd xs ys (after_bytes reply a) (after_bytes reply b)
differ_after reply xs ys a b none is = rw none is

pub differ_lines : (xs ys : List ℕ) (cut : Bool) (k : ℕ) (l : WorkLists) (lines : List (List ℕ))
    → DifferAtEnd xs ys (output_of_lines list_turn (closing_with xs) cut k l lines) (output_of_lines list_turn (closing_with ys) cut k l lines)
differ_lines xs ys true k l [] = inr ((λ e. cc), refl)
differ_lines xs ys false k l [] = inl (refl, refl)
differ_lines xs ys cut k l (line ∷ lines) = by (turn_of_line list_turn l line) refl (λ (w : WorkLists). differ_lines xs ys cut (k + 1) w lines)
  where
    by : (o : Option (LineTurn WorkLists)) → turn_of_line list_turn l line ≡ o
        → ((w : WorkLists) → DifferAtEnd xs ys (output_of_lines list_turn (closing_with xs) cut (k + 1) w lines) (output_of_lines list_turn (closing_with ys) cut (k + 1) w lines))
        → DifferAtEnd xs ys
        (option_map_or (λ (t : LineTurn WorkLists). after_bytes t.reply (output_of_lines list_turn (closing_with xs) cut (k + 1) t.world lines)) o (bad_line k))
        (option_map_or (λ (t : LineTurn WorkLists). after_bytes t.reply (output_of_lines list_turn (closing_with ys) cut (k + 1) t.world lines)) o (bad_line k))
    by None e rest = inr ((λ h. cc), refl)
    by (Some t) e rest =
        differ_after t.reply xs ys (output_of_lines list_turn (closing_with xs) cut (k + 1) t.world lines) (output_of_lines list_turn (closing_with ys) cut (k + 1) t.world lines)
        (reply_none l line t e) (rest t.world)

-- ---- where reading fails

nothing_after : (reply : List ℕ) (part : Option (List ℕ)) → reply ≡ [] → ((w : List ℕ) → part ≡ Some w → w ≡ []) → (w : List ℕ) → after_part reply part ≡ Some w → w ≡ []
nothing_after reply None none is w e = absurd cc
nothing_after reply (Some more) none is w e =
    let all : reply ++ more ≡ w = cc in
    sym all ∙ ap (λ (xs : List ℕ). xs ++ more) none ∙ is more refl

pub nothing_part : (l : WorkLists) (parts : List (List ℕ)) (w : List ℕ) → part_of_lines list_turn l parts ≡ Some w → w ≡ []
nothing_part l [] w e = let same : [] ≡ w = cc in sym same
nothing_part l (rest ∷ []) w e = by (nat_le (length rest) MAX_LINE) e
  where
    empty : Option (List ℕ)
    empty = Some []

    by : (short : Bool) → (if short then empty else None) ≡ Some w → w ≡ []
    by true h = let same : [] ≡ w = cc in sym same
    by false h = absurd cc
nothing_part l (line ∷ part ∷ parts) w e = by (turn_of_line list_turn l line) refl (λ (v : WorkLists). nothing_part v (part ∷ parts)) e
  where
    by : (o : Option (LineTurn WorkLists)) → turn_of_line list_turn l line ≡ o
        → ((v : WorkLists) (u : List ℕ) → part_of_lines list_turn v (part ∷ parts) ≡ Some u → u ≡ [])
        → option_map_or (λ (t : LineTurn WorkLists). after_part t.reply (part_of_lines list_turn t.world (part ∷ parts))) o None ≡ Some w → w ≡ []
    by None said rest h = absurd cc
    by (Some t) said rest h = nothing_after t.reply (part_of_lines list_turn t.world (part ∷ parts)) (reply_none l line t said) (rest t.world) w h
