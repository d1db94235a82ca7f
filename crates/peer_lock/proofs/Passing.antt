-- A pass from one call to the next.
use Rattle.std.proofs.Common.{◌≡◌, ℕ, ◌+◌, ◌≤◌, List, [], ◌++◌, length, take, refl, sym, ap, ◌∙◌, subst, arith, append_assoc, append-nil}
use Rattle.std.proofs.Math.Seq.{take-append-add, take-append_seam}
use Rattle.std.proofs.lemmas.List.{take-append-le, take_all}
use mathlib.Core.Logic.{dite}
use native.Mathlib.Decide.{dec_le}
use Rattle.peer_step.specs.declared.step.Step.{Step}
use Rattle.peer_lock.specs.declared.view.View.{View}
use Rattle.peer_lock.specs.KnownPass.{KnownPass}
use Rattle.peer_lock.specs.Run.{steps_by}
use Rattle.peer_lock.specs.Answers.{IsSame}
use Rattle.peer_lock.specs.Made.{Made, MadeFirst}

pub same_self : (k : KnownPass) → IsSame k k
same_self k = record { table = refl; id = refl; number = refl; numbers = refl; origin = refl; made = refl }

pub same_then : (k l m : KnownPass) → IsSame k l → IsSame l m → IsSame k m
same_then k l m p q = record {
  table = q.table ∙ p.table;
  id = q.id ∙ p.id;
  number = q.number ∙ p.number;
  numbers = q.numbers ∙ p.numbers;
  origin = q.origin ∙ p.origin;
  made = q.made ∙ p.made;
}

-- a pass that saw no more has made no step
pub made_none : (v w : View) → w.seen ≡ v.seen → Made v w []
made_none v w seen = ap (steps_by v.number) seen ∙ sym (append-nil (steps_by v.number v.seen))

-- some steps, and then more
pub made_then : (u v w : View) (xs ys : List Step) → v.number ≡ u.number → Made u v xs → Made v w ys → Made u w (xs ++ ys)
made_then u v w xs ys number first then =
    ap (λ (n : ℕ). steps_by n w.seen) (sym number)
    ∙ then
    ∙ ap (λ (n : ℕ). steps_by n v.seen ++ ys) number
    ∙ ap (λ (l : List Step). l ++ ys) first
    ∙ append_assoc (steps_by u.number u.seen) xs ys

-- some steps, and then the first ones of more
pub made_first_then : (u v w : View) (xs ys : List Step) → v.number ≡ u.number → Made u v xs → MadeFirst v w ys → MadeFirst u w (xs ++ ys)
made_first_then u v w xs ys number first (k, then) =
    (length xs + k, subst (Made u w) (sym (take-append-add xs ys k)) (made_then u v w xs (take k ys) number first then))

-- the first steps of a list are those of a longer one
pub made_first_of : (v w : View) (xs ys : List Step) → MadeFirst v w xs → MadeFirst v w (xs ++ ys)
made_first_of v w xs ys (k, made) = dite (dec_le k (length xs))
    (λ less. (k, subst (Made v w) (sym (take-append-le k xs ys less)) made))
    (λ more. (length xs, subst (Made v w) (sym (take-append_seam xs ys ∙ sym (take_all k xs (omega arith)))) made))
