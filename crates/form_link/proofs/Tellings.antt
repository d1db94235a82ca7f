-- A report, and then lines.
use Rattle.std.proofs.Common.{◌≡◌, ◌≢◌, ℕ, List, ◌++◌, ◌⊎◌, inl, inr, refl, sym, ap, ◌∙◌, subst, append_assoc}
use Rattle.std.specs.declared.option.Option.{Option}
use Rattle.std.specs.Io.KnownBytes.{Appends}
use Rattle.std.proofs.KnownBytes.{Appends-trans}
use Rattle.line_engine.specs.declared.status.Status.{Status}
use Rattle.line_engine.specs.declared.status.Status.TheVariants.{Done, WriteFault, NoMemory}
use Rattle.line_engine.specs.Status.{IsSinkFail}
use Rattle.line_engine.specs.Output.{Output, Begins, Ends}
use Rattle.line_engine.specs.Engine.{Says, StatusCause}
use Rattle.form_link.specs.Report.{SinkCause}

-- an output, by its bytes and status
abbrev out_with : List ℕ → Status → Output
out_with written status = record { written = written; status = status }

-- ---- what was said

module _ (a b c : Option (List ℕ)) (front lines : List ℕ) (status : Status) where
  -- all of the front was said, and then some of the lines
  then_said : (s : Status) → (v : List ℕ) × Says a b Done (out_with front Done) v → (w : List ℕ) × Says b c s (out_with lines status) w
      → (u : List ℕ) × Says a c s (out_with (front ++ lines) status) u
  then_said s (v, first) (w, next) = (front ++ w, record { appends = appends; ends = record { whole = λ t. same (next.ends.whole t); begun = begun }; given = given next.given })
    where
      all : front ≡ v
      all = ap (λ (o : Output). o.written) (first.ends.whole refl)

      appends : Appends a c (front ++ w)
      appends = subst (λ (l : List ℕ). Appends a c (l ++ w)) (sym all) (Appends-trans a b c v w first.appends next.appends)

      same : (out_with lines status ≡ out_with w s) → out_with (front ++ lines) status ≡ out_with (front ++ w) s
      same e = ap (λ (o : Output). out_with (front ++ o.written) o.status) e

      begun : Begins (front ++ w) (front ++ lines)
      begun = (next.ends.begun.0, ap (λ (l : List ℕ). front ++ l) next.ends.begun.1 ∙ sym (append_assoc front w next.ends.begun.0))

      given : (out_with lines status ≡ out_with w s) ⊎ IsSinkFail s → (out_with (front ++ lines) status ≡ out_with (front ++ w) s) ⊎ IsSinkFail s
      given (inl e) = inl (same e)
      given (inr failed) = inr failed

  pub says_then : (r s : Status) → r ≡ Done → (v : List ℕ) × Says a b r (out_with front Done) v → (w : List ℕ) × Says b c s (out_with lines status) w
      → (u : List ℕ) × Says a c s (out_with (front ++ lines) status) u
  says_then r s done (v, first) next = then_said s (v, subst (λ (t : Status). Says a b t (out_with front Done) v) done first) next

-- with a status that isn't whole a prefix is enough
cut_short : (s : Status) (w : List ℕ) (out : Output) → IsSinkFail s → Begins w out.written → Ends s w out
cut_short s w out (inl e) begun = subst (λ (t : Status). Ends t w out) (sym e) (record { whole = λ t. absurd cc; begun = begun })
cut_short s w out (inr e) begun = subst (λ (t : Status). Ends t w out) (sym e) (record { whole = λ t. absurd cc; begun = begun })

-- the front wasn't said whole
pub says_front : (a b : Option (List ℕ)) (front lines : List ℕ) (status s : Status) → s ≢ Done → (v : List ℕ) × Says a b s (out_with front Done) v
    → (v : List ℕ) × Says a b s (out_with (front ++ lines) status) v
says_front a b front lines status s other (v, says) =
    let failed : IsSinkFail s = sink_failed says.given in (
      v,
      record {
        appends = says.appends;
        ends = cut_short s v (out_with (front ++ lines) status) failed (says.ends.begun.0 ++ lines, ap (λ (l : List ℕ). l ++ lines) says.ends.begun.1 ∙ append_assoc v says.ends.begun.0 lines);
        given = inr failed;
      },
    )
  where
    sink_failed : (out_with front Done ≡ out_with v s) ⊎ IsSinkFail s → IsSinkFail s
    sink_failed (inl e) = absurd (other (sym (ap (λ (o : Output). o.status) e)))
    sink_failed (inr failed) = failed

-- where memory was wanting before, that is the status
pub says_wanting : (a b : Option (List ℕ)) (bytes : List ℕ) (status s t : Status) → t ≡ NoMemory → (w : List ℕ) × Says a b s (out_with bytes status) w
    → (w : List ℕ) × Says a b t (out_with bytes status) w
says_wanting a b bytes status s t e (w, says) =
    (w, record { appends = says.appends; ends = cut_short t w (out_with bytes status) (inr e) says.ends.begun; given = inr (inr e) })

-- the lines are those of an output
pub says_of : (a b : Option (List ℕ)) (front lines more : List ℕ) (status first s : Status) → lines ≡ more → status ≡ first → (w : List ℕ) × Says a b s (out_with (front ++ lines) status) w
    → (w : List ℕ) × Says a b s (out_with (front ++ more) first) w
says_of a b front lines more status first s is same says =
    subst (λ (t : Status). (w : List ℕ) × Says a b s (out_with (front ++ more) t) w) same
    (subst (λ (l : List ℕ). (w : List ℕ) × Says a b s (out_with (front ++ l) status) w) is says)

-- ---- causes

-- one after the other
pub caused_then : (before between now : ℕ) (r s : Status) → r ≡ Done → StatusCause before between r WriteFault → StatusCause between now s WriteFault → StatusCause before now s WriteFault
caused_then before between now r s done first next =
    let stays : between ≡ before = first.stayed (λ e. let clash : Done ≡ WriteFault = sym done ∙ e in cc) in
    subst (λ (n : ℕ). StatusCause n now s WriteFault) stays next

pub caused_told : (before now : ℕ) (s : Status) → StatusCause before now s WriteFault → SinkCause before now s
caused_told before now s c = record { later = c.later; rose = c.rose; stayed = λ other full. c.stayed other }
