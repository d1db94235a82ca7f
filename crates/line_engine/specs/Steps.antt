-- What the steps of a run say of what was written.
use Rattle.std.specs.Prelude.{◌≡◌, ℕ, ◌≤◌, Bool, List, [], ◌++◌, take, Option, Result, Ok, Err, IsTrue}
use Rattle.std.specs.Io.KnownBytes.{Appends}
use Rattle.edit_io.specs.Causes.{next_count}
use Rattle.line_engine.specs.declared.status.Status.{Status}
use Rattle.line_engine.specs.declared.status.Stop.{Stop}
use Rattle.line_engine.specs.declared.status.Stop.TheVariants as stops
use Rattle.line_engine.specs.declared.form.Next.{Next}
use Rattle.line_engine.specs.declared.form.Next.TheVariants.{Waiting}
use Rattle.line_engine.specs.Output.{is_whole, Ends}
use Rattle.line_engine.specs.Form.{Meaning, Follows, Goes, Rests}

-- the next thing was asked for, and its reply came behind the bytes that were gathered
pub record Answers {F : Type 0} (m : Meaning F) (old new : F) (before after : List ℕ) (next : Next) : Type 0 where
  pub reply : List ℕ
  pub behind : after ≡ before ++ reply
  pub goes : Goes m old new reply next
  pub quiet : next ≡ Waiting → reply ≡ []

-- some that begin these bytes were written, and the others are left
abbrev pub Offers : Option (List ℕ) → Option (List ℕ) → List ℕ → List ℕ → Type 0
Offers sink_old sink_new bytes left = (offered : List ℕ) × Appends sink_old sink_new offered × (bytes ≡ offered ++ left)

-- some that begin these bytes were written, and no more of them
abbrev pub BreaksOff : Option (List ℕ) → Option (List ℕ) → List ℕ → Type 0
BreaksOff sink_old sink_new bytes = (n : ℕ) × Appends sink_old sink_new (take n bytes)

-- the form took these bytes, what was to be written of them was written, and nothing is left to answer
pub record Takes {F : Type 0} (m : Meaning F) (old new : F)
    (sink_old sink_new : Option (List ℕ)) (taken written : List ℕ) : Type 0 where
  pub follows : Follows m old new taken written
  pub rests : Rests m new
  pub appends : Appends sink_old sink_new written

-- the run ended so in these bytes, whatever would have come after them
pub record Stops {F : Type 0} (m : Meaning F) (old new : F)
    (sink_old sink_new : Option (List ℕ)) (taken : List ℕ) (status : Status) (written : List ℕ) : Type 0 where
  pub ends : (cut : Bool) (more : List ℕ) → Ends status written (m.output old cut (taken ++ more))
  pub appends : Appends sink_old sink_new written
  pub leaves : IsTrue (is_whole status) → (cut : Bool) (more : List ℕ) → m.leaves old cut (taken ++ more) new

-- the run ended so at the end, of the input or of the part of it that counts
pub record Closes {F : Type 0} (m : Meaning F) (old new : F)
    (sink_old sink_new : Option (List ℕ)) (cut : Bool) (status : Status) (written : List ℕ) : Type 0 where
  pub ends : Ends status written (m.output old cut [])
  pub appends : Appends sink_old sink_new written
  pub leaves : IsTrue (is_whole status) → m.leaves old cut [] new

-- a sink's count of faults after a step that answered so
abbrev pub stop_faults_after : {T : Type 0} → ℕ → Result T Stop → ℕ
stop_faults_after before (Ok x) = before
stop_faults_after before (Err stops.WriteFault) = next_count before
stop_faults_after before (Err stops.BadInput) = before
stop_faults_after before (Err stops.NoMemory) = before

-- a sink's count never falls: a step that a write stops counts one more, and another leaves it
pub record StopCause {T : Type 0} (before now : ℕ) (result : Result T Stop) : Type 0 where
  pub later : before ≤ now
  pub counted : now ≡ stop_faults_after before result
