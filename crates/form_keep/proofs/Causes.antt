-- Which count of faults rose, by why a run stopped.
use Rattle.std.proofs.Common.{◌≡◌, ◌⊎◌, ⊎_elim, ℕ, ◌≤◌, Bool, false, List, Option, Result, Ok, Err, IfErr, refl, sym, ap, ◌∙◌, subst, arith}
use Rattle.std.specs.Prelude.{if◌then◌else◌}
use Rattle.edit_io.specs.Causes.{next_count}
use Rattle.line_engine.specs.declared.status.Status.{Status}
use Rattle.line_engine.specs.declared.status.Status.TheVariants as statuses
use Rattle.line_engine.specs.Status.{IsSinkFail}
use Rattle.line_engine.specs.Output.{Output}
use Rattle.line_engine.specs.Engine.{Reads, StatusCause, Says}
use Rattle.peer_step.specs.declared.step.Step.{Step}
use Rattle.form_keep.specs.declared.stopped.Stopped.{Stopped}
use Rattle.form_keep.specs.declared.stopped.Stopped.TheVariants.{BadLine, TooLong, ReadFault, WriteFault, NoMemory, DiskFault, BadStore, StoreFull}
use Rattle.form_keep.specs.Stopping.{is_write_fault, CountsStops, ReadCause, WriteCause, KeepCause, TellCause}
use Rattle.form_keep.specs.Reader.{StepsStop}
use Rattle.form_keep.specs.Run.{stop_output}

-- ---- where reading stops

pub stop_reads : (l r : Option (List ℕ)) (steps : List Step) (stopped : Stopped) → StepsStop l r steps stopped → Reads l r
stop_reads l r steps (BadLine number) h = h.reads
stop_reads l r steps TooLong h = h.reads
stop_reads l r steps ReadFault h = h.reads
stop_reads l r steps NoMemory h = h.reads
stop_reads l r steps WriteFault h = absurd h
stop_reads l r steps DiskFault h = absurd h
stop_reads l r steps (BadStore offset) h = absurd h
stop_reads l r steps StoreFull h = absurd h

no_write : (l r : Option (List ℕ)) (steps : List Step) (stopped : Stopped) → StepsStop l r steps stopped → is_write_fault stopped ≡ false
no_write l r steps (BadLine number) h = refl
no_write l r steps TooLong h = refl
no_write l r steps ReadFault h = refl
no_write l r steps NoMemory h = refl
no_write l r steps WriteFault h = absurd h
no_write l r steps DiskFault h = absurd h
no_write l r steps (BadStore offset) h = absurd h
no_write l r steps StoreFull h = absurd h

-- a count that stays counts no stop like this
stays : {T : Type 0} (counts : Stopped → Bool) (before now : ℕ) (stopped : Stopped) → now ≡ before → counts stopped ≡ false → CountsStops {T = T} counts before now (Err stopped)
stays counts before now stopped same none = record { later = omega (arith, same); counted = same ∙ ap (λ b. if b then next_count before else before) (sym none) }

-- neither the sink nor the disk failed
pub stop_write : {T : Type 0} (l r : Option (List ℕ)) (steps : List Step) (stopped : Stopped) (before now : ℕ) → StepsStop l r steps stopped → now ≡ before → WriteCause {T = T} before now (Err stopped)
stop_write l r steps stopped before now h same = stays is_write_fault before now stopped same (no_write l r steps stopped h)

no_disk : (l r : Option (List ℕ)) (steps : List Step) (stopped : Stopped) → StepsStop l r steps stopped → stopped ≡ DiskFault → ⊥
no_disk l r steps stopped h e = let there : StepsStop l r steps DiskFault = subst (StepsStop l r steps) e h in there

pub stop_disk : {T : Type 0} (l r : Option (List ℕ)) (steps : List Step) (stopped : Stopped) (before now : ℕ) → StepsStop l r steps stopped → before ≤ now → KeepCause {T = T} before now (Err stopped)
stop_disk l r steps stopped before now h le = record { later = le; rose = λ e. absurd (no_disk l r steps stopped h (let is : stopped ≡ DiskFault = cc in is)) }

-- ---- where memory was wanting at the end

pub quiet : {T : Type 0} (counts : Stopped → Bool) (r : Result T Stopped) (before now : ℕ) → counts NoMemory ≡ false → now ≡ before → IfErr r (λ stopped. stopped ≡ NoMemory) → CountsStops counts before now r
quiet counts (Ok x) before now none same h = record { later = omega (arith, same); counted = same }
quiet counts (Err stopped) before now none same h = stays counts before now stopped same (ap counts h ∙ none)

-- ---- by the status that is given

-- a status of an output, or of a sink's failure, is no read fault
not_read : (status : Status) (out : Output) (written : List ℕ) → (out.status ≡ statuses.ReadFault → ⊥) → (out ≡ record { written = written; status = status }) ⊎ IsSinkFail status → status ≡ statuses.ReadFault → ⊥
not_read status out written other given e = ⊎_elim
    (λ (is : out ≡ record { written = written; status = status }). other (ap (λ (o : Output). o.status) is ∙ e))
    (λ (failed : IsSinkFail status). ⊎_elim (λ (w : status ≡ statuses.WriteFault). write_is w e) (λ (m : status ≡ statuses.NoMemory). memory_is m e) failed)
    given
  where
    write_is : status ≡ statuses.WriteFault → status ≡ statuses.ReadFault → ⊥
    write_is w r = cc

    memory_is : status ≡ statuses.NoMemory → status ≡ statuses.ReadFault → ⊥
    memory_is m r = cc

stayed_read : (before now : ℕ) (status : Status) → before ≤ now → now ≡ before → (status ≡ statuses.ReadFault → ⊥) → StatusCause before now status statuses.ReadFault
stayed_read before now status later same other = record { later = later; rose = λ e. absurd (other e); stayed = λ ne. same }

pub tells_read : {T : Type 0} (before now sink_old sink_new : ℕ) (a b : Option (List ℕ)) (stopped : Stopped) (status : Status) (written : List ℕ) → ReadCause {T = T} before now (Err stopped) → TellCause sink_old sink_new stopped status
    → Says a b status (stop_output stopped) written → StatusCause before now status statuses.ReadFault
tells_read before now sink_old sink_new a b ReadFault status written r t s = record { later = r.later; rose = λ e. r.counted; stayed = λ ne. absurd (ne t.1) }
tells_read before now sink_old sink_new a b WriteFault status written r t s = stayed_read before now status r.later r.counted (not_read status (stop_output WriteFault) written (λ e. cc) s.given)
tells_read before now sink_old sink_new a b NoMemory status written r t s = stayed_read before now status r.later r.counted (not_read status (stop_output NoMemory) written (λ e. cc) s.given)
tells_read before now sink_old sink_new a b (BadLine number) status written r t s = stayed_read before now status r.later r.counted (not_read status (stop_output (BadLine number)) written (λ e. cc) s.given)
tells_read before now sink_old sink_new a b TooLong status written r t s = stayed_read before now status r.later r.counted (not_read status (stop_output TooLong) written (λ e. cc) s.given)
tells_read before now sink_old sink_new a b DiskFault status written r t s = stayed_read before now status r.later r.counted (not_read status (stop_output DiskFault) written (λ e. cc) s.given)
tells_read before now sink_old sink_new a b (BadStore offset) status written r t s = stayed_read before now status r.later r.counted (not_read status (stop_output (BadStore offset)) written (λ e. cc) s.given)
tells_read before now sink_old sink_new a b StoreFull status written r t s = stayed_read before now status r.later r.counted (not_read status (stop_output StoreFull) written (λ e. cc) s.given)

from_same : (before mid now : ℕ) (status : Status) → mid ≡ before → StatusCause mid now status statuses.WriteFault → StatusCause before now status statuses.WriteFault
from_same before mid now status same h = subst (λ (n : ℕ). StatusCause n now status statuses.WriteFault) same h

still : (before mid now : ℕ) (status : Status) → mid ≡ before → now ≡ mid → (status ≡ statuses.WriteFault → ⊥) → StatusCause before now status statuses.WriteFault
still before mid now status first next other = record { later = omega (arith, first, next); rose = λ e. absurd (other e); stayed = λ ne. next ∙ first }

read_no_write : (status : Status) → status ≡ statuses.ReadFault → status ≡ statuses.WriteFault → ⊥
read_no_write status r w = cc

memory_no_write : (status : Status) → status ≡ statuses.NoMemory → status ≡ statuses.WriteFault → ⊥
memory_no_write status m w = cc

pub tells_write : {T : Type 0} (before mid now : ℕ) (stopped : Stopped) (status : Status) → WriteCause {T = T} before mid (Err stopped) → TellCause mid now stopped status → StatusCause before now status statuses.WriteFault
tells_write before mid now WriteFault status w t = record { later = omega (arith, w.later, t.0); rose = λ e. t.0 ∙ w.counted; stayed = λ ne. absurd (ne t.1) }
tells_write before mid now ReadFault status w t = still before mid now status w.counted t.0 (read_no_write status t.1)
tells_write before mid now NoMemory status w t = still before mid now status w.counted t.0 (memory_no_write status t.1)
tells_write before mid now (BadLine number) status w t = from_same before mid now status w.counted t
tells_write before mid now TooLong status w t = from_same before mid now status w.counted t
tells_write before mid now DiskFault status w t = from_same before mid now status w.counted t
tells_write before mid now (BadStore offset) status w t = from_same before mid now status w.counted t
tells_write before mid now StoreFull status w t = from_same before mid now status w.counted t

-- the same stop of another call
pub cause_as : {T U : Type 0} (counts : Stopped → Bool) (before now : ℕ) (stopped : Stopped) → CountsStops {T = T} counts before now (Err stopped) → CountsStops {T = U} counts before now (Err stopped)
cause_as counts before now stopped h = record { later = h.later; counted = h.counted }
