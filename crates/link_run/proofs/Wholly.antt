-- From what each worker leaves to the whole run.
use Rattle.std.proofs.Common.{◌≡◌, ℕ, zero, suc, ◌<◌, ◌≤◌, Bool, Option, None, Some, Result, Ok, Err, cond, List, [], ◌∷◌, length, take, slice_index_or, refl, sym, ap, ◌∙◌, subst, arith, eq-eqb}
use Rattle.peer_core.specs.Peer.{Peer, fresh_peer}
use Rattle.peer_lock.specs.KnownPass.{KnownPass}
use Rattle.peer_lock.specs.Run.{steps_by}
use Rattle.peer_lock.specs.Rule.{HasNumber, newcomer}
use Rattle.peer_lock.specs.Answers.{ClosesRun, KnowsFull}
use Rattle.peer_lock.specs.Made.{Made}
use Rattle.peer_lock.specs.Laws.{answers_by}
use Rattle.peer_lock.specs.declared.call.Call.{Call}
use Rattle.peer_lock.specs.declared.view.View.{View}
use Rattle.peer_step.specs.declared.step.Step.{Step}
use Rattle.session_core.specs.declared.fault.SessionFault.{SessionFault}
use Rattle.session_core.specs.declared.fault.SessionFault.TheVariants as session_faults
use Rattle.session_core.specs.Session.{pass_steps, pass_answers}
use Rattle.link_run.specs.declared.job.Job.{Job}
use Rattle.link_run.specs.declared.own.OwnEnd.{OwnEnd}
use Rattle.link_run.specs.declared.own.OwnEnd.TheVariants.{Done, RunFull, NoMemory}
use Rattle.link_run.specs.Gathered.{IsIn, EachOf, all_numbers}
use Rattle.link_run.specs.Jobs.{passes_of}
use Rattle.link_run.specs.Worked.{MakesOwn, EndedSo}
use Rattle.link_run.specs.Served.{OwnIn, IsFullRun, IsRunOf}
use Rattle.link_run.proofs.Gathering.{kept_in_run}

-- what holds at each index holds of each pass
pub each_pass : {L : Type 0} (P : KnownPass → Type 0) (xs : List (Job L)) → ((i : ℕ) (d : Job L) → i < length xs → P (slice_index_or xs i d).pass) → EachOf P (passes_of xs)
each_pass P [] f = tt
each_pass P (x ∷ xs) f = (f 0 x (omega arith), each_pass P xs (λ i d h. f (suc i) d (omega arith)))

pub each_index : {L : Type 0} (P : KnownPass → Type 0) (xs : List (Job L)) (i : ℕ) (d : Job L) → EachOf P (passes_of xs) → i < length xs → P (slice_index_or xs i d).pass
each_index P [] i d e h = absurd (omega arith)
each_index P (x ∷ xs) zero d e h = e.0
each_index P (x ∷ xs) (suc i) d e h = each_index P xs i d e.1 (omega arith)

-- passes of one number each
pub all_numbers-ones : {L : Type 0} (xs : List (Job L)) → ((i : ℕ) (d : Job L) → i < length xs → length (slice_index_or xs i d).pass.view.numbers ≡ 1) → all_numbers (passes_of xs) ≡ length xs
all_numbers-ones [] f = refl
all_numbers-ones (x ∷ xs) f = omega (arith, f 0 x (omega arith), all_numbers-ones xs (λ i d h. f (suc i) d (omega arith)))

has_self : (n : ℕ) → HasNumber (n ∷ []) n
has_self n = omega (arith, ap {B = ℕ} (λ (b : Bool). cond b 1 0) (eq-eqb n n refl))

pub has_one : (n : ℕ) (ns : List ℕ) → ns ≡ n ∷ [] → HasNumber ns n
has_one n ns e = subst (λ (l : List ℕ). HasNumber l n) (sym e) (has_self n)

-- the callers of a whole run are those that the pass stands for which closed it
pub run_of_all : (v : View) (p : Peer) (run : List Call) (callers : ℕ) → v.made ≡ callers → ClosesRun v p run → IsRunOf callers run
run_of_all v p run callers made closes = record { others = λ caller high. closes.callers caller (omega arith); room = closes.room }

-- the own steps in the whole run
pub own_steps_in_run : (v w : View) (m site : ℕ) (steps : List Step) (r : OwnEnd) (run : List Call) → v ≡ newcomer 0 m site → steps_by 0 run ≡ steps_by 0 w.seen → w.floor ≤ length run → MakesOwn v w steps r → OwnIn steps r run
own_steps_in_run v w m site steps Done run e same floor made = let own : Made (newcomer 0 m site) w steps = subst (λ (x : View). Made x w steps) e made in same ∙ own
own_steps_in_run v w m site steps RunFull run e same floor made = let own : Made (newcomer 0 m site) w (take made.1.0 steps) = subst (λ (x : View). Made x w (take made.1.0 steps)) e made.1.1 in (omega (arith, floor, made.0), (made.1.0, same ∙ own))
own_steps_in_run v w m site steps NoMemory run e same floor made = let own : Made (newcomer 0 m site) w (take made.0 steps) = subst (λ (x : View). Made x w (take made.0 steps)) e made.1 in (made.0, same ∙ own)

-- the steps of a pass of one number that was joined to the last one, in the whole run
pub steps_in_run : (k last : KnownPass) (p : Peer) (run : List Call) (n : ℕ) → k.view.number ≡ n → k.view.numbers ≡ n ∷ [] → IsIn k.view last.view → ClosesRun last.view p run
    → steps_by n run ≡ pass_steps k
steps_in_run k last p run n number numbers i c =
    let mine : HasNumber k.view.numbers n = has_one n k.view.numbers numbers in
    c.steps n (i.numbers n mine) ∙ i.steps n mine ∙ ap (λ (m : ℕ). steps_by m k.view.seen) (sym number)

-- and their answers
pub answers_in_run : (k last : KnownPass) (p : Peer) (run : List Call) (n site : ℕ) → k.view.number ≡ n → k.view.numbers ≡ n ∷ [] → k.view.origin ≡ site → IsIn k.view last.view → ClosesRun last.view p run
    → answers_by n (fresh_peer site) run ≡ pass_answers k
answers_in_run k last p run n site number numbers origin i c =
    kept_in_run k.view last.view p run (fresh_peer site) n i c (has_one n k.view.numbers numbers)
    ∙ ap (λ (o : ℕ). answers_by n (fresh_peer o) k.view.seen) (sym origin)
    ∙ ap (λ (m : ℕ). answers_by m (fresh_peer k.view.origin) k.view.seen) (sym number)

-- a session that met the full run, and whose pass was joined to the last one
pub full_in_run : {L : Type 0} (got sent : L → Option (List (List ℕ))) (faults closes : L → ℕ) (validates : Bool) (a b : Job L) (o : Option (Result ℕ SessionFault)) (last : View) (p : Peer) (run : List Call)
    → EndedSo got sent faults closes validates a b o → o ≡ Some (Err session_faults.RunFull) → IsIn b.pass.view last → ClosesRun last p run → IsFullRun run
full_in_run got sent faults closes validates a b None last p run ended is i c = cc
full_in_run got sent faults closes validates a b (Some (Ok n)) last p run ended is i c = cc
full_in_run got sent faults closes validates a b (Some (Err fault)) last p run ended is i c =
    let met : fault ≡ session_faults.RunFull = cc in
    let full : KnowsFull b.pass.view = ended.1.full met in
    omega (arith, full, i.floor, c.floor)
