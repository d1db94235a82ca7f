-- From what sessions leave to how their links stand in the run.
use Rattle.std.proofs.Common.{◌≡◌, ℕ, zero, suc, ◌+◌, ◌<◌, Bool, List, [], ◌∷◌, ◌++◌, Option, Some, None, Result, Ok, Err, length, slice_index_or, refl, sym, ap, ◌∙◌, subst, arith, eq-eqb, ne_eqb}
use Rattle.std.specs.Prelude.{slice_get, sum_by}
use Rattle.std.proofs.lemmas.List.Sums.{sum_by-cons}
use Rattle.std.proofs.lemmas.Option.{slice_get_within, get_or_from_slice_get}
use mathlib.Core.Logic.{dite}
use native.Mathlib.Decide.{ℕ_discrete}
use Rattle.edit_io.specs.Link.{with_last}
use Rattle.edit_io.specs.Door.{IsUnused, IsEmptyWhereTold, hurt_by}
use Rattle.atomic_table.specs.Seated.{TableId}
use Rattle.peer_step.specs.declared.step.Step.{Step}
use Rattle.peer_core.specs.Peer.{Peer, fresh_peer}
use Rattle.peer_core.specs.After.{peer_after}
use Rattle.peer_lock.specs.declared.call.Call.{Call}
use Rattle.peer_lock.specs.declared.view.View.{View}
use Rattle.peer_lock.specs.KnownPass.{KnownPass}
use Rattle.peer_lock.specs.Run.{steps_by}
use Rattle.peer_lock.specs.Laws.{answers_by}
use Rattle.peer_lock.specs.Rule.{newcomer}
use Rattle.session_core.specs.declared.fault.SessionFault.{SessionFault}
use Rattle.session_core.specs.declared.fault.SessionFault.TheVariants as session_faults
use Rattle.session_core.specs.Events.{SessionState, Mode, serving, first_state, messages_in, messages_out, steps_in}
use Rattle.session_core.specs.Session.{side, Talked, pass_steps, pass_answers, faults_after_session, LeavesSide}
use Rattle.link_run.specs.declared.job.Job.{Job}
use Rattle.link_run.specs.Gathered.{EachOf}
use Rattle.link_run.specs.Jobs.{links_of, outcomes_of}
use Rattle.link_run.specs.Taken.{IsUnservedJob, hurt_among}
use Rattle.link_run.specs.Worked.{EndedSo, Worked}
use Rattle.link_run.specs.Served.{IsFullRun, HaveDealtPasses}
use Rattle.link_run.specs.Standing.{IsWhereTold, EndsIn, SessionInRun, ServedInRun, LinksUntouched}
use Rattle.link_run.specs.Counts.{failures_in}
use Rattle.link_run.proofs.DealtPasses.{same_some}
use Rattle.link_run.proofs.Gathering.{length-outcomes}

-- as many answers as steps
pub as_many_answers : (n : ℕ) (p : Peer) (run : List Call) → length (answers_by n p run) ≡ length (steps_by n run)
as_many_answers n p [] = refl
as_many_answers n p (e ∷ es) = dite (ℕ_discrete e.caller n)
    (λ h. let y = eq-eqb e.caller n h in rw y (omega (arith, as_many_answers n (peer_after p e.step) es)))
    (λ h. let y = ne_eqb e.caller n h in rw y (as_many_answers n (peer_after p e.step) es))

-- what was put behind nothing is all
where_told : {A : Type 0} (o : Option (List A)) (xs : List A) → IsEmptyWhereTold o → IsWhereTold (with_last o xs) xs
where_told None xs h = tt
where_told (Some ys) xs h = ap (λ l. l ++ xs) h

-- a piece of a session from its beginning, on a link that was unused
pub talk_in_run : {L : Type 0} (got sent : L → Option (List (List ℕ))) (faults closes : L → ℕ) (mode : Mode) (site caller : ℕ) (before : List Step) (run : List Call) (k l : KnownPass) (a b : L) (ended : Result ℕ SessionFault) (t : SessionState)
    → Talked mode (first_state mode.rounds) t (side k (got a) (sent a)) (side l (got b) (sent b)) → EndsIn ended t
    → IsUnused (faults a) (closes a) (got a) (sent a) → LeavesSide closes faults k l a b ended
    → pass_steps k ≡ before → steps_by caller run ≡ pass_steps l → answers_by caller (fresh_peer site) run ≡ pass_answers l
    → (ended ≡ Err session_faults.RunFull → IsFullRun run)
    → SessionInRun got sent faults closes mode site caller before run b ended
talk_in_run got sent faults closes mode site caller before run k l a b ended t talked ends unused left made steps answers full = record {
  events = talked.trace;
  last = t;
  leads = talked.leads;
  ends = ends;
  steps_are = steps ∙ talked.steps_are ∙ ap (λ (x : List Step). x ++ steps_in talked.trace) made;
  told_before = pass_answers k;
  as_many = as_many_answers k.view.number (fresh_peer k.view.origin) k.view.seen ∙ ap (λ (x : List Step). length x) made;
  answers_are = answers ∙ talked.answers_are;
  got_is = subst (λ o. IsWhereTold o (messages_in talked.trace)) (sym talked.got_is) (where_told (got a) (messages_in talked.trace) unused.none_came);
  sent_is = subst (λ o. IsWhereTold o (messages_out talked.trace)) (sym talked.sent_is) (where_told (sent a) (messages_out talked.trace) unused.none_went);
  closes_is = omega (arith, left.closes_are, unused.no_close);
  faults_is = left.faults_are ∙ ap (λ (n : ℕ). faults_after_session n ended) unused.no_fault;
  full = full;
}

-- a job whose session ended so
pub served_in_run : {L : Type 0} (got sent : L → Option (List (List ℕ))) (faults closes : L → ℕ) (validates : Bool) (site caller : ℕ) (run : List Call) (a b : Job L) (o : Option (Result ℕ SessionFault))
    → EndedSo got sent faults closes validates a b o → a.pass.view ≡ newcomer caller 0 site
    → IsUnused (faults a.link) (closes a.link) (got a.link) (sent a.link)
    → steps_by caller run ≡ pass_steps b.pass → answers_by caller (fresh_peer site) run ≡ pass_answers b.pass
    → (o ≡ Some (Err session_faults.RunFull) → IsFullRun run)
    → ServedInRun got sent faults closes (serving validates) site caller run b.link o
served_in_run got sent faults closes validates site caller run a b None ended new unused steps answers full = ended
served_in_run got sent faults closes validates site caller run a b (Some (Ok n)) ended new unused steps answers full =
    let none : pass_steps a.pass ≡ [] = ap (λ (v : View). steps_by v.number v.seen) new in
    talk_in_run got sent faults closes (serving validates) site caller [] run a.pass b.pass a.link b.link (Ok n) ended.0.0 ended.0.1 (ended.0.2, ended.0.3) unused ended.1 none steps answers (λ e. full (ap Some e))
served_in_run got sent faults closes validates site caller run a b (Some (Err fault)) ended new unused steps answers full =
    let none : pass_steps a.pass ≡ [] = ap (λ (v : View). steps_by v.number v.seen) new in
    talk_in_run got sent faults closes (serving validates) site caller [] run a.pass b.pass a.link b.link (Err fault) ended.0.0 ended.0.1 ended.0.2 unused ended.1 none steps answers (λ e. full (ap Some e))

-- ---- jobs and their links, place by place

length-links_of : {L : Type 0} (js : List (Job L)) → length (links_of js) ≡ length js
length-links_of [] = refl
length-links_of (j ∷ js) = omega (arith, length-links_of js)

pub as_many_outcomes : {L : Type 0} (js : List (Job L)) → length (links_of js) ≡ length (outcomes_of js)
as_many_outcomes js = length-links_of js ∙ sym (length-outcomes js)

-- the job of a link, and of an outcome
job_of_link : {L : Type 0} (js : List (Job L)) (i : ℕ) (link : L) → slice_get (links_of js) i ≡ Some link → (j : Job L) × (slice_get js i ≡ Some j) × (j.link ≡ link)
job_of_link [] i link e = absurd (omega (arith, slice_get_within [] i link e))
job_of_link (j ∷ js) zero link e = (j, refl, same_some j.link link e)
job_of_link (j ∷ js) (suc i) link e = job_of_link js i link e

job_of_outcome : {L : Type 0} (js : List (Job L)) (i : ℕ) (o : Option (Result ℕ SessionFault)) → slice_get (outcomes_of js) i ≡ Some o → (j : Job L) × (slice_get js i ≡ Some j) × (j.outcome ≡ o)
job_of_outcome [] i o e = absurd (omega (arith, slice_get_within [] i o e))
job_of_outcome (j ∷ js) zero o e = (j, refl, same_some j.outcome o e)
job_of_outcome (j ∷ js) (suc i) o e = job_of_outcome js i o e

-- what holds of each job holds of the one at a place
each_job : {L : Type 0} (P : Job L → Type 0) (js : List (Job L)) (i : ℕ) (d : Job L) → EachOf P js → i < length js → P (slice_index_or js i d)
each_job P [] i d e h = absurd (omega arith)
each_job P (j ∷ js) zero d e h = e.0
each_job P (j ∷ js) (suc i) d e h = each_job P js i d e.1 (omega arith)

-- links that were worked
pub links_in_run : {L : Type 0} (got sent : L → Option (List (List ℕ))) (faults closes : L → ℕ) (validates : Bool) (site : ℕ) (table : TableId) (before after : List (Job L)) (run : List Call)
    → HaveDealtPasses table site before → EachOf (IsUnservedJob got sent faults closes) before → length after ≡ length before
    → ((i : ℕ) (d : Job L) → i < length before → Worked got sent faults closes validates (slice_index_or before i d) (slice_index_or after i d))
    → ((i : ℕ) (d : Job L) → i < length before → steps_by (i + 1) run ≡ pass_steps (slice_index_or after i d).pass)
    → ((i : ℕ) (d : Job L) → i < length before → answers_by (i + 1) (fresh_peer site) run ≡ pass_answers (slice_index_or after i d).pass)
    → ((i : ℕ) (d : Job L) → i < length before → (slice_index_or after i d).outcome ≡ Some (Err session_faults.RunFull) → IsFullRun run)
    → (i : ℕ) (link : L) (o : Option (Result ℕ SessionFault)) → slice_get (links_of after) i ≡ Some link → slice_get (outcomes_of after) i ≡ Some o
    → ServedInRun got sent faults closes (serving validates) site (i + 1) run link o
links_in_run {L} got sent faults closes validates site table before after run dealt ready many worked steps answers full i link o there told =
    let j = job_of_link after i link there in
    let k = job_of_outcome after i o told in
    let d : Job L = j.0 in
    let less : i < length before = omega (arith, slice_get_within after i d j.1, many) in
    let b : Job L = slice_index_or after i d in
    let is : b ≡ d = get_or_from_slice_get after i d d j.1 in
    let is' : b ≡ k.0 = get_or_from_slice_get after i k.0 d k.1 in
    let of_link : b.link ≡ link = ap (λ (x : Job L). x.link) is ∙ j.2 in
    let of_outcome : b.outcome ≡ o = ap (λ (x : Job L). x.outcome) is' ∙ k.2 in
    let stands : ServedInRun got sent faults closes (serving validates) site (i + 1) run b.link b.outcome =
    served_in_run got sent faults closes validates site (i + 1) run (slice_index_or before i d) b b.outcome (worked i d less).ended (dealt i d less).1
    (each_job (IsUnservedJob got sent faults closes) before i d ready less).unused (steps i d less) (answers i d less) (full i d less) in
    subst (λ (x : Option (Result ℕ SessionFault)). ServedInRun got sent faults closes (serving validates) site (i + 1) run link x) of_outcome
    (subst (λ (x : L). ServedInRun got sent faults closes (serving validates) site (i + 1) run x b.outcome) of_link stands)

-- links that were not
pub links_untouched : {L : Type 0} (got sent : L → Option (List (List ℕ))) (faults closes : L → ℕ) (js : List (Job L)) (used used' : Option (List L)) → EachOf (IsUnservedJob got sent faults closes) js → used' ≡ with_last used (links_of js)
    → LinksUntouched got sent faults closes used used' (outcomes_of js)
links_untouched {L} got sent faults closes js used used' ready is = record {
  links = links_of js;
  many = as_many_outcomes js;
  used_is = is;
  unused = λ i link e.
      let j = job_of_link js i link e in
      let at : slice_index_or js i j.0 ≡ j.0 = get_or_from_slice_get js i j.0 j.0 j.1 in
      let P : L → Type 0 = λ x. IsUnused (faults x) (closes x) (got x) (sent x) in
      subst P (ap (λ (x : Job L). x.link) at ∙ j.2) (each_job (IsUnservedJob got sent faults closes) js i j.0 ready (slice_get_within js i j.0 j.1)).unused;
  unended = λ i o e.
      let j = job_of_outcome js i o e in
      let at : slice_index_or js i j.0 ≡ j.0 = get_or_from_slice_get js i j.0 j.0 j.1 in
      sym (ap (λ (x : Job L). x.outcome) at ∙ j.2) ∙ (each_job (IsUnservedJob got sent faults closes) js i j.0 ready (slice_get_within js i j.0 j.1)).unended;
}

-- ---- how many of them failed

pub hurt_untouched : {L : Type 0} (got sent : L → Option (List (List ℕ))) (faults closes : L → ℕ) (js : List (Job L)) → EachOf (IsUnservedJob got sent faults closes) js → hurt_among faults (links_of js) ≡ 0
hurt_untouched got sent faults closes [] ready = refl
hurt_untouched got sent faults closes (j ∷ js) ready = omega (arith, ready.0.unused.no_fault, hurt_untouched got sent faults closes js ready.1)

pub no_failures : {L : Type 0} (got sent : L → Option (List (List ℕ))) (faults closes : L → ℕ) (js : List (Job L)) → EachOf (IsUnservedJob got sent faults closes) js → sum_by failures_in (outcomes_of js) ≡ 0
no_failures got sent faults closes [] ready = refl
no_failures got sent faults closes (j ∷ js) ready =
    omega (arith, sum_by-cons failures_in j.outcome (outcomes_of js), ap failures_in ready.0.unended, no_failures got sent faults closes js ready.1)

-- a link that was unused failed exactly where its session says so
pub hurt_once : (before now : ℕ) (ended : Result ℕ SessionFault) → before ≡ 0 → now ≡ faults_after_session before ended → hurt_by now ≡ failures_in (Some ended)
hurt_once before now (Ok n) e is = omega (arith, e, is)
hurt_once before now (Err session_faults.LinkFault) e is = omega (arith, e, is)
hurt_once before now (Err session_faults.Closed) e is = omega (arith, e, is)
hurt_once before now (Err (session_faults.BadFrame fault)) e is = omega (arith, e, is)
hurt_once before now (Err session_faults.RunFull) e is = omega (arith, e, is)
hurt_once before now (Err session_faults.NoMemory) e is = omega (arith, e, is)

hurt_of_job : {L : Type 0} (got sent : L → Option (List (List ℕ))) (faults closes : L → ℕ) (validates : Bool) (a b : Job L) (o : Option (Result ℕ SessionFault)) → EndedSo got sent faults closes validates a b o → faults a.link ≡ 0 → hurt_by (faults b.link) ≡ failures_in o
hurt_of_job got sent faults closes validates a b None ended none = absurd ended
hurt_of_job got sent faults closes validates a b (Some r) ended none = hurt_once (faults a.link) (faults b.link) r none ended.1.faults_are

pub hurt_worked : {L : Type 0} (got sent : L → Option (List (List ℕ))) (faults closes : L → ℕ) (validates : Bool) (before after : List (Job L)) → length after ≡ length before → EachOf (IsUnservedJob got sent faults closes) before
    → ((i : ℕ) (d : Job L) → i < length before → Worked got sent faults closes validates (slice_index_or before i d) (slice_index_or after i d))
    → hurt_among faults (links_of after) ≡ sum_by failures_in (outcomes_of after)
hurt_worked got sent faults closes validates before [] many ready worked = refl
hurt_worked got sent faults closes validates [] (b ∷ bs) many ready worked = absurd (omega (arith, many))
hurt_worked got sent faults closes validates (a ∷ rest) (b ∷ bs) many ready worked =
    omega (
      arith,
      hurt_of_job got sent faults closes validates a b b.outcome (worked 0 a (omega arith)).ended ready.0.unused.no_fault,
      sum_by-cons failures_in b.outcome (outcomes_of bs),
      hurt_worked got sent faults closes validates rest bs (omega (arith, many)) ready.1 (λ i d h. worked (suc i) d (omega arith)),
    )
