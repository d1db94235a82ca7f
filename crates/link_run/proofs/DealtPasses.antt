-- Passes that were dealt, and jobs that have them.
use Rattle.std.proofs.Common.{◌≡◌, ℕ, zero, suc, ◌+◌, ◌<◌, List, [], ◌∷◌, ◌++◌, Some, length, slice_index_or, sym, ap, ◌∙◌, subst, arith}
use Rattle.std.specs.Prelude.{slice_get, remove}
use Rattle.std.proofs.lemmas.Option.{get_or_from_slice_get}
use Rattle.std.proofs.lemmas.List.{nil_from_length}
use Rattle.atomic_table.specs.Seated.{TableId}
use Rattle.peer_step.specs.declared.step.Step.{Step}
use Rattle.peer_core.specs.Peer.{Peer, fresh_peer}
use Rattle.peer_lock.specs.declared.call.Call.{Call}
use Rattle.peer_lock.specs.declared.view.View.{View}
use Rattle.peer_lock.specs.KnownPass.{KnownPass}
use Rattle.peer_lock.specs.Rule.{newcomer, HasNumber}
use Rattle.peer_lock.specs.Run.{steps_by, peer_after_run, Recorded, recorded}
use Rattle.peer_lock.specs.Laws.{steps_below}
use Rattle.peer_lock.specs.Answers.{ClosesRun}
use Rattle.peer_lock.proofs.ByCaller.{all_owned}
use Rattle.peer_lock.specs.Dealt.{Dealt, Others}
use Rattle.link_run.specs.declared.job.Job.{Job}
use Rattle.link_run.specs.Gathered.{EachOf}
use Rattle.link_run.specs.Jobs.{passes_of}
use Rattle.link_run.specs.Served.{HaveDealtPasses}
use Rattle.link_run.proofs.Gathering.{length-passes}
use Rattle.link_run.proofs.Wholly.{has_one}

pub same_some : {A : Type 0} (x y : A) → Some x ≡ Some y → x ≡ y
same_some x y e = get_or_from_slice_get (x ∷ []) 0 y x e

-- all others
pub others_dealt : (table : TableId) (site passes : ℕ) (ks : List KnownPass) → Dealt table site passes ks → 0 < passes → Others table site passes (remove ks 0)
others_dealt table site passes [] dealt some = absurd (omega (arith, dealt.all))
others_dealt table site passes (x ∷ xs) dealt some = record {
  rest = omega (arith, dealt.all);
  each = λ i h.
      let d = dealt.each (suc i) (omega (arith, h, dealt.all)) in
      let next : suc i ≡ i + 1 = omega arith in
      (d.0, d.1, d.2.0, d.2.1 ∙ ap (λ (n : ℕ). newcomer n 0 site) next);
}

-- what holds at each place holds of each
pub each_of : (P : KnownPass → Type 0) (ks : List KnownPass) → ((i : ℕ) → i < length ks → (k : KnownPass) × (slice_get ks i ≡ Some k) × P k) → EachOf P ks
each_of P [] f = tt
each_of P (x ∷ xs) f = let here = f 0 (omega arith) in
    (subst P (sym (same_some x here.0 here.1)) here.2, each_of P xs (λ i h. f (suc i) (omega arith)))

pub each_front : (P : KnownPass → Type 0) (xs ys : List KnownPass) → EachOf P (xs ++ ys) → EachOf P xs
each_front P [] ys h = tt
each_front P (x ∷ xs) ys h = (h.0, each_front P xs ys h.1)

pub tables_of : (table : TableId) (site passes : ℕ) (ks : List KnownPass) → Others table site passes ks → EachOf (λ k. k.table ≡ table) ks
tables_of table site passes ks o = each_of (λ k. k.table ≡ table) ks (λ i h. let d = o.each i h in (d.0, d.1, d.2))

pub made_of : (table : TableId) (site passes : ℕ) (ks : List KnownPass) → Others table site passes ks → EachOf (λ k. k.view.made ≡ 0) ks
made_of table site passes ks o = each_of (λ k. k.view.made ≡ 0) ks (λ i h. let d = o.each i h in (d.0, d.1, ap (λ (v : View). v.made) d.3))

-- the pass of a job
pass_is : {L : Type 0} (jobs : List (Job L)) (i : ℕ) (d : Job L) (k : KnownPass) → i < length jobs → slice_get (passes_of jobs) i ≡ Some k → k ≡ (slice_index_or jobs i d).pass
pass_is [] i d k h e = absurd (omega arith)
pass_is (j ∷ js) zero d k h e = sym (same_some j.pass k e)
pass_is (j ∷ js) (suc i) d k h e = pass_is js i d k (omega arith) e

-- jobs with the passes that were dealt
pub jobs_dealt : {L : Type 0} (table : TableId) (site passes : ℕ) (ks : List KnownPass) (jobs : List (Job L)) → Others table site passes ks → passes_of jobs ≡ ks → HaveDealtPasses table site jobs
jobs_dealt {L} table site passes ks jobs o e = λ i d h.
    let there : Others table site passes (passes_of jobs) = subst (λ (l : List KnownPass). Others table site passes l) (sym e) o in
    let dealt = there.each i (omega (arith, h, length-passes jobs)) in
    let is : dealt.0 ≡ (slice_index_or jobs i d).pass = pass_is jobs i d dealt.0 h dealt.1 in
    (subst (λ (k : KnownPass). k.table ≡ table) is dealt.2, subst (λ (k : KnownPass). k.view ≡ newcomer (i + 1) 0 site) is dealt.3)

-- the run of a peer that was closed before any step
pub idle_run : (v : View) (p : Peer) (history : Recorded) (site : ℕ) → v ≡ newcomer 0 1 site → ClosesRun v p history.run → history.site ≡ v.origin → (p ≡ fresh_peer site) × (history ≡ recorded site [])
idle_run v p history site new closes of =
    let run : List Call = history.run in
    let one : v.made ≡ 1 = ap (λ (x : View). x.made) new in
    let mine : HasNumber v.numbers 0 = has_one 0 v.numbers (ap (λ (x : View). x.numbers) new) in
    let none : steps_by 0 run ≡ [] = closes.steps 0 mine ∙ ap (λ (x : View). steps_by 0 x.seen) new in
    let all : length run ≡ steps_below 1 run = all_owned 1 run (λ n h. closes.callers n (omega (arith, one, h))) in
    let empty : run ≡ [] = nil_from_length run (omega (arith, all, ap (λ (l : List Step). length l) none)) in (
      closes.peer ∙ ap (λ (l : List Call). peer_after_run (fresh_peer v.origin) l) empty ∙ ap (λ (x : View). fresh_peer x.origin) new,
      λ i. recorded ((of ∙ ap (λ (x : View). x.origin) new) i) (empty i),
    )
