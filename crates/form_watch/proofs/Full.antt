-- A watch never meets a full run: its one pass makes fewer steps than a run may have.
use Rattle.std.proofs.Common.{◌≡◌, ℕ, ◌+◌, ◌*◌, ◌<◌, ◌≤◌, List, [], ◌∷◌, ◌++◌, length, take, drop, get_or, inl, inr, sym, ap, ◌∙◌, subst, arith, length-take, Err}
use Rattle.std.proofs.lemmas.List.{take-append-drop}
use Rattle.peer_step.specs.declared.step.Step.{Step}
use Rattle.peer_step.specs.declared.step.Step.TheVariants.{Show}
use Rattle.peer_step.specs.declared.answer.Answer.{Answer}
use Rattle.peer_core.specs.Peer.{Peer}
use Rattle.peer_lock.specs.declared.limits.TheConstants.{MAX_RUN}
use Rattle.peer_lock.specs.declared.call.Call.{Call}
use Rattle.peer_lock.specs.declared.view.View.{View}
use Rattle.peer_lock.specs.KnownPass.{KnownPass}
use Rattle.peer_lock.specs.Run.{steps_by}
use Rattle.peer_lock.specs.Rule.{newcomer}
use Rattle.peer_lock.specs.Answers.{IsSame, KnowsFull, Stepped, ClosesRun}
use Rattle.peer_lock.specs.Made.{Made}
use Rattle.peer_lock.specs.Laws.{steps_below}
use Rattle.peer_lock.proofs.Passing.{same_then, made_none, made_first_then, made_first_of}
use Rattle.peer_lock.proofs.ByCaller.{had_room}
use Rattle.screen_read.specs.declared.fail.ScreenFail.{ScreenFail}
use Rattle.screen_read.specs.declared.fail.ScreenFail.TheVariants.{RunFull, NoMemory}
use Rattle.screen_read.specs.Ends.{ReaderPages}
use Rattle.screen_read.specs.Screen.{KnownScreen, TriesShow}
use Rattle.form_watch.specs.declared.limits.TheConstants.{MAX_LINES}
use Rattle.form_watch.specs.Run.{each_shown}
use Rattle.form_watch.specs.Workers.{Opens, Publishing, StopsShort, HasStopped}
use Rattle.form_watch.proofs.Published.{each_shown-append, taken_next}

-- ---- a pass that stops

-- before its first step
pub stopped_first : (k l : KnownPass) (e : ScreenFail) → IsSame k l → l.view.seen ≡ k.view.seen → (e ≡ RunFull → KnowsFull l.view) → StopsShort k [] l e
stopped_first k l e same seen full = record { same = same; made = (0, made_none k.view l.view seen); full = full }

-- at a Show step
pub stopped_show : (k l : KnownPass) (e : ScreenFail) → IsSame k l → TriesShow {A = ℕ} k.view (Err e) l.view → StopsShort k (Show ∷ []) l e
stopped_show k l RunFull same (seen, full) = record { same = same; made = (0, made_none k.view l.view seen); full = λ (e : RunFull ≡ RunFull). full }
stopped_show k l NoMemory same (inl (a, shown)) = record { same = same; made = (1, shown.mine); full = λ (e : NoMemory ≡ RunFull). absurd (cc) }
stopped_show k l NoMemory same (inr none) = record { same = same; made = (0, made_none k.view l.view none.0); full = λ (e : NoMemory ≡ RunFull). absurd (cc) }

-- it had made some steps before
then_stopped : (k l m : KnownPass) (xs ys : List Step) (e : ScreenFail) → IsSame k l → Made k.view l.view xs → StopsShort l ys m e → StopsShort k (xs ++ ys) m e
then_stopped k l m xs ys e same made stops = record {
  same = same_then k l m same stops.same;
  made = made_first_then k.view l.view m.view xs ys same.number made stops.made;
  full = stops.full;
}

-- it was to make more
more_to_make : (k l : KnownPass) (xs ys : List Step) (e : ScreenFail) → StopsShort k xs l e → StopsShort k (xs ++ ys) l e
more_to_make k l xs ys e stops = record { same = stops.same; made = made_first_of k.view l.view xs ys stops.made; full = stops.full }

-- where no step was made, some were to be
pub stopped_making : (k l : KnownPass) (steps : List Step) (e : ScreenFail) → StopsShort k [] l e → StopsShort k steps l e
stopped_making k l steps e stops = more_to_make k l [] steps e stops

-- a step was made, and then the Show step failed
pub stopped_after : (k l m : KnownPass) (step : Step) (e : ScreenFail) → IsSame k l → (a : Answer) × Stepped k.view step a l.view → IsSame l m → TriesShow {A = ℕ} l.view (Err e) m.view → StopsShort k (each_shown (step ∷ [])) m e
stopped_after k l m step e first (a, st) then tried = then_stopped k l m (step ∷ []) (Show ∷ []) e first st.mine (stopped_show l m e then tried)

-- the steps of a list were made up to this one
pub stopped_at : (s t : KnownScreen) (k l m : KnownPass) (steps : List Step) (i : ℕ) (x : Step) (e : ScreenFail) → i < length steps → x ≡ get_or steps i x
    → Publishing s k (take i steps) t l → StopsShort l (each_shown (x ∷ [])) m e → StopsShort k (each_shown steps) m e
stopped_at s t k l m steps i x e lt is before stops =
    let made : List Step = each_shown (take i steps) in
    let here : List Step = each_shown (x ∷ []) in
    let rest : List Step = each_shown (drop (i + 1) steps) in
    let whole : (made ++ here) ++ rest ≡ each_shown steps =
    ap (λ (l : List Step). l ++ rest) (sym (each_shown-append (take i steps) (x ∷ [])) ∙ ap each_shown (sym (taken_next steps i x lt is)))
    ∙ sym (each_shown-append (take (i + 1) steps) (drop (i + 1) steps))
    ∙ ap each_shown (take-append-drop (i + 1) steps) in
    subst (λ (l : List Step). StopsShort k l m e) whole (more_to_make k m (made ++ here) rest e (then_stopped k l m made here e before.same before.made stops))

-- ---- the pass of a watch

-- it was the only one, and was to make fewer steps than a run may have
has_stopped : (site : ℕ) (steps : List Step) (first last : KnownPass) (e : ScreenFail) → first.view ≡ newcomer 0 1 site → length steps < MAX_RUN → StopsShort first steps last e → HasStopped last e
has_stopped site steps first last e new fits stops =
    let sole : last.view.made ≡ 1 = stops.same.made ∙ ap (λ (v : View). v.made) new in
    let made : steps_by 0 last.view.seen ≡ take stops.made.0 steps = subst (λ (v : View). Made v last.view (take stops.made.0 steps)) new stops.made.1 in
    record {
      whole = ap (λ (l : List ℕ). length l) (stops.same.numbers ∙ ap (λ (v : View). v.numbers) new) ∙ sym sole;
      few = subst (λ (m : ℕ). steps_below m last.view.seen < MAX_RUN) (sym sole) (omega (arith, ap (λ (l : List Step). length l) made, length-take stops.made.0 steps, fits));
      full = stops.full;
    }

-- before its screen was made
pub stopped_opening : (site : ℕ) (first last : KnownPass) (e : ScreenFail) → first.view ≡ newcomer 0 1 site → StopsShort first (Show ∷ []) last e → HasStopped last e
stopped_opening site first last e new stops = has_stopped site (Show ∷ []) first last e new (omega arith) stops

length-each_shown : (steps : List Step) → length (each_shown steps) ≡ 2 * length steps
length-each_shown [] = omega arith
length-each_shown (step ∷ steps) = omega (arith, length-each_shown steps)

-- beside its reader
pub stopped_working : (site : ℕ) (first opened last : KnownPass) (s : KnownScreen) (r : ReaderPages) (steps : List Step) (e : ScreenFail) → first.view ≡ newcomer 0 1 site → Opens first opened s r
    → length steps ≤ MAX_LINES → StopsShort opened (each_shown steps) last e → HasStopped last e
stopped_working site first opened last s r steps e new opens few stops =
    has_stopped site (Show ∷ each_shown steps) first last e new (omega (arith, few, length-each_shown steps))
    (then_stopped first opened last (Show ∷ []) (each_shown steps) e opens.same opens.made stops)

-- once its run is closed, it is known that it wasn't full
pub never_full : (k : KnownPass) (e : ScreenFail) (p : Peer) (run : List Call) → HasStopped k e → ClosesRun k.view p run → e ≡ RunFull → ⊥
never_full k e p run stopped closes is = omega (arith, had_room k.view p run closes stopped.few, stopped.full is)
