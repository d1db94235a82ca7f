-- From the single moves to a whole call.
use Rattle.std.proofs.Common.{◌≡◌, ℕ, ◌+◌, ◌<◌, ◌≤◌, false, Result, Ok, Err, List, [], ◌∷◌, ◌++◌, length, get_or, sym, refl, ap, ◌∙◌, subst, inr, arith, length-append, append-nil}
use mathlib.Core.Option.{some, some-injective}
use lib.ListN.{get_elem?}
use Rattle.atomic_table.specs.Table.{Final, Seen}
use Rattle.peer_core.specs.Peer.{Peer, fresh_peer}
use Rattle.peer_core.specs.Answers.{answer_of}
use Rattle.peer_lock.specs.Run.{Recorded, recorded, call, peer_after_run, StartsWith, steps_by}
use Rattle.peer_lock.specs.Rule.{HasNumber, Knows, Fits, IsOneRun, taking, counting, longer, united, Seated, run_of}
use Rattle.peer_lock.specs.Answers.{Stepped, AnswersTry, UnitesPasses, ClosesRun}
use Rattle.peer_lock.specs.Moves.{Took, HasSlot, Entered, CanCount, CanFree, Looked, Went}
use Rattle.peer_step.specs.declared.step.Step.{Step}
use Rattle.peer_step.specs.declared.answer.Answer.{Answer}
use Rattle.peer_lock.specs.declared.limits.TheConstants.{MAX_RUN}
use Rattle.peer_lock.specs.declared.call.Call.{Call}
use Rattle.peer_lock.specs.declared.call.CountedStep.{CountedStep}
use Rattle.peer_lock.specs.declared.view.View.{View}
use Rattle.peer_lock.specs.declared.fail.TryFail.{TryFail}
use Rattle.peer_lock.specs.declared.fail.TryFail.TheVariants.{Busy, RunFull, NoMemory}
use Rattle.peer_lock.proofs.Lists.{steps-append, steps_mine, steps_other, begins}
use Rattle.peer_lock.proofs.Keeps.{at_longer, closes}

abbrev slots : Recorded → List (ℕ × Recorded)
slots h = (0, h) ∷ []

slot_is : (h k : Recorded) → slots h ≡ slots k → h ≡ k
slot_is h k e = ap (λ (l : List (ℕ × Recorded)). (get_or l 0 (0, h)).1) e

-- a seat with the gate, at one run
abbrev at_work : View → List Call → List Call → Seated
at_work v run now = (taking v run, (0, recorded v.origin now) ∷ [])

-- a pass that took the gate has the slot
pub has_slot : (m n : Seated) → Took m n → HasSlot n
has_slot m n t = (recorded m.0.origin t.0, ap (λ (x : Seated). x.1) t.3)

-- what a step on the peer in the slot leaves, told of the seat before the grab
pub entered : (m n o : Seated) (caller : ℕ) (s : Step) (a : Answer) → (t : Took m n) → Entered n caller s (Ok a) o
    → (o ≡ at_work m.0 t.0 (t.0 ++ call caller s ∷ [])) × (length t.0 < MAX_RUN) × (a ≡ answer_of (peer_after_run (fresh_peer m.0.origin) t.0) s)
entered m n o caller s a t e =
    let same : e.0 ≡ recorded m.0.origin t.0 = slot_is e.0 (recorded m.0.origin t.0) (sym e.1 ∙ ap (λ (x : Seated). x.1) t.3) in (
      e.4 ∙ (λ i. ((t.3 i).0, (0, recorded (same i).site ((same i).run ++ call caller s ∷ [])) ∷ [])),
      subst (λ (h : Recorded). length h.run < MAX_RUN) same e.2,
      e.3 ∙ ap (λ (h : Recorded). answer_of (peer_after_run (fresh_peer h.site) h.run) s) same,
    )

short : (v : View) (run : List Call) → Fits run v → length v.seen ≤ length run
short v run f = omega (arith, ap (λ (l : List Call). length l) f.knows.1, length-append v.seen f.knows.0)

-- after the step it may be counted
pub can_count : (m n o : Seated) (caller : ℕ) (s : Step) (a : Answer) → (t : Took m n) → Entered n caller s (Ok a) o → m.0.olds ≡ [] → m.0.number ≡ caller → CanCount o
can_count m n o caller s a t e calm number =
    let is = entered m n o caller s a t e in
    subst CanCount (sym is.0) (record {
      h = recorded m.0.origin (t.0 ++ call caller s ∷ []);
      e = call caller s;
      slot = refl;
      has = refl;
      grown = refl;
      by = sym number;
      begun = short m.0 t.0 t.1;
      calm = calm;
      room = is.1;
    })

counted-is : (m n o p : Seated) (caller : ℕ) (s : Step) (a : Answer) → (t : Took m n) → Entered n caller s (Ok a) o → p ≡ (counting o.0 (run_of o.1), o.1)
    → let run = t.0 ++ call caller s ∷ [] in p ≡ (counting (taking m.0 t.0) run, (0, recorded m.0.origin run) ∷ [])
counted-is m n o p caller s a t e c = c ∙ ap (λ (x : Seated). (counting x.0 (run_of x.1), x.1)) ((entered m n o caller s a t e).0)

-- after the count the gate may be freed
pub can_free : (m n o p : Seated) (caller : ℕ) (s : Step) (a : Answer) → (t : Took m n) → Entered n caller s (Ok a) o → p ≡ (counting o.0 (run_of o.1), o.1) → CanFree p
can_free m n o p caller s a t e c =
    subst CanFree (sym (counted-is m n o p caller s a t e c)) (record {
      h = recorded m.0.origin (t.0 ++ call caller s ∷ []);
      slot = refl;
      has = refl;
      site = refl;
      last = inr (refl, omega (arith, length-append t.0 (call caller s ∷ [])));
    })

-- the step clause, of a step at the end of a run that fits the view
pub stepped : (v : View) (run : List Call) (s : Step) (a : Answer) (w : View) → Fits run v → length run < MAX_RUN → a ≡ answer_of (peer_after_run (fresh_peer v.origin) run) s
    → w.seen ≡ run ++ call v.number s ∷ [] → w.floor ≡ length (run ++ call v.number s ∷ []) → Stepped v s a w
stepped v run s a w f few answer seen floor =
    let e = call v.number s in
    let more = f.knows.0 in
    let quiet : (n : ℕ) → HasNumber v.numbers n → steps_by n run ≡ steps_by n v.seen = λ n has.
    ap (steps_by n) f.knows.1 ∙ steps-append n v.seen more ∙ ap (λ (l : List Step). steps_by n v.seen ++ l) (f.knows.2 n has) ∙ append-nil (steps_by n v.seen) in
    record {
      between = more;
      seen = seen ∙ ap (λ (r : List Call). r ++ e ∷ []) f.knows.1;
      passes_floor = omega (arith, f.high, ap (λ (r : List Call). length r) seen, length-append run (e ∷ []));
      answer = answer ∙ ap (λ (r : List Call). answer_of (peer_after_run (fresh_peer v.origin) r) s) f.knows.1;
      floor = floor ∙ ap (λ (r : List Call). length r) (sym seen);
      room = omega (arith, ap (λ (r : List Call). length r) seen, length-append run (e ∷ []));
      named = f.named;
      quiet = f.knows.2;
      mine = ap (steps_by v.number) seen ∙ steps-append v.number run (e ∷ []) ∙ (λ i. quiet v.number f.named i ++ steps_mine v.number e refl i);
      others = λ n has apart. ap (steps_by n) seen ∙ steps-append n run (e ∷ []) ∙ (λ i. quiet n has i ++ steps_other n e (λ same. apart (sym same)) i) ∙ append-nil (steps_by n v.seen);
    }

-- the run that is counted has one step more than the one that was found
pub counted_length : (m : Seated) → CanCount m → length (run_of m.1) ≡ length m.0.base + 1
counted_length m can = ap (λ (c : List (ℕ × Recorded)). length (run_of c)) can.slot ∙ ap (λ (r : List Call). length r) can.grown ∙ length-append m.0.base (can.e ∷ [])

-- what the caller is told of a try
abbrev pub told : Result CountedStep TryFail → Result Answer TryFail
told (Ok c) = Ok c.answer
told (Err e) = Err e

-- of a whole try
pub tries : (m n : Seated) (caller : ℕ) (s : Step) (r : Result CountedStep TryFail) → caller ≡ m.0.number → Went m caller s r n → AnswersTry m.0 s (told r) n.0
tries m n caller s (Ok c) by w = (
  stepped m.0 w.0 s c.answer n.0 w.1 w.2 w.3 (ap (λ (x : Seated). x.0.seen) w.4 ∙ ap (λ (k : ℕ). w.0 ++ call k s ∷ []) by) (ap (λ (x : Seated). x.0.floor) w.4 ∙ ap (λ (k : ℕ). length (w.0 ++ call k s ∷ [])) by),
  ap (λ (x : Seated). x.0.refused) w.4,
)
tries m n caller s (Err (Busy back)) by w = (w.0, ap (λ (x : Seated). x.0.refused) w.1, ap (λ (x : Seated). x.0.seen) w.1, ap (λ (x : Seated). x.0.floor) w.1, ap (λ (x : Seated). x.0.looks) w.1)
tries m n caller s (Err RunFull) by w = (ap (λ (x : Seated). x.0.refused) w.3, ap (λ (x : Seated). x.0.seen) w.3, ap (λ (x : Seated). x.0.floor) w.3 ∙ w.2, ap (λ (x : Seated). x.0.looks) w.3)
tries m n caller s (Err NoMemory) by w =
    let floor : n.0.floor ≡ length w.0 = ap (λ (x : Seated). x.0.floor) w.3 in
    (ap (λ (x : Seated). x.0.refused) w.3, ap (λ (x : Seated). x.0.seen) w.3, omega (arith, w.1.high), omega (arith, w.2), ap (λ (x : Seated). x.0.looks) w.3)

-- of a join and the look that follows it
pub joined : (v o : View) (c : List (ℕ × Recorded)) (found : ℕ) (n : Seated) → Looked (united v o, c) found n → UnitesPasses v o n.0
joined v o c found n l =
    let run = l.0 in
    let f = l.1 in
    let b = united v o in
    let mine = f.olds.0.0 in
    let theirs = f.olds.1.0.0 in
    let seen : n.0.seen ≡ longer v.seen o.seen = ap (λ (x : Seated). x.0.seen) l.5 in
    let quiet : (k : ℕ) → HasNumber b.numbers k → steps_by k run ≡ steps_by k b.seen = λ k has. still run b.seen b.numbers f.knows k has in
    let begun : (s : List Call) → StartsWith run s → length s ≤ length b.seen → StartsWith b.seen s = λ s st le. let t = begins s b.seen st.0 f.knows.0 (sym st.1 ∙ f.knows.1) le in (t.0, t.1) in
    record {
      longer_is = seen;
      mine = subst (λ (r : List Call). StartsWith r v.seen) (sym seen) (begun v.seen (mine.0, mine.1) (at_longer v.seen o.seen (λ (r : List Call). length v.seen ≤ length r) (λ lt. omega arith) (λ _. omega arith)));
      theirs = subst (λ (r : List Call). StartsWith r o.seen) (sym seen) (begun o.seen (theirs.0, theirs.1) (at_longer v.seen o.seen (λ (r : List Call). length o.seen ≤ length r) (λ _. omega arith) (λ le. omega arith)));
      floor = omega (arith, ap (λ (x : Seated). x.0.floor) l.5, l.4, f.high);
      numbers = ap (λ (x : Seated). x.0.numbers) l.5;
      my_steps = λ k has. ap (steps_by k) seen ∙ sym (quiet k (f.olds.0.1 k has)) ∙ still run v.seen v.numbers mine k has;
      their_steps = λ k has. ap (steps_by k) seen ∙ sym (quiet k (f.olds.1.0.1 k has)) ∙ still run o.seen o.numbers theirs k has;
      number = ap (λ (x : Seated). x.0.number) l.5;
      origin = ap (λ (x : Seated). x.0.origin) l.5;
      made = ap (λ (x : Seated). x.0.made) l.5;
      looks = ap (λ (x : Seated). x.0.looks) l.5;
    }
  where
    still : (run seen : List Call) (numbers : List ℕ) → Knows run seen numbers → (k : ℕ) → HasNumber numbers k → steps_by k run ≡ steps_by k seen
    still run seen numbers kn k has = ap (steps_by k) kn.1 ∙ steps-append k seen kn.0 ∙ ap (λ (l : List Step). steps_by k seen ++ l) (kn.2 k has) ∙ append-nil (steps_by k seen)

-- of the last pass, which gets the slot
pub closed : (origin id : ℕ) (v : View) (ws : List ℕ) (xs : List Recorded) (held : Recorded) (p : Peer) (run : List Call) → 0 < length v.numbers → v.hand ≡ false → length v.numbers ≡ v.made
    → Final (Seen (IsOneRun origin) id v) ws xs → get_elem? xs 0 ≡ some held → p ≡ peer_after_run (fresh_peer held.site) held.run → run ≡ held.run → ClosesRun v p run
closed origin id v ws xs held p run live free whole final there peer is =
    let t = closes origin id v ws xs live free whole final in
    let same : t.0 ≡ held = some-injective t.0 held (sym t.1 ∙ there) in
    let f : Fits run v = subst (λ (r : List Call). Fits r v) (ap (λ (h : Recorded). h.run) same ∙ sym is) t.3 in
    record {
      seen = (f.knows.0, f.knows.1);
      floor = f.high;
      peer = peer ∙ (λ i. peer_after_run (fresh_peer ((ap (λ (h : Recorded). h.site) (sym same) ∙ t.2) i)) (sym is i));
      steps = λ n has. ap (steps_by n) f.knows.1 ∙ steps-append n v.seen f.knows.0 ∙ ap (λ (l : List Step). steps_by n v.seen ++ l) (f.knows.2 n has) ∙ append-nil (steps_by n v.seen);
      numbers = t.4;
      callers = λ n high. ap (steps_by n) (is ∙ ap (λ (h : Recorded). h.run) (sym same)) ∙ t.5 n high;
      room = omega (arith, t.6, ap (λ (r : List Call). length r) (is ∙ ap (λ (h : Recorded). h.run) (sym same)));
    }

pub closed_site : (origin id : ℕ) (v : View) (ws : List ℕ) (xs : List Recorded) (held : Recorded) → 0 < length v.numbers → v.hand ≡ false → length v.numbers ≡ v.made
    → Final (Seen (IsOneRun origin) id v) ws xs → get_elem? xs 0 ≡ some held → held.site ≡ v.origin
closed_site origin id v ws xs held live free whole final there =
    let t = closes origin id v ws xs live free whole final in
    let same : t.0 ≡ held = some-injective t.0 held (sym t.1 ∙ there) in
    ap (λ (h : Recorded). h.site) (sym same) ∙ t.2
