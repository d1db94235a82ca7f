-- What becomes of the world in the rounds: in the end of each every peer has integrated all that was issued.
use Rattle.std.proofs.Common.{◌≡◌, ℕ, zero, suc, ◌+◌, ◌-◌, ◌*◌, ◌<◌, ◌≤◌, ⊎_elim, Bool, true, false, Option, Some, None, List, [], ◌∷◌, ◌++◌, length, refl, ap, sym, subst, ◌∙◌, arith, length-append, Contains}
use Rattle.std.specs.Prelude.{slice_get, nat_lt, min, ◌%◌, ◌==◌, if◌then◌else◌}
use Rattle.std.specs.Option.{option_to_list}
use Rattle.std.proofs.lemmas.Bool.{cases_eq, ltb-true}
use Rattle.std.proofs.lemmas.List.{get_or-set_same, get_or-set_other}
use Rattle.std.proofs.lemmas.List.FromFn.{length-range_with_len}
use Rattle.coop_request.specs.declared.request.TheConstants.{MAX_REQUESTS}
use Rattle.tomb_seq.proofs.Has.{Has, Has-from_Contains, Contains-from_Has}
use Rattle.edit_message.specs.declared.message.Message.{Message}
use Rattle.edit_message.specs.declared.message.Message.TheVariants.{Coop, Admin}
use Rattle.edit_message.specs.Message.{requests_of}
use Rattle.policy_book.specs.declared.op.AdminOp.TheVariants.{AddUser, AddAuth, DelAuth}
use Rattle.peer_step.specs.declared.step.Step.{Step}
use Rattle.peer_step.specs.declared.step.Step.TheVariants.{Edit, Administer, ValidateNext}
use Rattle.peer_core.specs.Peer.{Peer, fresh_peer}
use Rattle.peer_core.specs.Answers.{answer_of}
use Rattle.peer_core.specs.After.{peer_after}
use Rattle.replay_net.specs.declared.line.Line.{Line}
use Rattle.replay_net.specs.declared.line.Line.TheVariants.{Local}
use Rattle.replay_net.specs.Reply.{issued_by}
use Rattle.replay_net.specs.World.{World, fresh_world, peer_of, issued_at, turn_of, step_turn, world_after}
use Rattle.replay_net.specs.Settling.{is_honest_line, HasAll}
use Rattle.replay_net.proofs.Members.{has_left}
use Rattle.replay_net.proofs.Parts.{Keeps}
use Rattle.replay_net.proofs.Schedules.{IsHonestWorld, fair_line, fair_lines, fresh_honest, inside, issued_has}
use Rattle.edit_make.specs.declared.limits.TheConstants.{PEERS, ROUND_EDITS, MAX_EDITS}
use Rattle.edit_make.specs.Draws.{drawn}
use Rattle.edit_make.specs.Schedule.{Moment, Course, after_draws, after_line, full_auth, opening_lines, operation_step, operation_then, editor, next_edit, edit_then, edits_then}
use Rattle.edit_make.specs.Schedule.{issued_since, delivery_then, deliveries_then, round_edits, round_then, rounds_then, round_count, rounds_of, made_world}
use Rattle.replay_net.proofs.Steps.{StaysHeld, edit_held, administer_held, validate_next_held}
use Rattle.edit_make.proofs.HonestCourses.{drawn_low, edit_honest, operation_honest, opening_honest}
use Rattle.edit_make.proofs.Given.{Goes, same_number, delivered, after_lines, then_world}

-- a course that leads from each world of P to one of Q
abbrev pub Leads : (World → Type 0) → (World → Type 0) → Course → Type 0
Leads Q P course = (m : Moment) → P m.world → Q (world_after m.world (course m))

-- ---- how many requests

requests_few : (I : List Message) → length (requests_of I) ≤ length I
requests_few [] = omega arith
requests_few (Coop q ∷ I) = omega (arith, requests_few I)
requests_few (Admin e ∷ I) = omega (arith, requests_few I)

-- ---- worlds of a round

-- while edits and operations are made: each peer has the messages up to a number, and holds none; there are at most so many
pub record Edited (first most : ℕ) (w : World) : Type 0 where
  pub honest : IsHonestWorld PEERS w
  pub held : (i : ℕ) → i < PEERS → (peer_of w i).held ≡ []
  pub old : (i number : ℕ) (m : Message) → i < PEERS → number ≤ first → issued_at w number ≡ Some m → Keeps (peer_of w i) m
  pub past : first ≤ length w.issued
  pub few : length w.issued ≤ most

-- while they are delivered: the peers up to one have integrated all, the others are as before
pub record Halfway (first most i : ℕ) (w : World) : Type 0 where
  pub honest : IsHonestWorld PEERS w
  pub done : (j : ℕ) → j < i → HasAll w.issued (peer_of w j)
  pub held : (j : ℕ) → i ≤ j → j < PEERS → (peer_of w j).held ≡ []
  pub old : (j number : ℕ) (m : Message) → i ≤ j → j < PEERS → number ≤ first → issued_at w number ≡ Some m → Keeps (peer_of w j) m
  pub past : first ≤ length w.issued
  pub few : length w.issued ≤ most

-- each peer has integrated all
abbrev pub HaveAll : World → Type 0
HaveAll w = (i : ℕ) → i < PEERS → HasAll w.issued (peer_of w i)

-- between rounds
pub record Whole (most : ℕ) (w : World) : Type 0 where
  pub honest : IsHonestWorld PEERS w
  pub all : HaveAll w
  pub few : length w.issued ≤ most

-- ---- from one to the next

edited_more : (first a b : ℕ) (w : World) → a ≤ b → Edited first a w → Edited first b w
edited_more first a b w le e = record { honest = e.honest; held = e.held; old = e.old; past = e.past; few = omega (arith, le, e.few) }

begun : (most : ℕ) (w : World) → Whole most w → Edited (length w.issued) (length w.issued) w
begun most w whole = record {
  honest = whole.honest;
  held = λ i within. (whole.all i within).none_held;
  old = λ i number m within low is.
      let p : Peer = peer_of w i in
      has_left p.journal p.held m (Has-from_Contains p.journal m ((whole.all i within).forth m (contained w number m is)));
  past = omega arith;
  few = omega arith;
}
  where
    contained : (u : World) (number : ℕ) (m : Message) → issued_at u number ≡ Some m → Contains u.issued m
    contained u number m is = Contains-from_Has u.issued m (issued_has u number m is)

delivering : (first most : ℕ) (w : World) → Edited first most w → Halfway first most 0 w
delivering first most w e = record {
  honest = e.honest;
  done = λ j below. absurd (omega (arith, below));
  held = λ j low within. e.held j within;
  old = λ j number m low within. e.old j number m within;
  past = e.past;
  few = e.few;
}

-- ---- an own step

got_before : (xs ys : List Message) (k : ℕ) → k < length xs → slice_get (xs ++ ys) k ≡ slice_get xs k
got_before [] ys k low = absurd (omega (arith, low))
got_before (x ∷ xs) ys zero low = refl
got_before (x ∷ xs) ys (suc k) low = got_before xs ys k (omega (arith, low))

one_at_most : (o : Option Message) → length (option_to_list o) ≤ 1
one_at_most None = omega arith
one_at_most (Some m) = omega arith

own_step : (first most : ℕ) (w : World) (i : ℕ) (step : Step) → Edited first most w → i < PEERS → is_honest_line PEERS (Local i step) ≡ true
    → StaysHeld (peer_of w i) step (answer_of (peer_of w i) step) → Edited first (most + 1) (turn_of w (Local i step)).after
own_step first most w i step e within honest stays =
    let fair = fair_line PEERS w (Local i step) e.honest honest in
    let more : List Message = option_to_list (issued_by (answer_of (peer_of w i) step)) in
    let size = length-append w.issued more in
    record {
      honest = fair.honest;
      held = λ j below. ⊎_elim
          (λ (same : j ≡ i). subst (λ (k : ℕ). (peer_of (step_turn w i step).after k).held ≡ []) (sym same)
          (ap (λ (p : Peer). p.held) (get_or-set_same w.peers i (peer_after (peer_of w i) step) (fresh_peer i) (inside PEERS w i e.honest within)) ∙ stays ∙ e.held i within))
          (λ (other : j ≡ i → ⊥). ap (λ (p : Peer). p.held) (get_or-set_other w.peers i j (peer_after (peer_of w i) step) (fresh_peer j) other) ∙ e.held j below)
          (cases_eq j i);
      old = λ j number m below low is. fair.keep m j below (e.old j number m below low (before number m low is));
      past = omega (arith, size, e.past);
      few = omega (arith, size, e.few, one_at_most (issued_by (answer_of (peer_of w i) step)));
    }
  where
    before : (number : ℕ) (m : Message) → number ≤ first → issued_at (step_turn w i step).after number ≡ Some m → issued_at w number ≡ Some m
    before zero m low is = absurd cc
    before (suc k) m low is = sym (got_before w.issued (option_to_list (issued_by (answer_of (peer_of w i) step))) k (omega (arith, low, e.past))) ∙ is

-- ---- edits and the operation

edit_leads : (Q : World → Type 0) (first most : ℕ) (course : Course) → Leads Q (Edited first (most + 1)) course → Leads Q (Edited first most) (edit_then course)
unfolding after_line
edit_leads Q first most course rest m e =
    let i : ℕ = editor m.word in
    rest _ (own_step first most m.world i (Edit (next_edit m.word m.world)) e (drawn_low 1 PEERS m.word (omega arith)) (edit_honest m.word m.world)
    (edit_held (peer_of m.world i) (next_edit m.word m.world)))

edits_lead : (Q : World → Type 0) (first : ℕ) (n most : ℕ) (course : Course) → Leads Q (Edited first (most + n)) course → Leads Q (Edited first most) (edits_then n course)
unfolding edits_then
edits_lead Q first zero most course rest m e = rest m (edited_more first most (most + 0) m.world (omega arith) e)
edits_lead Q first (suc n) most course rest m e =
    edit_leads Q first most (edits_then n course)
    (edits_lead Q first n (most + 1) course (λ v f. rest v (edited_more first ((most + 1) + n) (most + suc n) v.world (omega arith) f))) m e

operation_held : (p : Peer) (j x : ℕ) → StaysHeld p (operation_step j x) (answer_of p (operation_step j x))
operation_held p j x = by (j % 4 == 1) (j % 4 == 3)
  where
    by : (first third : Bool) → (let step : Step = if first then Administer (AddAuth 0 (full_auth ((1 + drawn 1 3 x) ∷ []) false)) else (if third then Administer (DelAuth 0) else ValidateNext) in
        StaysHeld p step (answer_of p step))
    by true third = administer_held p (AddAuth 0 (full_auth ((1 + drawn 1 3 x) ∷ []) false))
    by false true = administer_held p (DelAuth 0)
    by false false = validate_next_held p

operation_leads : (Q : World → Type 0) (first most j : ℕ) (course : Course) → Leads Q (Edited first (most + 1)) course → Leads Q (Edited first most) (operation_then j course)
unfolding after_line
operation_leads Q first most j course rest m e =
    rest _ (own_step first most m.world 0 (operation_step j m.word) e (omega arith) (operation_honest j m.word) (operation_held (peer_of m.world 0) j m.word))

round_edits_lead : (Q : World → Type 0) (first most j n t : ℕ) (course : Course) → Leads Q (Edited first (most + n + 1)) course → Leads Q (Edited first most) (round_edits j n t course)
round_edits_lead Q first most j n t course rest m e = by (nat_lt t n) refl
  where
    by : (b : Bool) → nat_lt t n ≡ b → Q (world_after m.world (if b then edits_then t (operation_then j (edits_then (n - t) course)) m else edits_then n course m))
    by true low =
        let below : t < n = ltb-true t n low in
        edits_lead Q first t most (operation_then j (edits_then (n - t) course))
        (operation_leads Q first (most + t) j (edits_then (n - t) course)
        (edits_lead Q first (n - t) (most + t + 1) course
        (λ v f. rest v (edited_more first (most + t + 1 + (n - t)) (most + n + 1) v.world (omega (arith, below)) f)))) m e
    by false high = edits_lead Q first n most course (λ v f. rest v (edited_more first (most + n) (most + n + 1) v.world (omega arith) f)) m e

-- ---- the deliveries

-- a peer is given what it lacks
one_leads : (Q : World → Type 0) (first most i : ℕ) (course : Course) → i < PEERS → most ≤ MAX_REQUESTS → most ≤ first + (ROUND_EDITS + 1)
    → Leads Q (Halfway first most (i + 1)) course → (m : Moment) → Halfway first most i m.world → Q (world_after m.world (delivery_then i (issued_since first m.world) course m))
one_leads Q first most i course within few_enough short rest m half =
    let w : World = m.world in
    let few : length (requests_of w.issued) ≤ MAX_REQUESTS = omega (arith, requests_few w.issued, half.few, few_enough) in
    let numbers : length (issued_since first w) ≡ length w.issued - first = length-range_with_len (first + 1) (length w.issued - first) in
    let held : length (peer_of w i).held ≡ 0 = ap (λ (ms : List Message). length ms) (half.held i (omega arith) within) in
    delivered i first course Q m half.honest within few (omega (arith, numbers, held, half.few, short)) (λ number x. half.old i number x (omega arith) within)
    (λ v goes all. rest v (next v.world goes all))
  where
    next : (v : World) → Goes i m.world v → HasAll v.issued (peer_of v i) → Halfway first most (i + 1) v
    next v goes all =
        let size = ap (λ (ms : List Message). length ms) goes.issued in
        record {
          honest = goes.honest;
          done = λ j below. ⊎_elim
              (λ (same : j ≡ i). subst (λ (k : ℕ). HasAll v.issued (peer_of v k)) (sym same) all)
              (λ (other : j ≡ i → ⊥).
              subst (HasAll v.issued) (sym (goes.others j other)) (subst (λ (ms : List Message). HasAll ms (peer_of m.world j)) (sym goes.issued) (half.done j (omega (arith, below, other)))))
              (cases_eq j i);
          held = λ j low below. ap (λ (p : Peer). p.held) (goes.others j (λ same. omega (arith, low, same))) ∙ half.held j (omega (arith, low)) below;
          old = λ j number x low below up is.
              subst (λ (p : Peer). Keeps p x) (sym (goes.others j (λ same. omega (arith, low, same))))
              (half.old j number x (omega (arith, low)) below up (sym (same_number v m.world number goes.issued) ∙ is));
          past = omega (arith, size, half.past);
          few = omega (arith, size, half.few);
        }

deliveries_lead : (Q : World → Type 0) (first most k : ℕ) (course : Course) → k ≤ PEERS → most ≤ MAX_REQUESTS → most ≤ first + (ROUND_EDITS + 1)
    → Leads Q (Whole most) course → Leads Q (Halfway first most (PEERS - k)) (deliveries_then k first course)
unfolding deliveries_then
deliveries_lead Q first most zero course up few short rest m half = rest m (record { honest = half.honest; all = λ i within. half.done i within; few = half.few })
deliveries_lead Q first most (suc k) course up few short rest m half =
    let i : ℕ = PEERS - 1 - k in
    let here : PEERS - suc k ≡ i = omega arith in
    let behind : PEERS - k ≡ i + 1 = omega (arith, up) in
    one_leads Q first most i (deliveries_then k first course) (omega arith) few short
    (λ v next. deliveries_lead Q first most k course (omega (arith, up)) few short rest v (subst (λ (n : ℕ). Halfway first most n v.world) (sym behind) next))
    m (subst (λ (n : ℕ). Halfway first most n m.world) here half)

-- ---- rounds

round_leads : (Q : World → Type 0) (most j n : ℕ) (course : Course) → n ≤ ROUND_EDITS → most + (ROUND_EDITS + 1) ≤ MAX_REQUESTS
    → Leads Q (Whole (most + (ROUND_EDITS + 1))) course → Leads Q (Whole most) (round_then j n course)
round_leads Q most j n course short few rest m whole =
    let first : ℕ = length m.world.issued in
    let low : first ≤ most = whole.few in
    let top : ℕ = first + n + 1 in
    round_edits_lead Q first first j n (drawn 1 ROUND_EDITS m.word) (deliveries_then PEERS first course)
    (λ v e. deliveries_lead Q first top PEERS course (omega arith) (omega (arith, low, short, few)) (omega (arith, short))
    (λ u next. rest u (record { honest = next.honest; all = next.all; few = let fewer = next.few in omega (arith, fewer, low, short) }))
    v (delivering first top v.world e))
    (after_draws 1 m) (begun most m.world whole)

rounds_lead : (k j edits most : ℕ) → most + (ROUND_EDITS + 1) * k ≤ MAX_REQUESTS → Leads HaveAll (Whole most) (rounds_then k j edits)
unfolding rounds_then
rounds_lead zero j edits most few m whole = whole.all
rounds_lead (suc k) j edits most few m whole =
    round_leads HaveAll most (j + 1) (min edits ROUND_EDITS) (rounds_then k (j + 1) (edits - ROUND_EDITS)) (omega arith) (omega (arith, few))
    (rounds_lead k (j + 1) (edits - ROUND_EDITS) (most + (ROUND_EDITS + 1)) (omega (arith, few))) m whole

-- ---- the opening

-- the world after the opening
opened : World
opened = world_after (fresh_world PEERS) opening_lines

same_list : (I J : List Message) → J ≡ I → ((m : Message) → Contains I m → Contains J m) × ((m : Message) → Contains J m → Contains I m)
same_list I J same = (λ m h. subst (λ (xs : List Message). Contains xs m) (sym same) h, λ m h. subst (λ (xs : List Message). Contains xs m) same h)

-- the entries that it issues
opened_entries : List Message
opened_entries =
    Admin (record { version = 1; op = AddUser 1 })
    ∷ Admin (record { version = 2; op = AddUser 2 })
    ∷ Admin (record { version = 3; op = AddUser 3 })
    ∷ Admin (record { version = 4; op = AddAuth 0 (full_auth (1 ∷ 2 ∷ 3 ∷ []) true) })
    ∷ []

opened_issued : opened.issued ≡ opened_entries
unfolding opened opening_lines opened_entries
opened_issued = refl

opened_all : (i : ℕ) → i < PEERS → ((peer_of opened i).held ≡ []) × ((peer_of opened i).journal ≡ opened_entries)
unfolding opened opening_lines opened_entries
opened_all zero h = (refl, refl)
opened_all (suc zero) h = (refl, refl)
opened_all (suc (suc zero)) h = (refl, refl)
opened_all (suc (suc (suc zero))) h = (refl, refl)
opened_all (suc (suc (suc (suc i)))) h = absurd (omega (arith, h))

opened_four : length opened.issued ≡ 4
unfolding opened opening_lines
opened_four = refl

opened_honest : IsHonestWorld PEERS opened
unfolding opened
opened_honest = (fair_lines PEERS (fresh_world PEERS) opening_lines (fresh_honest PEERS (omega arith)) opening_honest).honest

opened_whole : Whole 4 opened
opened_whole = record {
  honest = opened_honest;
  all = λ i within.
      let is = opened_all i within in
      let same = same_list opened.issued (peer_of opened i).journal (is.1 ∙ sym opened_issued) in
      record { none_held = is.0; forth = same.0; back = same.1 };
  few = omega (arith, opened_four);
}

lines_world : (lines : List Line) (m : Moment) → (after_lines lines m).world ≡ world_after m.world lines
unfolding after_lines after_line
lines_world [] m = refl
lines_world (line ∷ lines) m = lines_world lines (after_line line m)

-- ---- the whole

-- in the end each peer has integrated all that was issued
pub made_all : (seed edits : ℕ) → edits ≤ MAX_EDITS → HaveAll (made_world seed edits)
unfolding rounds_of opened
made_all seed edits most =
    let start : Moment = record { word = seed + 1; world = fresh_world PEERS; last = None } in
    let count : round_count edits * ROUND_EDITS ≤ edits + (ROUND_EDITS - 1) = omega arith in
    subst HaveAll (sym (then_world opening_lines (rounds_of 0 edits) start))
    (rounds_lead (round_count edits) 0 edits 4 (omega (arith, count, most)) (after_lines opening_lines start)
    (subst (Whole 4) (sym (lines_world opening_lines start)) opened_whole))
