-- A peer that is given a round's messages, and settles, has integrated all that were issued.
use Rattle.std.proofs.Common.{◌≡◌, ℕ, zero, suc, ◌+◌, ◌-◌, ◌*◌, ◌<◌, ◌≤◌, ◌⊎◌, inl, inr, ⊎_elim, Bool, true, false, Option, Some, None, List, [], ◌∷◌, ◌++◌, length, refl, ap, sym, subst, ◌∙◌, arith}
use Rattle.std.specs.Prelude.{slice_get, if◌then◌else◌}
use Rattle.std.specs.Option.{option_map_or, option_to_list}
use Rattle.std.proofs.lemmas.Bool.{both_ways, leb-true, lt-ltb, cases_lt}
use Rattle.std.proofs.lemmas.Option.{slice_get_within}
use Rattle.std.proofs.lemmas.List.{append-nil, get_or-set_same, get_or-set_other}
use Rattle.coop_request.specs.declared.request.TheConstants.{MAX_REQUESTS}
use Rattle.hold_back.specs.declared.hold.TheConstants.{MAX_HELD}
use Rattle.tomb_seq.proofs.Has.{Has}
use Rattle.edit_message.specs.declared.message.Message.{Message}
use Rattle.edit_message.specs.Message.{requests_of}
use Rattle.peer_step.specs.declared.step.Step.{Step}
use Rattle.peer_step.specs.declared.step.Step.TheVariants.{Receive, Settle}
use Rattle.peer_step.specs.declared.answer.Answer.{Answer}
use Rattle.peer_step.specs.declared.answer.Answer.TheVariants.{HoldFull}
use Rattle.peer_core.specs.Peer.{Peer, fresh_peer}
use Rattle.peer_core.specs.Answers.{answer_of, answer_receive, answer_settle}
use Rattle.peer_core.specs.After.{peer_after}
use Rattle.replay_net.specs.declared.line.Line.{Line}
use Rattle.replay_net.specs.declared.line.Line.TheVariants.{Give}
use Rattle.replay_net.specs.Reply.{issued_by}
use Rattle.replay_net.specs.World.{World, peer_of, issued_at, step_turn, no_message, number_of, turn_of, world_after}
use Rattle.replay_net.specs.Settling.{has_none_due, is_hold_full, HasAll}
use Rattle.replay_net.proofs.Parts.{Keeps}
use Rattle.replay_net.proofs.Integrated.{has_place}
use Rattle.replay_net.proofs.Schedules.{IsHonestWorld, IsFair, fair_line, inside, issued_has}
use Rattle.replay_net.proofs.Steps.{got, settle_issues}
use Rattle.replay_net.proofs.Settling.{peer_received, never_full, settled_from}
use Rattle.edit_make.specs.declared.limits.TheConstants.{PEERS}
use Rattle.edit_make.specs.Schedule.{Moment, Course, after_draws, after_line, lines_then, give_lines, settle, was_quiet, settles_then, settled_then, delivery, delivery_then, issued_since}
use Rattle.edit_make.proofs.Settling.{settle_goes, quiet_rests}
use Rattle.edit_make.proofs.HonestCourses.{settle_honest}
use Rattle.edit_make.proofs.Numbers.{range_has, given_numbers, given_has, given_few}

-- ---- the moment after lines

unfoldable pub after_lines : List Line → Moment → Moment
after_lines [] m = m
after_lines (line ∷ lines) m = after_lines lines (after_line line m)

-- the world in the end of lines, and of a course behind them
pub then_world : (lines : List Line) (course : Course) (m : Moment)
    → world_after m.world (lines_then lines course m) ≡ world_after (after_lines lines m).world (course (after_lines lines m))
unfolding after_line after_lines
then_world [] course m = refl
then_world (line ∷ lines) course m = then_world lines course (after_line line m)

one_behind : (lines : List Line) (line : Line) (m : Moment) → after_lines (lines ++ line ∷ []) m ≡ after_line line (after_lines lines m)
unfolding after_lines
one_behind [] line m = refl
one_behind (first ∷ lines) line m = one_behind lines line (after_line first m)

-- ---- lines of one peer that issue nothing

-- the world is honest still, with the same issued messages, and the other peers are as they were
pub record Goes (i : ℕ) (w v : World) : Type 0 where
  pub honest : IsHonestWorld PEERS v
  pub issued : v.issued ≡ w.issued
  pub keep : (m : Message) → Keeps (peer_of w i) m → Keeps (peer_of v i) m
  pub others : (j : ℕ) → (j ≡ i → ⊥) → peer_of v j ≡ peer_of w j

pub goes_none : (i : ℕ) (w : World) → IsHonestWorld PEERS w → Goes i w w
goes_none i w honest = record { honest = honest; issued = refl; keep = λ m h. h; others = λ j other. refl }

goes_on : (i : ℕ) (u v w : World) → Goes i u v → Goes i v w → Goes i u w
goes_on i u v w first second = record {
  honest = second.honest;
  issued = second.issued ∙ first.issued;
  keep = λ m h. second.keep m (first.keep m h);
  others = λ j other. second.others j other ∙ first.others j other;
}

-- a message has the number that it had
pub same_number : (v w : World) (number : ℕ) → v.issued ≡ w.issued → issued_at v number ≡ issued_at w number
same_number v w zero same = refl
same_number v w (suc k) same = ap (λ (xs : List Message). slice_get xs k) same

-- a step that issues nothing
step_goes : (w : World) (i : ℕ) (step : Step) → IsHonestWorld PEERS w → i < PEERS → IsFair PEERS w (step_turn w i step)
    → issued_by (answer_of (peer_of w i) step) ≡ None → Goes i w (step_turn w i step).after
step_goes w i step honest within fair none = record {
  honest = fair.honest;
  issued = ap (λ (o : Option Message). w.issued ++ option_to_list o) none ∙ append-nil w.issued;
  keep = λ m h. fair.keep m i within h;
  others = λ j other. get_or-set_other w.peers i j (peer_after (peer_of w i) step) (fresh_peer j) other;
}

-- the peer that steps
stepped : (w : World) (i : ℕ) (step : Step) → IsHonestWorld PEERS w → i < PEERS → peer_of (step_turn w i step).after i ≡ peer_after (peer_of w i) step
stepped w i step honest within = get_or-set_same w.peers i (peer_after (peer_of w i) step) (fresh_peer i) (inside PEERS w i honest within)

-- ---- a message is given

-- after it the peer has the message of this number, and holds at most one more
record IsGivenOne (i number : ℕ) (w v : World) : Type 0 where
  goes : Goes i w v
  has : (m : Message) → issued_at w number ≡ Some m → Keeps (peer_of v i) m
  more : length (peer_of v i).held ≤ length (peer_of w i).held + 1

not_full : (answer : Answer) → (answer ≡ HoldFull → ⊥) → is_hold_full answer ≡ false
not_full HoldFull h = absurd (h refl)
not_full answer h = refl

give_one : (i number : ℕ) (w : World) → IsHonestWorld PEERS w → i < PEERS → length (requests_of w.issued) ≤ MAX_REQUESTS
    → length (peer_of w i).held < MAX_HELD → IsGivenOne i number w (turn_of w (Give number i)).after
give_one i number w honest within few room = by (issued_at w number) refl (fair_line PEERS w (Give number i) honest (rw (lt-ltb i PEERS within) refl))
  where
    by : (o : Option Message) → issued_at w number ≡ o → IsFair PEERS w (option_map_or (λ m. step_turn w i (Receive m)) o (no_message w))
        → IsGivenOne i number w (option_map_or (λ m. step_turn w i (Receive m)) o (no_message w)).after
    by None is fair = record { goes = goes_none i w honest; has = λ m h. absurd cc; more = omega arith }
    by (Some x) is fair =
        let p : Peer = peer_of w i in
        let answered = got p x in
        let there = issued_has w number x is in
        let room_left : answer_receive p x ≡ HoldFull → ⊥ = λ full. let most = leb-true MAX_HELD (length p.held) (answered.full full) in absurd (omega (arith, most, room)) in
        record {
          goes = step_goes w i (Receive x) honest within fair answered.none;
          has = λ m h.
              let same : x ≡ m = cc in
              subst (Keeps (peer_of (step_turn w i (Receive x)).after i)) same
              (peer_received PEERS w i x honest within there (not_full (answer_receive p x) room_left)
              (λ none full answer. never_full PEERS w i x honest within few there none full));
          more = let size = ap (λ (q : Peer). length q.held) (stepped w i (Receive x) honest within) in omega (arith, size, answered.more);
        }

-- ---- messages are given

-- after them the peer has each of these numbers
pub record AreGiven (i : ℕ) (numbers : List ℕ) (w v : World) : Type 0 where
  pub goes : Goes i w v
  pub has : (number : ℕ) (m : Message) → Has numbers number → issued_at w number ≡ Some m → Keeps (peer_of v i) m

gives_all : (i : ℕ) (numbers : List ℕ) (m : Moment) → IsHonestWorld PEERS m.world → i < PEERS → length (requests_of m.world.issued) ≤ MAX_REQUESTS
    → length (peer_of m.world i).held + length numbers ≤ MAX_HELD → AreGiven i numbers m.world (after_lines (give_lines i numbers) m).world
unfolding after_line after_lines
gives_all i [] m honest within few room = record { goes = goes_none i m.world honest; has = λ number x h is. absurd h }
gives_all i (number ∷ numbers) m honest within few room =
    let w : World = m.world in
    let v : World = (turn_of w (Give number i)).after in
    let end : World = (after_lines (give_lines i numbers) (after_line (Give number i) m)).world in
    let first : IsGivenOne i number w v = give_one i number w honest within few (omega (arith, room)) in
    let fewer : length (requests_of v.issued) ≤ MAX_REQUESTS = subst (λ (xs : List Message). length (requests_of xs) ≤ MAX_REQUESTS) (sym first.goes.issued) few in
    let rest : AreGiven i numbers v end = gives_all i numbers (after_line (Give number i) m) first.goes.honest within fewer (omega (arith, room, first.more)) in
    record { goes = goes_on i w v end first.goes rest.goes; has = has w v end first rest }
  where
    has : (w v end : World) → IsGivenOne i number w v → AreGiven i numbers v end → (n : ℕ) (x : Message) → Has (number ∷ numbers) n → issued_at w n ≡ Some x → Keeps (peer_of end i) x
    has w v end first rest n x (inl same) is = rest.goes.keep x (first.has x (subst (λ (k : ℕ). issued_at w k ≡ Some x) (sym same) is))
    has w v end first rest n x (inr later) is = rest.has n x later (same_number v w n first.goes.issued ∙ is)

-- ---- the peer settles

-- at a moment behind a Settle of the peer: after Quiet none is due
IsRested : ℕ → Moment → Type 0
IsRested i m = was_quiet m.last ≡ true → has_none_due (peer_of m.world i) ≡ true

settle_next : (i : ℕ) (m : Moment) → IsHonestWorld PEERS m.world → i < PEERS → Goes i m.world (after_line (settle i) m).world × IsRested i (after_line (settle i) m)
unfolding after_line IsRested
settle_next i m honest within =
    let p : Peer = peer_of m.world i in
    let fair = fair_line PEERS m.world (settle i) honest (settle_honest i within) in (
      step_goes m.world i Settle honest within fair (settle_issues p),
      λ quiet.
          let rest = quiet_rests p (number_of m.world (answer_settle p)) quiet in
          subst (λ (q : Peer). has_none_due q ≡ true) (sym (stepped m.world i Settle honest within ∙ rest.1)) rest.0,
    )

-- where the course behind the settles leads to Q from such a moment, it does so behind them
settles_lead : (n i : ℕ) (course : Course) (Q : World → Type 0) (w : World) (m : Moment) → i < PEERS → Goes i w m.world → IsRested i m
    → (was_quiet m.last ≡ true) ⊎ (length (peer_of m.world i).held < n)
    → ((v : Moment) → Goes i w v.world → has_none_due (peer_of v.world i) ≡ true → Q (world_after v.world (course v)))
    → Q (world_after m.world (settles_then n i course m))
unfolding settles_then after_line IsRested
settles_lead zero i course Q w m within goes rested (inl quiet) lead = lead m goes (rested quiet)
settles_lead zero i course Q w m within goes rested (inr fewer) lead = absurd (omega (arith, fewer))
settles_lead (suc n) i course Q w m within goes rested enough lead =
    by (was_quiet m.last) refl (λ next less. settles_lead n i course Q w (after_line (settle i) m) within (goes_on i w m.world (after_line (settle i) m).world goes next.0) next.1 less lead)
  where
    further : was_quiet m.last ≡ false → (was_quiet m.last ≡ true) ⊎ (length (peer_of m.world i).held < suc n)
        → (was_quiet (after_line (settle i) m).last ≡ true) ⊎ (length (peer_of (after_line (settle i) m).world i).held + 1 ≡ length (peer_of m.world i).held)
        → (was_quiet (after_line (settle i) m).last ≡ true) ⊎ (length (peer_of (after_line (settle i) m).world i).held < n)
    further noisy (inl quiet) next = absurd (both_ways (was_quiet m.last) noisy quiet)
    further noisy (inr fewer) (inl quiet) = inl quiet
    further noisy (inr fewer) (inr one) = inr (omega (arith, fewer, one))

    by : (b : Bool) → was_quiet m.last ≡ b
        → (Goes i m.world (after_line (settle i) m).world × IsRested i (after_line (settle i) m)
        → (was_quiet (after_line (settle i) m).last ≡ true) ⊎ (length (peer_of (after_line (settle i) m).world i).held < n)
        → Q (world_after (after_line (settle i) m).world (settles_then n i course (after_line (settle i) m))))
        → Q (world_after m.world (if b then course m else settle i ∷ settles_then n i course (after_line (settle i) m)))
    by true quiet later = lead m goes (rested quiet)
    by false noisy later = later (settle_next i m goes.honest within) (further noisy enough (settle_goes i m))

settled_leads : (i : ℕ) (course : Course) (Q : World → Type 0) (w : World) (m : Moment) → i < PEERS → Goes i w m.world → IsRested i m
    → ((v : Moment) → Goes i w v.world → has_none_due (peer_of v.world i) ≡ true → Q (world_after v.world (course v)))
    → Q (world_after m.world (settled_then i course m))
unfolding settled_then
settled_leads i course Q w m within goes rested lead =
    settles_lead (length (peer_of m.world i).held + 1) i course Q w m within goes rested (inr (omega arith)) lead

-- ---- a delivery

-- where the course behind it leads to Q when the peer has each of these numbers and holds none that is due, so does the delivery
delivery_leads : (i : ℕ) (numbers : List ℕ) (course : Course) (Q : World → Type 0) (m : Moment) → IsHonestWorld PEERS m.world → i < PEERS
    → length (requests_of m.world.issued) ≤ MAX_REQUESTS → length (peer_of m.world i).held + 2 * length numbers ≤ MAX_HELD
    → ((v : Moment) → AreGiven i numbers m.world v.world → has_none_due (peer_of v.world i) ≡ true → Q (world_after v.world (course v)))
    → Q (world_after m.world (delivery_then i numbers course m))
delivery_leads i numbers course Q m honest within few room lead =
    let start : Moment = after_draws (length numbers) (after_draws (length numbers - 1) m) in
    let given : List ℕ = given_numbers numbers m.word in
    let behind : Moment = after_lines (give_lines i given) start in
    let end : Moment = after_line (settle i) behind in
    let most : length given ≤ 2 * length numbers = given_few numbers m.word in
    let all : AreGiven i given m.world behind.world = gives_all i given start honest within few (omega (arith, room, most)) in
    let next = settle_next i behind all.goes.honest within in
    let there : Q (world_after end.world (settled_then i course end)) =
    settled_leads i course Q behind.world end within next.0 next.1
    (λ v goes none_due.
    lead v (record {
      goes = goes_on i m.world behind.world v.world all.goes goes;
      has = λ number x h is. goes.keep x (all.has number x (given_has numbers m.word number h) is);
    }) none_due) in
    subst Q (sym (then_world (delivery i numbers m.word) (settled_then i course) start))
    (subst (λ (k : Moment). Q (world_after k.world (settled_then i course k))) (sym (one_behind (give_lines i given) (settle i) start)) there)

-- ---- all is integrated

-- a peer that had the messages up to a number, and was given those since, has integrated all
pub all_given : (i first : ℕ) (w v : World) → i < PEERS → length (requests_of w.issued) ≤ MAX_REQUESTS
    → ((number : ℕ) (m : Message) → number ≤ first → issued_at w number ≡ Some m → Keeps (peer_of w i) m)
    → AreGiven i (issued_since first w) w v → has_none_due (peer_of v i) ≡ true → HasAll v.issued (peer_of v i)
all_given i first w v within few old given none_due =
    settled_from PEERS i v given.goes.honest within (subst (λ (xs : List Message). length (requests_of xs) ≤ MAX_REQUESTS) (sym given.goes.issued) few) has none_due
  where
    has : (m : Message) → Has v.issued m → Keeps (peer_of v i) m
    has m there =
        let place = has_place v.issued m there in
        let number : ℕ = suc place.0 in
        let is : issued_at w number ≡ Some m = sym (same_number v w number given.goes.issued) ∙ place.1 in
        let there_yet : place.0 < length w.issued = slice_get_within w.issued place.0 m is in
        ⊎_elim
        (λ (high : first < number).
        given.has number m (range_has (first + 1) (length w.issued - first) number (omega (arith, high)) (omega (arith, high, there_yet))) is)
        (λ (low : number ≤ first). given.goes.keep m (old number m low is))
        (cases_lt first number)

-- so it is behind a delivery
pub delivered : (i first : ℕ) (course : Course) (Q : World → Type 0) (m : Moment) → IsHonestWorld PEERS m.world → i < PEERS
    → length (requests_of m.world.issued) ≤ MAX_REQUESTS → length (peer_of m.world i).held + 2 * length (issued_since first m.world) ≤ MAX_HELD
    → ((number : ℕ) (x : Message) → number ≤ first → issued_at m.world number ≡ Some x → Keeps (peer_of m.world i) x)
    → ((v : Moment) → Goes i m.world v.world → HasAll v.world.issued (peer_of v.world i) → Q (world_after v.world (course v)))
    → Q (world_after m.world (delivery_then i (issued_since first m.world) course m))
delivered i first course Q m honest within few room old lead =
    delivery_leads i (issued_since first m.world) course Q m honest within few room
    (λ v given none_due. lead v given.goes (all_given i first m.world v.world within few old given none_due))
