-- Passes that were joined.
use Rattle.std.proofs.Common.{◌≡◌, ℕ, ◌+◌, List, [], ◌∷◌, ◌++◌, length, refl, sym, ap, ◌∙◌, subst, arith, append_assoc, append-nil, length-append}
use Rattle.edit_io.specs.Door.{hurt_by}
use Rattle.peer_core.specs.Peer.{Peer}
use Rattle.peer_lock.specs.KnownPass.{KnownPass}
use Rattle.peer_lock.specs.Run.{StartsWith, steps_by, peer_after_run}
use Rattle.peer_lock.specs.Rule.{HasNumber, times}
use Rattle.peer_lock.specs.Answers.{UnitesPasses, ClosesRun}
use Rattle.peer_lock.specs.Laws.{answers_by}
use Rattle.peer_step.specs.declared.step.Step.{Step}
use Rattle.peer_lock.specs.declared.call.Call.{Call}
use Rattle.peer_lock.specs.declared.view.View.{View}
use Rattle.peer_lock.proofs.Lists.{times-append, steps-append}
use Rattle.peer_lock.proofs.ByCaller.{told-append, told_none}
use Rattle.link_run.specs.declared.job.Job.{Job}
use Rattle.link_run.specs.Gathered.{IsIn, EachOf, all_numbers, JoinsAll}
use Rattle.link_run.specs.Jobs.{passes_of, links_of, outcomes_of}
use Rattle.link_run.specs.Taken.{hurt_among}

-- nothing was put behind a list that stayed
no_more : (xs ys : List Step) → xs ++ ys ≡ xs → ys ≡ []
no_more xs [] e = refl
no_more xs (y ∷ ys) e = absurd (omega (arith, ap (λ (l : List Step). length l) e, length-append xs (y ∷ ys)))

has_left : (n : ℕ) (xs ys all : List ℕ) → all ≡ xs ++ ys → HasNumber xs n → HasNumber all n
has_left n xs ys all e h = omega (arith, ap (times n) e, times-append n xs ys, h)

has_right : (n : ℕ) (xs ys all : List ℕ) → all ≡ xs ++ ys → HasNumber ys n → HasNumber all n
has_right n xs ys all e h = omega (arith, ap (times n) e, times-append n xs ys, h)

-- a join keeps what the receiver knew
in_mine : (v o w : View) → UnitesPasses v o w → IsIn v w
in_mine v o w j = record { numbers = λ n h. has_left n v.numbers o.numbers w.numbers j.numbers h; seen = j.mine; steps = j.my_steps; floor = omega (arith, j.floor) }

-- and what the other knew
in_theirs : (v o w : View) → UnitesPasses v o w → IsIn o w
in_theirs v o w j = record { numbers = λ n h. has_right n v.numbers o.numbers w.numbers j.numbers h; seen = j.theirs; steps = j.their_steps; floor = omega (arith, j.floor) }

starts_then : (xs ys zs : List Call) → StartsWith ys xs → StartsWith zs ys → StartsWith zs xs
starts_then xs ys zs p q = (p.0 ++ q.0, q.1 ∙ ap (λ l. l ++ q.0) p.1 ∙ append_assoc xs p.0 q.0)

in_then : (u v w : View) → IsIn u v → IsIn v w → IsIn u w
in_then u v w p q = record {
  numbers = λ n h. q.numbers n (p.numbers n h);
  seen = starts_then u.seen v.seen w.seen p.seen q.seen;
  steps = λ n h. q.steps n (p.numbers n h) ∙ p.steps n h;
  floor = omega (arith, p.floor, q.floor);
}

in_self : (v : View) → IsIn v v
in_self v = record { numbers = λ n h. h; seen = ([], sym (append-nil v.seen)); steps = λ n h. refl; floor = omega arith }

all_in : (v w : View) (ks : List KnownPass) → EachOf (λ o. IsIn o.view v) ks → IsIn v w → EachOf (λ o. IsIn o.view w) ks
all_in v w [] h p = tt
all_in v w (k ∷ ks) h p = (in_then k.view v w h.0 p, all_in v w ks h.1 p)

pub joins_none : (k : KnownPass) → JoinsAll k [] k
joins_none k = record { table = refl; mine = in_self k.view; theirs = tt; numbers = omega arith; number = refl; origin = refl; made = refl }

-- the steps of a number that a longer run has no more of have the same answers there
pub answers_kept : (n : ℕ) (p : Peer) (long short : List Call) → StartsWith long short → steps_by n long ≡ steps_by n short → answers_by n p long ≡ answers_by n p short
answers_kept n p long short begins same =
    let none : steps_by n begins.0 ≡ [] = no_more (steps_by n short) (steps_by n begins.0) (sym (steps-append n short begins.0) ∙ ap (steps_by n) (sym begins.1) ∙ same) in
    ap (answers_by n p) begins.1 ∙ told-append n p short begins.0 ∙ ap (λ l. answers_by n p short ++ l) (told_none n (peer_after_run p short) begins.0 none) ∙ append-nil (answers_by n p short)

pub kept_in_run : (v w : View) (p : Peer) (history : List Call) (start : Peer) (n : ℕ) → IsIn v w → ClosesRun w p history → HasNumber v.numbers n → answers_by n start history ≡ answers_by n start v.seen
kept_in_run v w p history start n i c h =
    answers_kept n start history v.seen (starts_then v.seen w.seen history i.seen c.seen) (c.steps n (i.numbers n h) ∙ i.steps n h)

-- what holds of each holds of one that stands in the list
pub each_at : {A : Type 0} (P : A → Type 0) (xs : List A) (y : A) (zs : List A) → EachOf P (xs ++ y ∷ zs) → P y
each_at P [] y zs h = h.0
each_at P (x ∷ xs) y zs h = each_at P xs y zs h.1

pub each_last : {A : Type 0} (P : A → Type 0) (xs : List A) (y : A) → EachOf P xs → P y → EachOf P (xs ++ y ∷ [])
each_last P [] y h p = (p, tt)
each_last P (x ∷ xs) y h p = (h.0, each_last P xs y h.1 p)

all_numbers-last : (xs : List KnownPass) (y : KnownPass) → all_numbers (xs ++ y ∷ []) ≡ all_numbers xs + length y.view.numbers
all_numbers-last [] y = omega arith
all_numbers-last (x ∷ xs) y = omega (arith, all_numbers-last xs y)

-- one more pass, noted last
pub joins_last : (k : KnownPass) (others : List KnownPass) (l o m : KnownPass) → JoinsAll k others l → m.table ≡ l.table → UnitesPasses l.view o.view m.view → o.view.made ≡ 0 → JoinsAll k (others ++ o ∷ []) m
joins_last k others l o m all table j none = record {
  table = table ∙ all.table;
  mine = in_then k.view l.view m.view all.mine (in_mine l.view o.view m.view j);
  theirs = each_last (λ x. IsIn x.view m.view) others o (all_in l.view m.view others all.theirs (in_mine l.view o.view m.view j)) (in_theirs l.view o.view m.view j);
  numbers = omega (arith, ap (λ (l : List ℕ). length l) j.numbers, length-append l.view.numbers o.view.numbers, all.numbers, all_numbers-last others o);
  number = j.number ∙ all.number;
  origin = j.origin ∙ all.origin;
  made = omega (arith, j.made, all.made, none);
}

-- ---- the parts of jobs

pub passes-append : {L : Type 0} (xs ys : List (Job L)) → passes_of (xs ++ ys) ≡ passes_of xs ++ passes_of ys
passes-append [] ys = refl
passes-append (x ∷ xs) ys = ap (λ l. x.pass ∷ l) (passes-append xs ys)

pub links-append : {L : Type 0} (xs ys : List (Job L)) → links_of (xs ++ ys) ≡ links_of xs ++ links_of ys
links-append [] ys = refl
links-append (x ∷ xs) ys = ap (λ l. x.link ∷ l) (links-append xs ys)

pub outcomes-append : {L : Type 0} (xs ys : List (Job L)) → outcomes_of (xs ++ ys) ≡ outcomes_of xs ++ outcomes_of ys
outcomes-append [] ys = refl
outcomes-append (x ∷ xs) ys = ap (λ l. x.outcome ∷ l) (outcomes-append xs ys)

pub length-outcomes : {L : Type 0} (xs : List (Job L)) → length (outcomes_of xs) ≡ length xs
length-outcomes [] = refl
length-outcomes (x ∷ xs) = omega (arith, length-outcomes xs)

-- one more link
pub hurt-last : {L : Type 0} (faults : L → ℕ) (links : List L) (link : L) → hurt_among faults (links ++ link ∷ []) ≡ hurt_among faults links + hurt_by (faults link)
hurt-last faults [] link = omega arith
hurt-last faults (x ∷ links) link = omega (arith, hurt-last faults links link)

pub length-passes : {L : Type 0} (xs : List (Job L)) → length (passes_of xs) ≡ length xs
length-passes [] = refl
length-passes (x ∷ xs) = omega (arith, length-passes xs)

-- what holds of the passes of all jobs holds of one's
pub pass_at : {L : Type 0} (P : KnownPass → Type 0) (all front : List (Job L)) (j : Job L) (back : List (Job L)) → all ≡ front ++ (j ∷ back) → EachOf P (passes_of all) → P j.pass
pass_at P all front j back e h = each_at P (passes_of front) j.pass (passes_of back) (subst (EachOf P) (ap passes_of e ∙ passes-append front (j ∷ back)) h)
