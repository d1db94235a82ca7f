-- What a writer has made and published.
use Rattle.std.proofs.Common.{◌≡◌, ℕ, ◌+◌, List, [], ◌∷◌, ◌++◌, ◌<◌, length, refl, sym, ap, ◌∙◌, subst, arith, length-append, take, get_or, Ok}
use Rattle.std.proofs.lemmas.List.{take_more}
use Rattle.peer_step.specs.declared.step.Step.{Step}
use Rattle.peer_step.specs.declared.step.Step.TheVariants.{Show}
use Rattle.peer_step.specs.declared.answer.Answer.{Answer}
use Rattle.peer_lock.specs.KnownPass.{KnownPass}
use Rattle.peer_lock.specs.Answers.{IsSame, Stepped}
use Rattle.peer_lock.specs.Made.{Made}
use Rattle.peer_lock.proofs.Passing.{same_self, same_then, made_none, made_then}
use Rattle.screen_read.specs.Screen.{KnownScreen, page_after, ArePublished, StepsShow, Publishes}
use Rattle.screen_read.proofs.Shows.{published_as}
use Rattle.form_watch.specs.Run.{each_shown}
use Rattle.form_watch.specs.Workers.{IsCurrent, Publishing}

-- the page of a pass was published
current_now : (s t : KnownScreen) (k : KnownPass) (n : ℕ) → Publishes s k (Ok n) t → ArePublished t.pass.view t.pages → IsCurrent t k
current_now s t k n p known =
    let is : t.pass ≡ k = ap (λ (x : KnownScreen). x.pass) p.1 in
    record {
      pass = is;
      newest = (s.pages, ap (λ (x : KnownScreen). x.pages) p.1);
      published = published_as k.view t.pass.view t.pages t.pages (sym (ap (λ (x : KnownPass). x.view) is)) refl known;
    }

-- a step was made, and the page after it was published
pub step_published : (s t : KnownScreen) (k l m : KnownPass) (step : Step) (n : ℕ) → IsSame k l → (a : Answer) × Stepped k.view step a l.view
    → IsSame l m → StepsShow l.view m.view → Publishes s m (Ok n) t → ArePublished t.pass.view t.pages → Publishing s k (step ∷ []) t m
step_published s t k l m step n first (a, st) then (b, sh) p known = record {
  same = same_then k l m first then;
  made = made_then k.view l.view m.view (step ∷ []) (Show ∷ []) first.number st.mine sh.mine;
  board = ap (λ (x : KnownScreen). x.table) p.1;
  grown = ap (λ (x : KnownScreen). length x.pages) p.1 ∙ length-append s.pages (page_after m.view.origin m.view.seen ∷ []);
  current = current_now s t m n p known;
}

pub each_shown-append : (xs ys : List Step) → each_shown (xs ++ ys) ≡ each_shown xs ++ each_shown ys
each_shown-append [] ys = refl
each_shown-append (x ∷ xs) ys = ap (λ (l : List Step). x ∷ Show ∷ l) (each_shown-append xs ys)

pub none_published : (s : KnownScreen) (k : KnownPass) → IsCurrent s k → Publishing s k [] s k
none_published s k current = record {
  same = same_self k;
  made = made_none k.view k.view refl;
  board = refl;
  grown = omega arith;
  current = current;
}

-- some steps, and then more
more_published : (s t u : KnownScreen) (k l m : KnownPass) (xs ys : List Step) → Publishing s k xs t l → Publishing t l ys u m → Publishing s k (xs ++ ys) u m
more_published s t u k l m xs ys a b = record {
  same = same_then k l m a.same b.same;
  made = subst (Made k.view m.view) (sym (each_shown-append xs ys)) (made_then k.view l.view m.view (each_shown xs) (each_shown ys) a.same.number a.made b.made);
  board = b.board ∙ a.board;
  grown = omega (arith, a.grown, b.grown, length-append xs ys);
  current = b.current;
}

-- the first steps of a list, one more
pub taken_next : (steps : List Step) (i : ℕ) (x : Step) → i < length steps → x ≡ get_or steps i x → take (i + 1) steps ≡ take i steps ++ x ∷ []
taken_next steps i x lt is = take_more steps i x lt ∙ ap (λ (y : Step). take i steps ++ y ∷ []) (sym is)

-- a list's steps were published up to this one, and then this one
pub one_published : (s t u : KnownScreen) (k l m : KnownPass) (steps : List Step) (i : ℕ) (x : Step) → i < length steps → x ≡ get_or steps i x → Publishing s k (take i steps) t l → Publishing t l (x ∷ []) u m
    → Publishing s k (take (i + 1) steps) u m
one_published s t u k l m steps i x lt is before one =
    subst (λ (l : List Step). Publishing s k l u m) (sym (taken_next steps i x lt is)) (more_published s t u k l m (take i steps) (x ∷ []) before one)
