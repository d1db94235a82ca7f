-- Steps that are made one after another: their answers, what they keep, and the room that they found.
use Rattle.std.proofs.Common.{◌≡◌, ℕ, false, List, [], ◌∷◌, ◌++◌, Option, None, refl, sym, ap, ◌∙◌, subst, append_assoc, append-nil}
use Rattle.std.specs.Prelude.{not, ◌&&◌, nat_lt, fold}
use Rattle.std.proofs.lemmas.List.Sums.{fold-append}
use Rattle.peer_disk.specs.Records.{gate_place}
use Rattle.peer_step.specs.declared.step.Step.{Step}
use Rattle.peer_core.specs.Peer.{Peer, fresh_peer}
use Rattle.peer_core.specs.Answers.{answer_of}
use Rattle.peer_core.specs.After.{peer_after}
use Rattle.peer_store.specs.declared.limits.TheConstants.{MAX_GATE}
use Rattle.peer_store.specs.Steps.{if_changing, is_look}
use Rattle.peer_store.specs.Store.{KeptAs, Saved, IsSaved, finds_no_gate}
use Rattle.line_spelling.specs.Answers.{answer_line}
use Rattle.form_keep.specs.Replies.{replies_from, changing_from, bodies_from, finds_full_store, HadRoom}
use Rattle.form_keep.specs.Keeping.{AreKept}

-- ---- some steps, and then more

replies_append : (p : Peer) (first more : List Step) → replies_from p (first ++ more) ≡ replies_from p first ++ replies_from (fold peer_after p first) more
replies_append p [] more = refl
replies_append p (step ∷ steps) more =
    ap (λ (l : List ℕ). answer_line None (answer_of p step) ++ l) (replies_append (peer_after p step) steps more)
    ∙ sym (append_assoc (answer_line None (answer_of p step)) (replies_from (peer_after p step) steps) (replies_from (fold peer_after (peer_after p step) steps) more))

changing_append : (p : Peer) (first more : List Step) → changing_from p (first ++ more) ≡ changing_from p first ++ changing_from (fold peer_after p first) more
changing_append p [] more = refl
changing_append p (step ∷ steps) more =
    ap (λ (l : List Step). if_changing p step ++ l) (changing_append (peer_after p step) steps more)
    ∙ sym (append_assoc (if_changing p step) (changing_from (peer_after p step) steps) (changing_from (fold peer_after (peer_after p step) steps) more))

room_append : (site : ℕ) (kept : List Step) (p : Peer) (first more : List Step) → HadRoom site kept p first → HadRoom site (kept ++ changing_from p first) (fold peer_after p first) more
    → HadRoom site kept p (first ++ more)
room_append site kept p [] more room next = subst (λ (l : List Step). HadRoom site l p more) (append-nil kept) next
room_append site kept p (step ∷ steps) more room next = (
  room.0,
  room_append site (kept ++ if_changing p step) (peer_after p step) steps more room.1
      (subst (λ (l : List Step). HadRoom site l (fold peer_after (peer_after p step) steps) more) (sym (append_assoc kept (if_changing p step) (changing_from (peer_after p step) steps))) next),
)

pub replies_more : (p q : Peer) (first more : List Step) → q ≡ fold peer_after p first → replies_from p first ++ replies_from q more ≡ replies_from p (first ++ more)
replies_more p q first more is = ap (λ (r : Peer). replies_from p first ++ replies_from r more) is ∙ sym (replies_append p first more)

-- ---- the place of a store's last gate

bodies_are : (p : Peer) (steps : List Step) (bodies : List (List ℕ)) → KeptAs p steps bodies → bodies ≡ bodies_from p steps
bodies_are p [] [] kept = refl
bodies_are p [] (body ∷ bodies) kept = absurd kept
bodies_are p (step ∷ steps) [] kept = absurd kept
bodies_are p (step ∷ steps) (body ∷ bodies) kept =
    ap (λ (b : List ℕ). b ∷ bodies) kept.0.spelled ∙ ap (λ (l : List (List ℕ)). bodies_from p (step ∷ []) ++ l) (bodies_are (peer_after p step) steps bodies kept.2)

-- what the store says of its room, its steps say
pub room_is : (site : ℕ) (kept : List Step) (saved : Saved) (seen : Option (List ℕ)) (may_leave : List ℕ → Type 0) (step : Step) → IsSaved site kept saved seen may_leave
    → finds_full_store site kept step ≡ finds_no_gate saved step
room_is site kept saved seen may_leave step is =
    ap (λ (place : ℕ). nat_lt MAX_GATE place && not (is_look step))
    (ap gate_place (sym (bodies_are (fresh_peer site) kept is.bodies is.spelled)) ∙ sym is.keeps.place_is)

-- ---- steps that are kept

-- none
pub none_kept : (old new : Saved) (a b : Option (List ℕ)) (before now : List ℕ → Type 0) → new ≡ old → old.spent ≡ false
    → ((site : ℕ) (kept : List Step) → IsSaved site kept old a before → IsSaved site kept new b now) → AreKept old new [] a b before now
none_kept old new a b before now same unspent keeps = record {
  after = ap (λ (s : Saved). s.peer) same;
  unspent = ap (λ (s : Saved). s.spent) same ∙ unspent;
  room = λ site kept saved. tt;
  keeps = λ site kept saved. subst (λ (l : List Step). IsSaved site l new b now) (sym (append-nil kept)) (keeps site kept saved);
}

-- one
pub one_kept : (old new : Saved) (step : Step) (a b : Option (List ℕ)) (before now : List ℕ → Type 0) → new.peer ≡ peer_after old.peer step → new.spent ≡ false → finds_no_gate old step ≡ false
    → ((site : ℕ) (kept : List Step) → IsSaved site kept old a before → IsSaved site (kept ++ if_changing old.peer step) new b now) → AreKept old new (step ∷ []) a b before now
one_kept old new step a b before now after unspent room keeps = record {
  after = after;
  unspent = unspent;
  room = λ site kept saved. (room_is site kept old a before step saved ∙ room, tt);
  keeps = λ site kept saved. subst (λ (l : List Step). IsSaved site (kept ++ l) new b now) (sym (append-nil (if_changing old.peer step))) (keeps site kept saved);
}

-- some, and then more
pub more_kept : (old mid new : Saved) (first more : List Step) (a b c : Option (List ℕ)) (before between now : List ℕ → Type 0) → AreKept old mid first a b before between
    → AreKept mid new more b c between now → AreKept old new (first ++ more) a c before now
more_kept old mid new first more a b c before between now h k = record {
  after = k.after ∙ ap (λ (p : Peer). fold peer_after p more) h.after ∙ sym (fold-append peer_after old.peer first more);
  unspent = k.unspent;
  room = λ site kept saved. room_append site kept old.peer first more (h.room site kept saved)
      (subst (λ (p : Peer). HadRoom site (kept ++ changing_from old.peer first) p more) h.after (k.room site (kept ++ changing_from old.peer first) (h.keeps site kept saved)));
  keeps = λ site kept saved. subst (λ (l : List Step). IsSaved site l new c now) (joined kept) (k.keeps site (kept ++ changing_from old.peer first) (h.keeps site kept saved));
}
  where
    joined : (kept : List Step) → (kept ++ changing_from old.peer first) ++ changing_from mid.peer more ≡ kept ++ changing_from old.peer (first ++ more)
    joined kept =
        append_assoc kept (changing_from old.peer first) (changing_from mid.peer more)
        ∙ ap (λ (p : Peer). kept ++ (changing_from old.peer first ++ changing_from p more)) h.after
        ∙ ap (λ (l : List Step). kept ++ l) (sym (changing_append old.peer first more))
