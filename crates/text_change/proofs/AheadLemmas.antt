-- Rows of what stood before a step.
use Rattle.std.proofs.Common.{◌≡◌, ℕ, List, [], ◌∷◌, length, refl, ap, sym, subst, ◌∙◌}
use Rattle.std.specs.Prelude.{if◌then◌else◌, filter_map}
use Rattle.std.specs.List.{cons_option}
use Rattle.std.specs.List.Sorted.{IsStrictlySortedBy}
use Rattle.std.specs.Map.{keys_of}
use Rattle.std.specs.BTreeMap.{BTreeMap}
use Rattle.std.specs.Ordering.{nat_cmp}
use Rattle.coop_request.specs.Request.{Request, element_of}
use Rattle.peer_step.specs.declared.answer.Answer.{Answer}
use Rattle.peer_step.specs.declared.step.LocalEdit.{LocalEdit}
use Rattle.peer_step.specs.declared.step.Step.{Step}
use Rattle.peer_step.specs.declared.step.Step.TheVariants as steps
use Rattle.peer_core.specs.Peer.{Peer}
use Rattle.peer_core.specs.Answers.{answer_of, answer_edit}
use Rattle.peer_core.specs.After.{peer_after}
use Rattle.text_change.specs.declared.ahead.Touched.TheVariants.{Own, One, Many}
use Rattle.text_change.specs.declared.seen.Seen.{Seen}
use Rattle.text_change.specs.Ahead.{IsAheadOf}
use Rattle.text_change.specs.Rows.{row_of}
use Rattle.text_change.specs.Seen.{seen_of, seen_at, row_by}
use Rattle.text_change.specs.Told.{is_done, AreRowsOf}
use Rattle.text_change.proofs.ToldLemmas.{told_own, told_by_request, told_by_entry}

-- a list of no length is empty
pub empty : (rows : List LocalEdit) → length rows ≡ 0 → rows ≡ []
empty [] h = refl
empty (row ∷ rows) h = absurd cc

-- an own edit is its row, where it is made
pub own_told : (p q : Peer) (step : Step) (edit : LocalEdit) (a : Answer) (rows : List LocalEdit) → IsAheadOf p step (Own edit) → a ≡ answer_of p step → q ≡ peer_after p step
    → rows ≡ (if is_done a then edit ∷ [] else []) → AreRowsOf p q rows
own_told p q step edit a rows ahead answered after is =
    let step_is : step ≡ steps.Edit edit = ahead.touches in
    let made : is_done (answer_edit p edit) ≡ is_done a = sym (ap is_done (answered ∙ ap (answer_of p) step_is)) in
    subst (λ (v : List LocalEdit). AreRowsOf p q v) (sym is)
    (subst (λ (x : Peer). AreRowsOf p x (if is_done a then edit ∷ [] else [])) (sym (after ∙ ap (peer_after p) step_is)) (told_own p edit (is_done a) ahead.sound made))

-- a request changes its element alone
pub one_told : (p q : Peer) (step : Step) (seen : Seen) (rows : List LocalEdit) → IsAheadOf p step (One seen) → q ≡ peer_after p step
    → rows ≡ cons_option (row_of q seen.element seen.piece) [] → AreRowsOf p q rows
one_told p q step seen rows ahead after is =
    let r : Request = ahead.touches.0 in
    let told = told_by_request p step r ahead.formed ahead.sound ahead.touches.1 in
    let same : rows ≡ cons_option (row_of q (element_of r) (seen_of p (element_of r)).piece) [] = is ∙ ap (λ (s : Seen). cons_option (row_of q s.element s.piece) []) ahead.touches.2 in
    subst (λ (v : List LocalEdit). AreRowsOf p q v) (sym same)
    (subst (λ (x : Peer). AreRowsOf p x (cons_option (row_of x (element_of r) (seen_of p (element_of r)).piece) [])) (sym after) told)

-- an entry changes the elements of the requests that it undoes
pub many_told : (p q : Peer) (step : Step) (seen : BTreeMap ℕ Seen) (rows : List LocalEdit) → IsAheadOf p step (Many seen) → q ≡ peer_after p step
    → rows ≡ filter_map (row_by q) seen.entries → AreRowsOf p q rows
many_told p q step seen rows ahead after is =
    let some = ahead.touches.2 in
    let sorted = subst (λ (es : List (ℕ × Seen)). IsStrictlySortedBy nat_cmp (keys_of es)) some.2 some.3 in
    let told = told_by_entry p step some.0 ahead.formed ahead.sound ahead.touches.0 ahead.touches.1 some.1 sorted in
    subst (λ (v : List LocalEdit). AreRowsOf p q v) (sym (is ∙ ap (λ (es : List (ℕ × Seen)). filter_map (row_by q) es) some.2))
    (subst (λ (x : Peer). AreRowsOf p x (filter_map (row_by x) (seen_at p some.0))) (sym after) told)
