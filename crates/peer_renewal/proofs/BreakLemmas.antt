-- Where pieces begin, `specs/Cutting.antt`.
use Rattle.std.proofs.Common.{◌≡◌, ℕ, zero, suc, ◌+◌, ◌-◌, ◌<◌, ◌⊎◌, inl, inr, ⊎_elim, ◌||◌, set, arith, Bool, true, false, cond, List, [], ◌∷◌, ◌++◌, length, get_or, take, drop, take_all, append-nil, refl, ap, sym, ◌∙◌, subst}
use Rattle.std.specs.List.{All}
use Rattle.std.specs.Prelude.{slice_index_or}
use Rattle.std.proofs.lemmas.Bool.{or_left, or_right}
use Rattle.std.proofs.lemmas.List.{take_more, drop_all}
use Rattle.std.proofs.lemmas.List.Elements.{All-weaker, All-append, All-push, filter-append}
use Rattle.policy_book.specs.declared.parts.Object.{Object}
use Rattle.peer_core.specs.Peer.{Peer}
use Rattle.peer_renewal.specs.Coverage.{is_kept, kept_objects, covered_bytes}
use Rattle.peer_renewal.specs.Cutting.{breaks_at, differ, HasEdges}

-- more breaks have the edges too, where there are as many bytes
pub edges_stay : (bits old new : List Bool) → length new ≡ length old → ((k : ℕ) → breaks_at old k ≡ true → breaks_at new k ≡ true) → HasEdges bits old → HasEdges bits new
edges_stay bits old new long stay edges k some low apart = stay k (edges k some (subst (λ (n : ℕ). k < n) long low) apart)

-- the edges of one object
pub one_kept : (p : Peer) (o : Object) (bits breaks : List Bool) → bits ≡ covered_bytes p o.extent → HasEdges bits breaks
    → All (λ x. HasEdges (covered_bytes p x.extent) breaks) (kept_objects (o ∷ []))
one_kept p o bits breaks is edges = by (is_kept o.extent)
  where
    by : (b : Bool) → All (λ x. HasEdges (covered_bytes p x.extent) breaks) (cond b (o ∷ []) [])
    by true = All-push (λ (x : Object). HasEdges (covered_bytes p x.extent) breaks) [] o (λ k d low. absurd (omega (arith, low))) (subst (λ (l : List Bool). HasEdges l breaks) is edges)
    by false = λ k d low. absurd (omega (arith, low))

-- one object more has its edges among the breaks
pub edges_more : (p : Peer) (objects : List Object) (i : ℕ) (o : Object) (old new : List Bool) → i < length objects → o ≡ get_or objects i o → length new ≡ length old
    → ((k : ℕ) → breaks_at old k ≡ true → breaks_at new k ≡ true)
    → All (λ x. HasEdges (covered_bytes p x.extent) new) (kept_objects (o ∷ []))
    → All (λ x. HasEdges (covered_bytes p x.extent) old) (kept_objects (take i objects))
    → All (λ x. HasEdges (covered_bytes p x.extent) new) (kept_objects (take (i + 1) objects))
edges_more p objects i o old new low is long stay here before =
    let has : Object → Type 0 = λ x. HasEdges (covered_bytes p x.extent) new in
    let had : Object → Type 0 = λ x. HasEdges (covered_bytes p x.extent) old in
    let kept = All-weaker had has (λ x h. edges_stay (covered_bytes p x.extent) old new long stay h) (kept_objects (take i objects)) before in
    let both : kept_objects (take (i + 1) objects) ≡ kept_objects (take i objects) ++ kept_objects (o ∷ []) =
    ap kept_objects (take_more objects i o low)
    ∙ filter-append (λ (x : Object). is_kept x.extent) (take i objects) (get_or objects i o ∷ [])
    ∙ ap (λ (x : Object). kept_objects (take i objects) ++ kept_objects (x ∷ [])) (sym is) in
    subst (All has) (sym both) (All-append has (kept_objects (take i objects)) (kept_objects (o ∷ [])) kept here)

-- a row of breaks that was lent comes back as it was left
pub written_back : (len : ℕ) (new old : List Bool) → length new ≡ length old → len ≡ length old → take len (new ++ drop (length new) old) ≡ new
written_back len new old long is =
    ap (λ (l : List Bool). take len (new ++ l)) (drop_all (length new) old (omega (arith, long)))
    ∙ ap (λ (l : List Bool). take len l) (append-nil new)
    ∙ take_all len new (omega (arith, long, is))

-- ---- one mark

-- a break stays where another one is noted
pub marked_stay : (breaks : List Bool) (place : ℕ) (mark : Bool) → (breaks_at breaks place ≡ true → mark ≡ true) → (k : ℕ) → breaks_at breaks k ≡ true → breaks_at (set breaks place mark) k ≡ true
marked_stay [] place mark keeps k h = h
marked_stay (b ∷ breaks) zero mark keeps zero h = keeps h
marked_stay (b ∷ breaks) zero mark keeps (suc k) h = h
marked_stay (b ∷ breaks) (suc place) mark keeps zero h = h
marked_stay (b ∷ breaks) (suc place) mark keeps (suc k) h = marked_stay breaks place mark keeps k h

pub marked_here : (breaks : List Bool) (place : ℕ) (mark : Bool) → place < length breaks → breaks_at (set breaks place mark) place ≡ mark
marked_here [] place mark low = absurd (omega arith)
marked_here (b ∷ breaks) zero mark low = refl
marked_here (b ∷ breaks) (suc place) mark low = marked_here breaks place mark (omega arith)

-- the edges up to a place and there
pub edges_to : (bits breaks : List Bool) (place : ℕ) (mark : Bool) → place < length breaks
    → mark ≡ (breaks_at breaks place || differ (slice_index_or bits (place - 1) false) (slice_index_or bits place false))
    → ((k : ℕ) → 0 < k → k < place → differ (slice_index_or bits (k - 1) false) (slice_index_or bits k false) ≡ true → breaks_at breaks k ≡ true)
    → (k : ℕ) → 0 < k → k < place + 1 → differ (slice_index_or bits (k - 1) false) (slice_index_or bits k false) ≡ true → breaks_at (set breaks place mark) k ≡ true
edges_to bits breaks place mark low is before k some last apart = ⊎_elim
    (λ (here : k ≡ place).
    let there : differ (slice_index_or bits (place - 1) false) (slice_index_or bits place false) ≡ true =
    subst (λ (n : ℕ). differ (slice_index_or bits (n - 1) false) (slice_index_or bits n false) ≡ true) here apart in
    subst (λ (n : ℕ). breaks_at (set breaks place mark) n ≡ true) (sym here)
    (marked_here breaks place mark low ∙ is ∙ or_right (breaks_at breaks place) (differ (slice_index_or bits (place - 1) false) (slice_index_or bits place false)) there))
    (λ (below : k < place).
    marked_stay breaks place mark (λ h. is ∙ or_left (breaks_at breaks place) (differ (slice_index_or bits (place - 1) false) (slice_index_or bits place false)) h) k (before k some below apart))
    (split k place last)
  where
    split : (k place : ℕ) → k < place + 1 → (k ≡ place) ⊎ (k < place)
    split zero zero last = inl refl
    split zero (suc place) last = inr (omega arith)
    split (suc k) zero last = absurd (omega arith)
    split (suc k) (suc place) last = ⊎_elim (λ (e : k ≡ place). inl (ap suc e)) (λ (l : k < place). inr (omega arith)) (split k place (omega arith))
