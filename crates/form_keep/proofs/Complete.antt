-- A run during which nothing failed.
use Rattle.std.proofs.Common.{◌≡◌, ◌⊎◌, inl, inr, ⊎_elim, ℕ, true, false, List, [], ◌∷◌, ◌++◌, Option, Some, refl, sym, ap, ◌∙◌, subst, append_assoc, append-nil, arith}
use Rattle.edit_io.specs.Causes.{Rose}
use Rattle.line_engine.specs.declared.status.Status.{Status}
use Rattle.line_engine.specs.declared.status.Status.TheVariants.{Done, Usage, BadInput, ReadFault, WriteFault, LinkFault, NoMemory, TooLong, NotShown, DiskFault, BadStore, StoreFull}
use Rattle.line_engine.specs.Status.{IsSinkFail}
use Rattle.line_engine.specs.Output.{Output, Begins}
use Rattle.line_engine.specs.Engine.{StatusCause}
use Rattle.peer_step.specs.declared.step.Step.{Step}
use Rattle.peer_core.specs.Peer.{Peer}
use Rattle.peer_core.specs.After.{peer_after}
use Rattle.peer_store.specs.Steps.{replay_of, if_changing}
use Rattle.peer_store.specs.Store.{StandsFor, IsNoStoreFrom}
use Rattle.line_input.specs.declared.reading.InputEnd.TheVariants as ends
use Rattle.line_input.specs.Steps.{steps_of, end_of}
use Rattle.form_keep.specs.Replies.{changing_from, finds_full_store, HadRoom}
use Rattle.form_keep.specs.Keeping.{AtEntry, IsNoStoreAt}
use Rattle.form_keep.specs.Run.{HasMade, ComesTo, RanKeep, DiskCause, kept_of}

-- each of the steps had room
room_at : (site : ℕ) (kept : List Step) (p : Peer) (made later : List Step) (step : Step) → HadRoom site kept p (made ++ step ∷ later) → finds_full_store site (kept ++ changing_from p made) step ≡ false
room_at site kept p [] later step room = subst (λ (l : List Step). finds_full_store site l step ≡ false) (sym (append-nil kept)) room.0
room_at site kept p (s ∷ made) later step room =
    subst (λ (l : List Step). finds_full_store site l step ≡ false) (append_assoc kept (if_changing p s) (changing_from (peer_after p s) made))
    (room_at site (kept ++ if_changing p s) (peer_after p s) made later step room.1)

module _ (one_list : (site : ℕ) (file : List ℕ) (first second : List Step) → StandsFor site first file → StandsFor site second file → first ≡ second)
    (no_store : (site offset : ℕ) (file : List ℕ) (steps : List Step) → IsNoStoreFrom site offset file → StandsFor site steps file → ⊥) where
  one_entry : (site : ℕ) (file : List ℕ) (first second : List Step) → AtEntry site first file → AtEntry site second file → first ≡ second
  one_entry site [] first second a b = a ∙ sym b
  one_entry site (byte ∷ file) first second a b = one_list site (byte ∷ file) first second a b

  is_store : (site offset : ℕ) (file : List ℕ) (kept : List Step) → AtEntry site kept file → IsNoStoreAt site offset file → ⊥
  is_store site offset [] kept a broken = broken.0 refl
  is_store site offset (byte ∷ file) kept a broken = no_store site offset (byte ∷ file) kept broken.1 a

  -- no step met a full store
  has_room : (site : ℕ) (file input : List ℕ) (kept : List Step) → AtEntry site kept file → HadRoom site kept (replay_of site kept) (steps_of input) → (run : HasMade site (Some file) input)
      → (step : Step) (later : List Step) → run.others ≡ step ∷ later → finds_full_store site (kept_of run) step ≡ true → ⊥
  has_room site file input kept entry room run step later next full =
      let same : kept ≡ run.kept = one_entry site file kept run.kept entry run.begins.0 in
      let all : HadRoom site run.kept (replay_of site run.kept) (run.made ++ step ∷ later)
      = subst (λ (l : List Step). HadRoom site run.kept (replay_of site run.kept) l) (run.steps_are ∙ ap (λ (l : List Step). run.made ++ l) next)
      (subst (λ (l : List Step). HadRoom site l (replay_of site l) (steps_of input)) same room) in
      let from : HadRoom site run.kept run.start (run.made ++ step ∷ later) = subst (λ (p : Peer). HadRoom site run.kept p (run.made ++ step ∷ later)) (sym run.begins.1) all in
      let is : true ≡ false = sym full ∙ room_at site run.kept run.start run.made later step from in
      cc

  module _ (site : ℕ) (file input : List ℕ) (left_old left_new seen : Option (List ℕ)) (may_leave : List ℕ → Type 0) (a a' b b' c c' : ℕ) (kept : List Step)
      (quiet_source : ¬ Rose a a') (quiet_sink : ¬ Rose b b') (quiet_disk : ¬ Rose c c') (entry : AtEntry site kept file) (whole : end_of input ≡ ends.Whole)
      (room : HadRoom site kept (replay_of site kept) (steps_of input)) where
    by_row : (status : Status) (last answered : List ℕ) → ComesTo status last site (Some file) input answered left_old left_new seen may_leave
        → StatusCause a a' status ReadFault → StatusCause b b' status WriteFault → DiskCause c c' status → (status ≡ Done) ⊎ (status ≡ NoMemory)
    by_row Done last answered row r w d = inl refl
    by_row NoMemory last answered row r w d = inr refl
    by_row Usage last answered row r w d = absurd row
    by_row LinkFault last answered row r w d = absurd row
    by_row NotShown last answered row r w d = absurd row
    by_row BadInput last answered row r w d = absurd (let is : ends.BadLine row.1.0 ≡ ends.Whole = sym row.1.1 ∙ whole in cc)
    by_row TooLong last answered row r w d = absurd (let is : ends.TooLong ≡ ends.Whole = sym row.1 ∙ whole in cc)
    by_row ReadFault last answered row r w d = absurd (quiet_source (let rose = r.rose refl in omega (arith, rose)))
    by_row WriteFault last answered row r w d = absurd (quiet_sink (let rose = w.rose refl in omega (arith, rose)))
    by_row DiskFault last answered row r w d = absurd (quiet_disk (d.rose refl))
    by_row BadStore last answered row r w d = absurd (is_store site row.1.0 file kept entry row.1.2)
    by_row StoreFull last answered row r w d = absurd (has_room site file input kept entry room row.0 row.1.0 row.1.1 row.1.2 (row.1.3 refl))

  pub complete : (may_leave : List ℕ → Type 0) (site : ℕ) (file input : List ℕ) (left_old left_new sink_old sink_new seen : Option (List ℕ)) (status : Status) (a a' b b' c c' : ℕ) (kept : List Step)
      → RanKeep site (Some file) left_old left_new sink_old sink_new seen may_leave status input
      → StatusCause a a' status ReadFault → StatusCause b b' status WriteFault → DiskCause c c' status → ¬ Rose a a' → ¬ Rose b b' → ¬ Rose c c'
      → AtEntry site kept file → end_of input ≡ ends.Whole → HadRoom site kept (replay_of site kept) (steps_of input) → (status ≡ Done) ⊎ (status ≡ NoMemory)
  complete may_leave site file input left_old left_new sink_old sink_new seen status a a' b b' c c' kept ran r w d qa qb qc entry whole room = ⊎_elim given failed ran.given
    where
      given : (ran.due ≡ record { written = ran.last; status = status }) → (status ≡ Done) ⊎ (status ≡ NoMemory)
      given e = by_row site file input left_old left_new seen may_leave a a' b b' c c' kept qa qb qc entry whole room status ran.due.written ran.answered
          (subst (λ (s : Status). ComesTo s ran.due.written site (Some file) input ran.answered left_old left_new seen may_leave) (ap (λ (o : Output). o.status) e) ran.comes) r w d

      failed : IsSinkFail status × Begins ran.last ran.due.written → (status ≡ Done) ⊎ (status ≡ NoMemory)
      failed h = ⊎_elim (λ (e : status ≡ WriteFault). absurd (qb (let rose = w.rose e in omega (arith, rose)))) (λ (e : status ≡ NoMemory). inr e) h.0
