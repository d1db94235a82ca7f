-- What a step leaves, `specs/After.antt`.
use Rattle.std.proofs.Common.{◌≡◌, List, [], ◌∷◌, ◌++◌, refl, sym}
use Rattle.std.proofs.lemmas.List.{append-nil}
use Rattle.edit_message.specs.declared.message.Message.{Message}
use Rattle.edit_message.specs.declared.message.Message.TheVariants.{Coop, Admin}
use Rattle.peer_step.specs.declared.step.Step.{Step}
use Rattle.peer_step.specs.declared.step.Step.TheVariants.{Receive}
use Rattle.peer_step.specs.declared.answer.Answer.{Answer}
use Rattle.peer_step.specs.declared.answer.Answer.TheVariants.{Done, Issued, Held, Taken, Advanced, Dropped, Settled}
use Rattle.peer_core.specs.Peer.{Peer}
use Rattle.peer_core.specs.After.{changed_by}

-- a step keeps the site
pub same_site : (p : Peer) (step : Step) (answer : Answer) → (changed_by p step answer).site ≡ p.site
same_site p step (Done q) = refl
same_site p step (Issued e undone) = refl
same_site p (Receive m) (Held what) = refl
same_site p (Receive m) (Taken state) = refl
same_site p (Receive m) (Advanced e undone) = refl
same_site p step (Dropped e fault) = refl
same_site p step (Settled m outcome) = refl
same_site p step answer = refl

-- a step leaves the old journal as a front of the new one
pub journal_grows : (p : Peer) (step : Step) (answer : Answer) → (more : List Message) × ((changed_by p step answer).journal ≡ p.journal ++ more)
journal_grows p step (Done q) = (Coop q ∷ [], refl)
journal_grows p step (Issued e undone) = (Admin e ∷ [], refl)
journal_grows p (Receive m) (Held what) = ([], sym (append-nil p.journal))
journal_grows p (Receive m) (Taken state) = (m ∷ [], refl)
journal_grows p (Receive m) (Advanced e undone) = (m ∷ [], refl)
journal_grows p step (Dropped e fault) = ([], sym (append-nil p.journal))
journal_grows p step (Settled m outcome) = (m ∷ [], refl)
journal_grows p step answer = ([], sym (append-nil p.journal))
