-- What happens in a session, and in which order it may.
use Rattle.std.specs.Prelude.{◌≡◌, ℕ, ◌+◌, ◌==◌, Bool, List, [], ◌∷◌, Option, Some, None, Result, Ok, Err, true, false, if◌then◌else◌}
use Rattle.edit_message.specs.declared.message.Message.{Message}
use Rattle.peer_step.specs.declared.step.Step.{Step}
use Rattle.peer_step.specs.declared.step.Step.TheVariants.{Receive, Settle, ValidateNext, Look}
use Rattle.peer_step.specs.declared.answer.Answer.{Answer}
use Rattle.peer_step.specs.declared.answer.Answer.TheVariants.{Issued, Item}
use Rattle.peer_step.specs.Answers.{is_quiet}
use Rattle.edit_frame.specs.declared.frame.Frame.{Frame}
use Rattle.edit_frame.specs.declared.frame.Frame.TheVariants as frames
use Rattle.edit_frame.specs.declared.frame.FrameKind.{FrameKind}
use Rattle.edit_frame.specs.Spelling.{spelling}
use Rattle.edit_frame.specs.Reading.{decoded_frame}

-- ---- events, and what may come next

-- a message came and was read, one came and was not read, one was sent, or the caller made a step and got an answer
pub data Event : Type 0 where
  MessageRead : List ℕ → Event
  MessageUnread : List ℕ → Event
  MessageSent : List ℕ → Event
  StepMade : Step → Answer → Event

-- what has to come next
pub data Phase : Type 0 where
  -- a message comes: an item, a turn or an end
  Listens : Phase
  -- the item that came is received
  ReceivesItem : Message → Phase
  -- what is held settles
  Settles : Phase
  -- a request is validated
  Validates : Phase
  -- the journal is looked at, at the mark
  Looks : Phase
  -- the item that was found is sent
  SendsItem : Message → Phase
  -- a turn is sent
  SendsTurn : Phase
  -- an end is sent
  SendsEnd : Phase
  -- nothing: the session is whole
  Finished : Phase
  -- nothing: the last message is no frame, for this reason
  Broken : FrameKind → Phase
  -- nothing: the last message was not read
  Unread : Phase

-- what comes next, how many items of the journal were sent, and how many turns came
pub record SessionState : Type 0 where
  pub phase : Phase
  pub mark : ℕ
  pub turns : ℕ

-- the same, with this to come next
abbrev pub in_phase : Phase → SessionState → SessionState
in_phase phase s = record s { phase = phase }

-- whether requests are validated after a turn that came, and in how many rounds one dials; none where one serves
pub record Mode : Type 0 where
  pub validates : Bool
  pub rounds : Option ℕ

abbrev pub serving : Bool → Mode
serving validates = record { validates = validates; rounds = None }

abbrev pub dialling : Bool → ℕ → Mode
dialling validates rounds = record { validates = validates; rounds = Some rounds }

-- what comes once so many turns came: this side's own turn, and after the last round of one who dials the end
abbrev pub phase_after_turns : Option ℕ → ℕ → Phase
phase_after_turns None turns = Looks
phase_after_turns (Some rounds) turns = if turns == rounds then SendsEnd else Looks

-- one who serves listens first, one who dials begins with a turn of its own
abbrev pub first_state : Option ℕ → SessionState
first_state None = record { phase = Listens; mark = 0; turns = 0 }
first_state (Some rounds) = record { phase = phase_after_turns (Some rounds) 0; mark = 0; turns = 0 }

-- a turn came, and what it asks for was done
abbrev pub turn_done : Mode → SessionState → SessionState
turn_done mode s = in_phase (phase_after_turns mode.rounds s.turns) s

-- one more turn came, which asks for validation or for nothing
abbrev pub after_turn : Mode → Bool → SessionState → SessionState
after_turn mode true s = in_phase Validates (record s { turns = s.turns + 1 })
after_turn mode false s = turn_done mode (record s { turns = s.turns + 1 })

-- ---- messages that come

-- after a message that reads as this
abbrev pub Hears : Mode → SessionState → Result Frame FrameKind → SessionState → Type 0
Hears mode s (Ok (frames.Item m)) t = t ≡ in_phase (ReceivesItem m) s
Hears mode s (Ok frames.Turn) t = t ≡ after_turn mode mode.validates s
Hears mode s (Ok frames.End) t = t ≡ in_phase Finished s
Hears mode s (Err kind) t = t ≡ in_phase (Broken kind) s

-- ---- steps

-- an entry was issued
abbrev pub is_issued : Answer → Bool
is_issued (Issued entry undone) = true
is_issued answer = false

-- the item that was found, or that there is none; none where the answer is to another step
abbrev pub item_in : Answer → Option (Option Message)
item_in (Item item) = Some item
item_in answer = None

-- what comes after a settle: one more, unless nothing was due
abbrev pub after_settle : Bool → Phase
after_settle true = Listens
after_settle false = Settles

-- after a validation: one more if an entry was issued, and else what comes after a turn
abbrev pub after_validation : Mode → Bool → SessionState → SessionState
after_validation mode true s = s
after_validation mode false s = turn_done mode s

-- after a look: the item is sent, or where there is none the turn
abbrev pub Finds : Option (Option Message) → SessionState → SessionState → Type 0
Finds (Some (Some m)) s t = t ≡ in_phase (SendsItem m) s
Finds (Some None) s t = t ≡ in_phase SendsTurn s
Finds None s t = ⊥

-- which step may be made, and what follows its answer
abbrev pub MayStep : Mode → Phase → SessionState → Step → Answer → SessionState → Type 0
MayStep mode (ReceivesItem m) s step answer t = (step ≡ Receive m) × (t ≡ in_phase Settles s)
MayStep mode Settles s step answer t = (step ≡ Settle) × (t ≡ in_phase (after_settle (is_quiet answer)) s)
MayStep mode Validates s step answer t = (step ≡ ValidateNext) × (t ≡ after_validation mode (is_issued answer) s)
MayStep mode Looks s step answer t = (step ≡ Look s.mark) × Finds (item_in answer) s t
MayStep mode phase s step answer t = ⊥

-- ---- messages that are sent

-- which message may be sent, and what follows
abbrev pub MaySend : Phase → SessionState → List ℕ → SessionState → Type 0
MaySend (SendsItem m) s bytes t = (bytes ≡ spelling (frames.Item m)) × (t ≡ in_phase Looks (record s { mark = s.mark + 1 }))
MaySend SendsTurn s bytes t = (bytes ≡ spelling frames.Turn) × (t ≡ in_phase Listens s)
MaySend SendsEnd s bytes t = (bytes ≡ spelling frames.End) × (t ≡ in_phase Finished s)
MaySend phase s bytes t = ⊥

-- ---- rows of events

-- which event may come, and what follows
abbrev pub Happens : Mode → SessionState → Event → SessionState → Type 0
Happens mode s (MessageRead bytes) t = (s.phase ≡ Listens) × Hears mode s (decoded_frame bytes) t
Happens mode s (MessageUnread bytes) t = (s.phase ≡ Listens) × (t ≡ in_phase Unread s)
Happens mode s (MessageSent bytes) t = MaySend s.phase s bytes t
Happens mode s (StepMade step answer) t = MayStep mode s.phase s step answer t

-- the events lead from one state to another
abbrev pub LeadsTo : Mode → SessionState → List Event → SessionState → Type 0
LeadsTo mode s [] t = t ≡ s
LeadsTo mode s (e ∷ es) t = (m : SessionState) × Happens mode s e m × LeadsTo mode m es t

-- the messages that came
abbrev pub messages_in : List Event → List (List ℕ)
messages_in [] = []
messages_in (MessageRead bytes ∷ es) = bytes ∷ messages_in es
messages_in (MessageUnread bytes ∷ es) = bytes ∷ messages_in es
messages_in (e ∷ es) = messages_in es

-- the messages that were sent
abbrev pub messages_out : List Event → List (List ℕ)
messages_out [] = []
messages_out (MessageSent bytes ∷ es) = bytes ∷ messages_out es
messages_out (e ∷ es) = messages_out es

-- the steps that the caller made
abbrev pub steps_in : List Event → List Step
steps_in [] = []
steps_in (StepMade step answer ∷ es) = step ∷ steps_in es
steps_in (e ∷ es) = steps_in es

-- the answers to these
abbrev pub answers_in : List Event → List Answer
answers_in [] = []
answers_in (StepMade step answer ∷ es) = answer ∷ answers_in es
answers_in (e ∷ es) = answers_in es
