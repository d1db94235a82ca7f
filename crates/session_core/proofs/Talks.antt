-- Pieces of sessions, one after another.
use Rattle.std.proofs.Common.{◌≡◌, ℕ, Bool, List, [], ◌∷◌, ◌++◌, Option, Some, None, Result, Ok, Err, refl, sym, ap, ◌∙◌, subst, append_assoc, append-nil}
use Rattle.edit_io.specs.Link.{with_last}
use Rattle.edit_message.specs.declared.message.Message.{Message}
use Rattle.peer_step.specs.declared.step.Step.{Step}
use Rattle.peer_step.specs.declared.step.Step.TheVariants.{Look}
use Rattle.peer_step.specs.declared.answer.Answer.{Answer}
use Rattle.edit_frame.specs.Reading.{decoded_frame}
use Rattle.peer_core.specs.Peer.{fresh_peer}
use Rattle.peer_lock.specs.Run.{steps_by}
use Rattle.peer_lock.specs.Laws.{answers_by}
use Rattle.peer_lock.specs.KnownPass.{KnownPass}
use Rattle.peer_lock.specs.Answers.{IsSame}
use Rattle.peer_lock.proofs.Passing.{same_self, same_then}
use Rattle.session_core.specs.Events.{Event, MessageRead, MessageUnread, MessageSent, StepMade, Phase, Listens, ReceivesItem, Settles, Validates, Looks, SendsItem, SendsTurn, SendsEnd, Finished, Broken, Unread, SessionState, in_phase, Mode, LeadsTo, Hears, Finds, MayStep, MaySend, messages_in, messages_out, steps_in, answers_in}
use Rattle.session_core.specs.declared.fault.SessionFault.{SessionFault}
use Rattle.session_core.specs.declared.fault.SessionFault.TheVariants.{LinkFault, Closed, BadFrame, RunFull, NoMemory}
use Rattle.session_core.specs.Session.{Side, side, Talked, pass_steps, pass_answers, IsStepPhase, IsLinkPhase, IsUnfinished, CutOff}
use Rattle.session_core.specs.Pieces.{MakesStep, LooksAt, Sending, GetsTo, TurnIn}

-- no more leaves a list as it is, where it is told
pub with_last-nil : {A : Type 0} (o : Option (List A)) → with_last o [] ≡ o
with_last-nil None = refl
with_last-nil (Some xs) = ap Some (append-nil xs)

pub with_last-append : {A : Type 0} (o : Option (List A)) (xs ys : List A) → with_last (with_last o xs) ys ≡ with_last o (xs ++ ys)
with_last-append None xs ys = refl
with_last-append (Some zs) xs ys = ap Some (append_assoc zs xs ys)

messages_in-append : (xs ys : List Event) → messages_in (xs ++ ys) ≡ messages_in xs ++ messages_in ys
messages_in-append [] ys = refl
messages_in-append (MessageRead b ∷ xs) ys = ap (λ l. b ∷ l) (messages_in-append xs ys)
messages_in-append (MessageUnread b ∷ xs) ys = ap (λ l. b ∷ l) (messages_in-append xs ys)
messages_in-append (x ∷ xs) ys = messages_in-append xs ys

messages_out-append : (xs ys : List Event) → messages_out (xs ++ ys) ≡ messages_out xs ++ messages_out ys
messages_out-append [] ys = refl
messages_out-append (MessageSent b ∷ xs) ys = ap (λ l. b ∷ l) (messages_out-append xs ys)
messages_out-append (x ∷ xs) ys = messages_out-append xs ys

steps_in-append : (xs ys : List Event) → steps_in (xs ++ ys) ≡ steps_in xs ++ steps_in ys
steps_in-append [] ys = refl
steps_in-append (StepMade s a ∷ xs) ys = ap (λ l. s ∷ l) (steps_in-append xs ys)
steps_in-append (x ∷ xs) ys = steps_in-append xs ys

answers_in-append : (xs ys : List Event) → answers_in (xs ++ ys) ≡ answers_in xs ++ answers_in ys
answers_in-append [] ys = refl
answers_in-append (StepMade s a ∷ xs) ys = ap (λ l. a ∷ l) (answers_in-append xs ys)
answers_in-append (x ∷ xs) ys = answers_in-append xs ys

LeadsTo-append : (mode : Mode) (s m t : SessionState) (xs ys : List Event) → LeadsTo mode s xs m → LeadsTo mode m ys t → LeadsTo mode s (xs ++ ys) t
LeadsTo-append mode s m t [] ys p q = subst (λ (x : SessionState). LeadsTo mode x ys t) p q
LeadsTo-append mode s m t (x ∷ xs) ys p q = (p.0, p.1, LeadsTo-append mode p.0 m t xs ys p.2 q)

-- a pass that saw no more has made no more steps
pub steps_same : (k l : KnownPass) → IsSame k l → l.view.seen ≡ k.view.seen → pass_steps l ≡ pass_steps k
steps_same k l same seen = ap (λ n. steps_by n l.view.seen) same.number ∙ ap (steps_by k.view.number) seen

-- nor has it been answered more
pub answers_same : (k l : KnownPass) → IsSame k l → l.view.seen ≡ k.view.seen → pass_answers l ≡ pass_answers k
answers_same k l same seen =
    ap (λ n. answers_by n (fresh_peer l.view.origin) l.view.seen) same.number
    ∙ ap (λ o. answers_by k.view.number (fresh_peer o) l.view.seen) same.origin
    ∙ ap (answers_by k.view.number (fresh_peer k.view.origin)) seen

-- one list after another, each of which grew
grown_twice : {A : Type 0} (xs ys zs ms ns ps : List A) → ys ≡ xs ++ ms → zs ≡ ys ++ ns → ps ≡ ms ++ ns → zs ≡ xs ++ ps
grown_twice xs ys zs ms ns ps p q r = q ∙ ap (λ l. l ++ ns) p ∙ append_assoc xs ms ns ∙ ap (λ l. xs ++ l) (sym r)

-- nothing happened
pub talked_idle : (mode : Mode) (s : SessionState) (k l : KnownPass) (g h : Option (List (List ℕ))) → IsSame k l → l.view.seen ≡ k.view.seen → Talked mode s s (side k g h) (side l g h)
talked_idle mode s k l g h same seen = record {
  trace = [];
  leads = refl;
  steps_are = steps_same k l same seen ∙ sym (append-nil (pass_steps k));
  answers_are = answers_same k l same seen ∙ sym (append-nil (pass_answers k));
  got_is = sym (with_last-nil g);
  sent_is = sym (with_last-nil h);
  same = same;
}

pub talked_none : (mode : Mode) (s : SessionState) (k : KnownPass) (g h : Option (List (List ℕ))) → Talked mode s s (side k g h) (side k g h)
talked_none mode s k g h = talked_idle mode s k k g h (same_self k) refl

-- one piece after another
pub talked_then : (mode : Mode) (s t u : SessionState) (a b c : Side) → Talked mode s t a b → Talked mode t u b c → Talked mode s u a c
talked_then mode s t u a b c p q = record {
  trace = p.trace ++ q.trace;
  leads = LeadsTo-append mode s t u p.trace q.trace p.leads q.leads;
  steps_are = grown_twice (pass_steps a.pass) (pass_steps b.pass) (pass_steps c.pass) (steps_in p.trace) (steps_in q.trace) (steps_in (p.trace ++ q.trace)) p.steps_are q.steps_are (steps_in-append p.trace q.trace);
  answers_are = grown_twice (pass_answers a.pass) (pass_answers b.pass) (pass_answers c.pass) (answers_in p.trace) (answers_in q.trace) (answers_in (p.trace ++ q.trace)) p.answers_are q.answers_are (answers_in-append p.trace q.trace);
  got_is = q.got_is ∙ ap (λ o. with_last o (messages_in q.trace)) p.got_is ∙ with_last-append a.got (messages_in p.trace) (messages_in q.trace) ∙ ap (with_last a.got) (sym (messages_in-append p.trace q.trace));
  sent_is = q.sent_is ∙ ap (λ o. with_last o (messages_out q.trace)) p.sent_is ∙ with_last-append a.sent (messages_out p.trace) (messages_out q.trace) ∙ ap (with_last a.sent) (sym (messages_out-append p.trace q.trace));
  same = same_then a.pass b.pass c.pass p.same q.same;
}

-- a step was made
pub talked_made : (mode : Mode) (s t : SessionState) (k l : KnownPass) (g h : Option (List (List ℕ))) (step : Step) (answer : Answer) → IsSame k l
    → pass_steps l ≡ pass_steps k ++ step ∷ [] → pass_answers l ≡ pass_answers k ++ answer ∷ [] → MayStep mode s.phase s step answer t → Talked mode s t (side k g h) (side l g h)
talked_made mode s t k l g h step answer same made told may = record {
  trace = StepMade step answer ∷ [];
  leads = (t, may, refl);
  steps_are = made;
  answers_are = told;
  got_is = sym (with_last-nil g);
  sent_is = sym (with_last-nil h);
  same = same;
}

-- a message was sent
pub talked_went : (mode : Mode) (s t : SessionState) (k : KnownPass) (g g' h h' : Option (List (List ℕ))) (bytes : List ℕ) → g' ≡ g → h' ≡ with_last h (bytes ∷ [])
    → MaySend s.phase s bytes t → Talked mode s t (side k g h) (side k g' h')
talked_went mode s t k g g' h h' bytes got sent may = record {
  trace = MessageSent bytes ∷ [];
  leads = (t, may, refl);
  steps_are = sym (append-nil (pass_steps k));
  answers_are = sym (append-nil (pass_answers k));
  got_is = got ∙ sym (with_last-nil g);
  sent_is = sent;
  same = same_self k;
}

-- a message came and was read
pub talked_came : (mode : Mode) (s t : SessionState) (k : KnownPass) (g g' h h' : Option (List (List ℕ))) (bytes : List ℕ) → g' ≡ with_last g (bytes ∷ []) → h' ≡ h
    → s.phase ≡ Listens → Hears mode s (decoded_frame bytes) t → Talked mode s t (side k g h) (side k g' h')
talked_came mode s t k g g' h h' bytes got sent listens hears = record {
  trace = MessageRead bytes ∷ [];
  leads = (t, (listens, hears), refl);
  steps_are = sym (append-nil (pass_steps k));
  answers_are = sym (append-nil (pass_answers k));
  got_is = got;
  sent_is = sent ∙ sym (with_last-nil h);
  same = same_self k;
}

-- a message came and wasn't read
pub talked_missed : (mode : Mode) (s : SessionState) (k : KnownPass) (g g' h h' : Option (List (List ℕ))) (bytes : List ℕ) → g' ≡ with_last g (bytes ∷ []) → h' ≡ h
    → s.phase ≡ Listens → Talked mode s (in_phase Unread s) (side k g h) (side k g' h')
talked_missed mode s k g g' h h' bytes got sent listens = record {
  trace = MessageUnread bytes ∷ [];
  leads = (in_phase Unread s, (listens, refl), refl);
  steps_are = sym (append-nil (pass_steps k));
  answers_are = sym (append-nil (pass_answers k));
  got_is = got;
  sent_is = sent ∙ sym (with_last-nil h);
  same = same_self k;
}

-- a link on which nothing came or went
pub talked_still : (mode : Mode) (s : SessionState) (k : KnownPass) (g g' h h' : Option (List (List ℕ))) → g' ≡ with_last g [] → h' ≡ h → Talked mode s s (side k g h) (side k g' h')
talked_still mode s k g g' h h' got sent = record {
  trace = [];
  leads = refl;
  steps_are = sym (append-nil (pass_steps k));
  answers_are = sym (append-nil (pass_answers k));
  got_is = got;
  sent_is = sent ∙ sym (with_last-nil h);
  same = same_self k;
}

-- a piece that is cut after a piece that went through
pub cut_then : (mode : Mode) (s t : SessionState) (a b c : Side) (fault : SessionFault) → Talked mode s t a b → CutOff mode t b c fault → CutOff mode s a c fault
cut_then mode s t a b c fault p q = (q.0, talked_then mode s t q.0 a b c p q.1, q.2)

-- a piece, whole or cut, after a piece that went through
pub gets_then : {X : Type 0} (mode : Mode) (s t u : SessionState) (a b c : Side) (r : Result X SessionFault) → Talked mode s t a b → GetsTo mode t b c r u → GetsTo mode s a c r u
gets_then mode s t u a b c (Ok x) p q = talked_then mode s t u a b c p q
gets_then mode s t u a b c (Err fault) p q = cut_then mode s t a b c fault p q

-- before a step a session isn't whole
unfinished_step : (p : Phase) → IsStepPhase p → IsUnfinished p
unfinished_step Listens h = absurd h
unfinished_step (ReceivesItem m) h = tt
unfinished_step Settles h = tt
unfinished_step Validates h = tt
unfinished_step Looks h = tt
unfinished_step (SendsItem m) h = absurd h
unfinished_step SendsTurn h = absurd h
unfinished_step SendsEnd h = absurd h
unfinished_step Finished h = absurd h
unfinished_step (Broken kind) h = absurd h
unfinished_step Unread h = absurd h

-- nor is it before a message
pub unfinished_link : (p : Phase) → IsLinkPhase p → IsUnfinished p
unfinished_link Listens h = tt
unfinished_link (ReceivesItem m) h = absurd h
unfinished_link Settles h = absurd h
unfinished_link Validates h = absurd h
unfinished_link Looks h = absurd h
unfinished_link (SendsItem m) h = tt
unfinished_link SendsTurn h = tt
unfinished_link SendsEnd h = tt
unfinished_link Finished h = absurd h
unfinished_link (Broken kind) h = absurd h
unfinished_link Unread h = absurd h

-- a step that wasn't made cuts a session where a step comes next
pub cut_step : (mode : Mode) (s : SessionState) (k l : KnownPass) (g h : Option (List (List ℕ))) (step : Step) (fault : SessionFault) → IsStepPhase s.phase → IsSame k l
    → MakesStep k l step (Err fault) → CutOff mode s (side k g h) (side l g h) fault
cut_step mode s k l g h step LinkFault may same m = absurd m
cut_step mode s k l g h step Closed may same m = absurd m
cut_step mode s k l g h step (BadFrame f) may same m = absurd m
cut_step mode s k l g h step RunFull may same m = (s, talked_idle mode s k l g h same m, may)
cut_step mode s k l g h step NoMemory may same m = (s, talked_idle mode s k l g h same m, unfinished_step s.phase may)

-- a message that wasn't sent cuts a session where a message comes or goes next
pub cut_send : (mode : Mode) (s : SessionState) (k : KnownPass) (g g' h h' : Option (List (List ℕ))) (bytes : List ℕ) (fault : SessionFault) → IsLinkPhase s.phase → g' ≡ g
    → Sending h h' bytes (Err fault) → CutOff mode s (side k g h) (side k g' h') fault
cut_send mode s k g g' h h' bytes LinkFault may got sent = (s, talked_still mode s k g g' h h' (got ∙ sym (with_last-nil g)) sent, may)
cut_send mode s k g g' h h' bytes Closed may got sent = absurd sent
cut_send mode s k g g' h h' bytes (BadFrame f) may got sent = absurd sent
cut_send mode s k g g' h h' bytes RunFull may got sent = absurd sent
cut_send mode s k g g' h h' bytes NoMemory may got sent = (s, talked_still mode s k g g' h h' (got ∙ sym (with_last-nil g)) sent, unfinished_link s.phase may)

-- a look that found this
pub talked_looked : (mode : Mode) (s t : SessionState) (k l : KnownPass) (g h : Option (List (List ℕ))) (item : Option Message) → s.phase ≡ Looks → IsSame k l
    → LooksAt k l s.mark (Ok item) → Finds (Some item) s t → Talked mode s t (side k g h) (side l g h)
talked_looked mode s t k l g h item looks same looked finds =
    talked_made mode s t k l g h (Look s.mark) looked.0 same looked.1.steps_are looked.1.answers_are
    (subst (λ (p : Phase). MayStep mode p s (Look s.mark) looked.0 t) (sym looks) (refl, subst (λ o. Finds o s t) (sym looked.2) finds))

-- a look that wasn't made
pub cut_look : (mode : Mode) (s : SessionState) (k l : KnownPass) (g h : Option (List (List ℕ))) (fault : SessionFault) → IsStepPhase s.phase → IsSame k l
    → LooksAt k l s.mark (Err fault) → CutOff mode s (side k g h) (side l g h) fault
cut_look mode s k l g h fault may same looked = cut_step mode s k l g h (Look s.mark) fault may same looked

-- a turn in, with an answer that is this one
pub turn_in : (validates : Bool) (a b : Side) (q q' : Bool) → q ≡ q' → TurnIn validates a b (Ok q) → TurnIn validates a b (Ok q')
turn_in validates a b q q' e t = subst (λ (x : Bool). TurnIn validates a b (Ok x)) e t
