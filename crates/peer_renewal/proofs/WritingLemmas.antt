-- A peer of the administrator's that writes pieces one behind another.
use Rattle.std.proofs.Common.{◌≡◌, ℕ, suc, ◌+◌, ◌<◌, ◌≤◌, max, true, List, [], ◌∷◌, ◌++◌, length, drop, drop-cons, get_or, None, refl, ap, sym, ◌∙◌, append_assoc, append-nil, add-one, length-append, arith}
use Rattle.std.specs.Prelude.{insert, unwrap_or, fold}
use Rattle.std.specs.declared.option.Option.{Option}
use Rattle.std.proofs.lemmas.Bool.{le-leb, lt-leb, eq-eqb}
use Rattle.std.proofs.lemmas.List.{drop_all}
use Rattle.std.proofs.lemmas.List.Sums.{fold-append}
use Rattle.element_name.specs.Cases.{first_of}
use Rattle.element_name.specs.declared.limits.TheConstants.{MAX_STAMP}
use Rattle.coop_request.specs.Piece.{is_piece}
use Rattle.coop_request.specs.Request.{Request, element_of}
use Rattle.coop_request.specs.History.{text_order}
use Rattle.coop_request.specs.Edit.{right_of}
use Rattle.coop_request.specs.declared.request.TheConstants.{MAX_REQUESTS}
use Rattle.edit_message.specs.declared.message.Message.TheVariants.{Coop}
use Rattle.auth_match.specs.declared.verdict.Verdict.TheVariants.{Granted}
use Rattle.auth_match.proofs.FirstMatches.{granted_zero}
use Rattle.admin_log.specs.Log.{policy_at}
use Rattle.peer_step.specs.declared.step.LocalEdit.{LocalEdit}
use Rattle.peer_step.specs.declared.step.LocalEdit.TheVariants.{Insert}
use Rattle.peer_step.specs.declared.step.Step.TheVariants.{Edit}
use Rattle.peer_step.specs.declared.answer.Answer.{Answer}
use Rattle.peer_step.specs.declared.answer.Answer.TheVariants.{Done}
use Rattle.peer_tables.specs.Derived.{greatest_stamp, counted_in}
use Rattle.peer_tables.proofs.JournalLemmas.{requests_request}
use Rattle.peer_core.specs.Peer.{Peer, fresh_peer, history, log, front, text, shown_elements, integrate}
use Rattle.peer_core.specs.Sound.{IsSound}
use Rattle.peer_core.specs.Local.{new_request}
use Rattle.peer_core.specs.Answers.{rows_of_edit, answer_edit, answer_by_verdict, own_verdict}
use Rattle.peer_core.specs.After.{peer_after, changed_by}
use Rattle.peer_renewal.specs.Writing.{steps_from}
use Rattle.peer_core.proofs.AnswerLemmas.Edits.{as_many_shown, no_refusal}
use Rattle.peer_core.proofs.EditLemmas.Law.{edit_law}
use Rattle.peer_core.proofs.SoundLemmas.Peers.{sound_fresh}
use Rattle.peer_core.proofs.SoundLemmas.Steps.{sound_law}

-- a peer of the administrator's that has written so many pieces, and nothing else
pub record IsWriting (p : Peer) (at : ℕ) : Type 0 where
  pub sound : IsSound p
  pub site : p.site ≡ 0
  pub stamp : greatest_stamp (history p) ≡ at
  pub requests : length (history p) ≡ at
  pub pieces : length (text p) ≡ at

pub begins : IsWriting (fresh_peer 0) 0
begins = record { sound = sound_fresh 0; site = refl; stamp = refl; requests = refl; pieces = refl }

-- what is put in at the end stands at the end
insert_last : {A : Type 0} (xs : List A) (x : A) → insert xs (length xs) x ≡ xs ++ x ∷ []
insert_last [] x = refl
insert_last (y ∷ xs) x = ap (λ l. y ∷ l) (insert_last xs x)

-- how a peer stands that wrote one more piece
pub record IsPieceWritten (p q : Peer) (at : ℕ) (piece : List ℕ) : Type 0 where
  pub goes_on : IsWriting q (at + 1)
  pub text : text q ≡ text p ++ piece ∷ []

pub writes_one : (p : Peer) (at : ℕ) (piece : List ℕ) → IsWriting p at → at < MAX_REQUESTS → is_piece piece ≡ true → IsPieceWritten p (peer_after p (Edit (Insert at piece))) at piece
writes_one p at piece is low formed =
    let edit : LocalEdit = Insert at piece in
    let nq : Request = new_request p edit in
    let shown : at ≡ length (shown_elements p) = sym (as_many_shown (history p) (counted_in (history p) (log p)) (text_order (history p)) ∙ is.pieces) in
    let clock : greatest_stamp (history p) ≡ MAX_STAMP → ⊥ = λ end. omega (arith, is.stamp, end, low) in
    let none : None ≡ first_of (rows_of_edit p edit) = no_refusal p edit at shown (le-leb at at (omega arith)) clock (lt-leb MAX_REQUESTS (length (history p)) (omega (arith, is.requests, low))) in
    let granted : own_verdict p nq ≡ Granted = granted_zero (text_order (history p ++ nq ∷ [])) (policy_at (log p) (front p)) p.site (right_of nq.edit) (element_of nq) (eq-eqb p.site 0 is.site) in
    let done : answer_edit p edit ≡ Done nq = ap (λ (o : Option Answer). unwrap_or o (answer_by_verdict nq (own_verdict p nq))) (sym none) ∙ ap (answer_by_verdict nq) granted in
    let after : peer_after p (Edit edit) ≡ integrate p (Coop nq) = ap (changed_by p (Edit edit)) done in
    let more : text (peer_after p (Edit edit)) ≡ text p ++ piece ∷ [] = edit_law p edit nq is.sound done ∙ ap (λ (k : ℕ). insert (text p) k piece) (sym is.pieces) ∙ insert_last (text p) piece in
    let longer : history (peer_after p (Edit edit)) ≡ history p ++ nq ∷ [] = ap history after ∙ requests_request p.journal nq in
    let stamps : greatest_stamp (history p ++ nq ∷ []) ≡ max (greatest_stamp (history p)) (greatest_stamp (history p) + 1) = fold-append (λ stamp (q : Request). max stamp q.id.stamp) 0 (history p) (nq ∷ []) in
    record {
      goes_on = record {
        sound = sound_law p (Edit edit) (omega (arith, is.site)) formed is.sound;
        site = ap (λ (x : Peer). x.site) after ∙ is.site;
        stamp = ap greatest_stamp longer ∙ stamps ∙ omega (arith, is.stamp);
        requests = ap length longer ∙ length-append (history p) (nq ∷ []) ∙ omega (arith, is.requests);
        pieces = ap length more ∙ length-append (text p) (piece ∷ []) ∙ omega (arith, is.pieces);
      };
      text = more;
    }

-- ---- pieces one behind another

-- what was written, and what is left
pub record IsOnTheWay (p : Peer) (at : ℕ) (pieces : List (List ℕ)) : Type 0 where
  pub writing : IsWriting p at
  pub text : text p ++ drop at pieces ≡ pieces
  pub steps : fold peer_after p (steps_from at (drop at pieces)) ≡ fold peer_after (fresh_peer 0) (steps_from 0 pieces)

pub on_the_way : (pieces : List (List ℕ)) → IsOnTheWay (fresh_peer 0) 0 pieces
on_the_way pieces = record { writing = begins; text = refl; steps = refl }

pub further : (p : Peer) (at : ℕ) (pieces : List (List ℕ)) (piece : List ℕ) → IsOnTheWay p at pieces → at < length pieces → length pieces ≤ MAX_REQUESTS → piece ≡ get_or pieces at piece
    → is_piece piece ≡ true → IsOnTheWay (peer_after p (Edit (Insert at piece))) (at + 1) pieces
further p at pieces piece way low few is formed =
    let one = writes_one p at piece way.writing (omega (arith, low, few)) formed in
    let rest : drop at pieces ≡ piece ∷ drop (at + 1) pieces =
    drop-cons pieces at piece low ∙ ap (λ (x : List ℕ). x ∷ drop (suc at) pieces) (sym is) ∙ ap (λ (k : ℕ). piece ∷ drop k pieces) (sym (add-one at)) in
    record {
      writing = one.goes_on;
      text =
          ap (λ (l : List (List ℕ)). l ++ drop (at + 1) pieces) one.text
          ∙ append_assoc (text p) (piece ∷ []) (drop (at + 1) pieces)
          ∙ ap (λ (l : List (List ℕ)). text p ++ l) (sym rest)
          ∙ way.text;
      steps = ap (λ (l : List (List ℕ)). fold peer_after p (steps_from at l)) (sym rest) ∙ way.steps;
    }

-- all was written
pub record IsAllWritten (p : Peer) (pieces : List (List ℕ)) : Type 0 where
  pub text : text p ≡ pieces
  pub steps : p ≡ fold peer_after (fresh_peer 0) (steps_from 0 pieces)

pub finished : (p : Peer) (at : ℕ) (pieces : List (List ℕ)) → IsOnTheWay p at pieces → length pieces ≤ at → IsAllWritten p pieces
finished p at pieces way end =
    let none : drop at pieces ≡ [] = drop_all at pieces end in
    record {
      text = sym (append-nil (text p)) ∙ ap (λ (l : List (List ℕ)). text p ++ l) (sym none) ∙ way.text;
      steps = ap (λ (l : List (List ℕ)). fold peer_after p (steps_from at l)) (sym none) ∙ way.steps;
    }
