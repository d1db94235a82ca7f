-- A step that was made, and told of.
use Rattle.std.proofs.Common.{◌≡◌, ◌≤◌, List, length, ap, subst, ◌∙◌}
use Rattle.peer_step.specs.declared.answer.Answer.{Answer}
use Rattle.peer_step.specs.declared.step.LocalEdit.{LocalEdit}
use Rattle.peer_step.specs.declared.step.Step.{Step}
use Rattle.peer_core.specs.Peer.{Peer, history, log, text, undone_since}
use Rattle.peer_core.specs.Answers.{answer_of}
use Rattle.peer_core.specs.After.{peer_after}
use Rattle.text_change.specs.Rows.{text_told}
use Rattle.text_change.specs.Told.{AreRowsOf}
use Rattle.editor_lib.specs.Told.{LastTold, told}
use Rattle.editor_lib.specs.Desk.{Desk, IsMadeAndTold}

abbrev desk_with : Peer → LastTold → Desk
desk_with peer last = record { peer = peer; told = last }

pub made_and_told : (step : Step) (inside before : Desk) (new : Peer) (answer : Answer) (rows given : List LocalEdit) (last : LastTold) → inside ≡ before
    → answer ≡ answer_of inside.peer step → new ≡ peer_after inside.peer step → text_told (text inside.peer) rows ≡ text new
    → (log new ≡ log inside.peer → length rows ≤ 1) → (history new ≡ history inside.peer → length rows ≤ undone_since inside.peer new)
    → given ≡ rows → last ≡ told answer given → IsMadeAndTold step before (record { peer = new; told = last })
made_and_told step inside before new answer rows given last same answered after changed one few gave tells =
    subst (λ (d : Desk). IsMadeAndTold step d (desk_with new last)) same (record {
      rows = rows;
      are_rows = subst (λ (q : Peer). AreRowsOf inside.peer q rows) after (record { text = changed; one = one; few = few });
      desk_is =
          ap (λ (q : Peer). desk_with q last) after
          ∙ ap (desk_with (peer_after inside.peer step)) (tells ∙ ap (told answer) gave ∙ ap (λ (a : Answer). told a rows) answered);
    })
