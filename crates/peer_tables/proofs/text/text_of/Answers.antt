use Rattle.std.proofs.Common.{◌≡◌, ℕ, List, [], ◌∷◌, ◌++◌, None, Some, length, filter_map, refl, sym, ap, ◌∙◌}
use Rattle.std.specs.Prelude.{option_and_then, slice_get}
use Rattle.std.proofs.lemmas.List.{append-nil, take_all}
use Rattle.std.proofs.lemmas.Option.{slice_get_read}
use Rattle.request_state.specs.Table.{kept_piece}
use Rattle.peer_tables.proofs.KeptLemmas.Text.{items_more}
use Rattle.peer_tables.proofs.text.text_of.Goals as goal
use Rattle.peer_tables.proofs.text.text_of.Goals.{in-Some+in_ok-push, in_default}

pub loop-name-preserved : goal.loop-name-preserved
loop-name-preserved c =
    let names = c.deref-name-items.result.now in
    let i = c.loop-name.name-index in
    let h = kept_piece c.args.states.now in
    let at : option_and_then h (slice_get names i) ≡ h c.name-item.result = ap (option_and_then h) (slice_get_read names (length names) i c.name-item.result refl c.loop-name-test.true c.name-item.is) in
    let before = c.loop-name.invariant in
    elim c.match-piece_of.branch [
      | in-Some+in_ok-push w ↦
          w.text-is
          ∙ w.in_ok-push.ensures.ok
          ∙ ap (λ (t : List (List ℕ)). t ++ w.in-Some.piece ∷ []) before
          ∙ sym (items_more h names i (Some w.in-Some.piece) c.loop-name-test.true (w.in-Some.ensures ∙ sym at))
      | in_default w ↦
          w.text-is
          ∙ before
          ∙ sym (items_more h names i None c.loop-name-test.true (w.in_default.ensures ∙ sym at) ∙ append-nil _)
    ]

pub returns : goal.returns
returns c =
    let h = kept_piece c.args.states.now in
    c.loop-name.invariant
    ∙ ap (filter_map h) (take_all c.loop-name.name-index c.deref-name-items.result.now c.loop-name-test.false ∙ c.deref-name-items.ensures.value ∙ c.in_ok-names.ensures)
