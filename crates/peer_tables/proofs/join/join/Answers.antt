use Rattle.std.proofs.Common.{ap, sym, subst, ◌∙◌, Bool, List}
use Rattle.element_name.specs.Name.{Name, has_name}
use Rattle.coop_request.specs.Request.{element_of}
use Rattle.tomb_seq.specs.declared.slot.Slot.{Slot}
use Rattle.tomb_seq.specs.Slots.{names_in, with_mark}
use Rattle.peer_tables.specs.Kept.{slots_after, IsGivenState}
use Rattle.request_state.specs.Table.{kept_shows}
use Rattle.peer_tables.proofs.KeptLemmas.Places.{placed_element}
use Rattle.peer_tables.proofs.join.join.Goals as goal

pub judge-requires-clause-element : goal.judge-requires-clause-element
judge-requires-clause-element c =
    let q = c.args.request.now in
    ap (λ (names : List Name). has_name names (element_of q)) c.in_ok-place.ensures.names
    ∙ placed_element (names_in c.args.seq.now) q.id q.edit c.requires.placeable

pub judge-requires-clause-given : goal.judge-requires-clause-given
judge-requires-clause-given c = subst (λ (names : List Name). IsGivenState c.args.given names c.args.log.now c.args.request.now) (sym c.in_ok-place.ensures.names) c.requires.given

pub mark-requires : goal.mark-requires
mark-requires c =
    let q = c.args.request.now in
    ap (λ (e : Name). has_name (names_in c.place.new.seq) e) c.element.ensures
    ∙ ap (λ (names : List Name). has_name names (element_of q)) c.in_ok-place.ensures.names
    ∙ placed_element (names_in c.args.seq.now) q.id q.edit c.requires.placeable

pub returns-in-Ok-clause-slots : goal.returns-in-Ok-clause-slots
returns-in-Ok-clause-slots c =
    c.mark.ensures.slots
    ∙ ap (λ (slots : List Slot). with_mark slots c.element.result c.in-Ok.joined.shows) c.in_ok-place.ensures.slots
    ∙ ap (λ (shows : Bool). with_mark (slots_after c.args.seq.now c.args.request.now.id c.args.request.now.edit) c.element.result shows) c.in-Ok.ensures.shows
    ∙ ap (λ (e : Name). with_mark (slots_after c.args.seq.now c.args.request.now.id c.args.request.now.edit) e (kept_shows c.judge.new.states (element_of c.args.request.now))) c.element.ensures

pub take_back-requires : goal.take_back-requires
take_back-requires c =
    let q = c.args.request.now in
    ap (λ (names : List Name). has_name names (element_of q)) c.in_ok-place.ensures.names
    ∙ placed_element (names_in c.args.seq.now) q.id q.edit c.requires.placeable
