use Rattle.std.proofs.Common.{◌≡◌, ◌∙◌, Some, true, sym, ap, subst, List, arith}
use Rattle.std.specs.Prelude.{slice_get}
use Rattle.element_name.specs.Name.{has_name}
use Rattle.tomb_seq.specs.declared.slot.Slot.{Slot}
use Rattle.tomb_seq.specs.Slots.{names_in}
use Rattle.tomb_seq.specs.Runs.{Run, IsThere, slots_of}
use Rattle.tomb_seq.proofs.SpotLemmas.{seen_has, seen_there}
use Rattle.tomb_seq.proofs.blocks.Blocks.stands_at.Goals as goal

-- the name is seen at the spot
seen : (c : goal.After-stands_at) → c.stands_at.result ≡ true → slice_get (names_in c.index.result.now.slots) c.args.spot.place ≡ Some c.args.n
seen c t = ap (λ (ss : List Slot). slice_get (names_in ss) c.args.spot.place) (sym c.slots.ensures.value) ∙ c.stands_at.ensures.0 t

pub returns-clause-there : goal.returns-clause-there
returns-clause-there c = λ t.
    subst (λ (bs : List Run). IsThere bs c.args.n c.args.spot) c.self.view_is
    (seen_there c.self.inside.list.items c.args.spot c.index.result.now c.args.n (omega arith) c.index.ensures (seen c t) c.self.invariant.runs.elements.distinct)

pub returns-clause-found : goal.returns-clause-found
returns-clause-found c = λ t.
    ap (λ (bs : List Run). has_name (names_in (slots_of bs)) c.args.n) (sym c.self.view_is)
    ∙ seen_has c.self.inside.list.items c.args.spot c.index.result.now c.args.n (omega arith) c.index.ensures (seen c t)
