use Rattle.std.proofs.Common.{◌≡◌, false, sym, ap, ◌∙◌, arith}
use Rattle.element_name.specs.Name.{start, name_eq, has_name}
use Rattle.tomb_seq.proofs.SlotLemmas.{found_below}
use Rattle.peer_tables.proofs.HistoryLemmas.{other_true}
use Rattle.audit_cert.proofs.ranks.Ranks.after_anchor.Goals as goal

pub overflow_add-result : goal.overflow_add-result
overflow_add-result c =
    let names = c.args.self.now in
    let n = c.args.anchor in
    let other : name_eq n start ≡ false = ap (name_eq n) (sym c.start.ensures) ∙ sym c.eq.ensures ∙ c.if-eq.false in
    let below = found_below (name_eq n) names (other_true (name_eq n start) (has_name names n) c.requires other) in
    omega (arith, below, c.place-place.ensures.place, c.place-place.ensures.few)

pub returns-clause-within : goal.returns-clause-within
returns-clause-within c =
    let names = c.args.self.now in
    let n = c.args.anchor in
    let other : name_eq n start ≡ false = ap (name_eq n) (sym c.start.ensures) ∙ sym c.eq.ensures ∙ c.if-eq.false in
    let below = found_below (name_eq n) names (other_true (name_eq n start) (has_name names n) c.requires other) in
    omega (arith, below, c.place-place.ensures.place)
