use Rattle.std.proofs.Common.{◌≡◌, ◌-◌, length, take, drop, ap, ◌∙◌, arith}
use Rattle.std.proofs.lemmas.List.{length-take-le, length-drop}
use Rattle.std.proofs.lemmas.List.Sums.{prefix_len-le-length}
use Rattle.element_name.specs.Name.{name_lt}
use Rattle.audit_cert.proofs.ranks.Ranks.skip.Goals as goal

pub overflow_add-result : goal.overflow_add-result
overflow_add-result c =
    let names = c.deref.result.now in
    let from = c.after_anchor-from.result in
    let rest = take (length names - from) (drop from names) in
    let count = prefix_len-le-length (name_lt c.args.n) rest in
    let same : length names ≡ length c.args.self.now = ap length (c.deref.ensures.value ∙ c.self.view_is) in
    let within = c.after_anchor-from.ensures.within in
    let size = length-take-le (length names - from) (drop from names) (omega (arith, length-drop from names)) in
    omega (arith, count, size, same, length-drop from names, within, c.greater.ensures, c.after_anchor-from.ensures.few)
