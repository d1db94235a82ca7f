use Rattle.std.proofs.Common.{◌≡◌, List, Some, sym, subst}
use Rattle.std.specs.Prelude.{position, nat_eq}
use Rattle.element_name.specs.Numbered.{without}
use Rattle.policy_book.specs.declared.parts.Group.{Group}
use Rattle.policy_book.proofs.GroupChange.{changed_place, absent_stay}
use Rattle.policy_book.proofs.tables.take_out_member.Goals as goal

pub returns-in-Some : goal.returns-in-Some
returns-in-Some c =
    let found = subst (λ (xs : List Group). position (λ g. nat_eq g.number c.args.group) xs ≡ Some c.in-Some.place) c.deref.ensures.value (sym c.in-Some.ensures) in
    rw c.take_out.ensures
    (changed_place c.args.group (without (λ n. n) c.args.user) c.args.groups.now.items c.in-Some.place c.index_mut.result.now c.requires found c.index_mut.ensures.value)

pub returns-in_default : goal.returns-in_default
returns-in_default c = sym (absent_stay c.args.group (without (λ n. n) c.args.user) c.args.groups.now.items (rw c.deref.ensures.value at (sym c.in_default.ensures)))
