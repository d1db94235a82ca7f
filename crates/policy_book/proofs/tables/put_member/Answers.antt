use Rattle.std.proofs.Common.{◌≡◌, List, Some, sym, subst}
use Rattle.std.specs.Prelude.{position, nat_eq}
use Rattle.std.proofs.lemmas.Result.{on_ok_weaker}
use Rattle.element_name.specs.Numbered.{put_by}
use Rattle.policy_book.specs.declared.parts.Group.{Group}
use Rattle.policy_book.proofs.GroupChange.{changed_place, absent_stay}
use Rattle.policy_book.proofs.tables.put_member.Goals as goal

pub returns-in-Some-clause-ok : goal.returns-in-Some-clause-ok
returns-in-Some-clause-ok c =
    let found = subst (λ (xs : List Group). position (λ g. nat_eq g.number c.args.group) xs ≡ Some c.in-Some.place) c.deref.ensures.value (sym c.in-Some.ensures) in
    on_ok_weaker c.put.result
    (λ e. rw e (changed_place c.args.group (put_by (λ n. n) c.args.user) c.args.groups.now.items c.in-Some.place c.index_mut.result.now c.requires found c.index_mut.ensures.value))
    c.put.ensures.ok

pub returns-in-None-clause-ok : goal.returns-in-None-clause-ok
returns-in-None-clause-ok c = sym (absent_stay c.args.group (put_by (λ n. n) c.args.user) c.args.groups.now.items (rw c.deref.ensures.value at (sym c.in-None.ensures)))
