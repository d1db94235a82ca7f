use Rattle.std.proofs.Common.{◌<◌, Some, set, ◌∙◌, refl, ap, sym, subst}
use Rattle.std.specs.Map.{lookup}
use Rattle.std.specs.BTreeMap.{is_at}
use Rattle.element_name.specs.Named.{name_cmp}
use Rattle.name_index.specs.Lends.{IsWritten}
use Rattle.name_index.specs.Rows.{by_name}
use Rattle.name_index.proofs.Numbers.{value_found, none_found, row_within, name_in_row, still_numbered, written, not_written}
use Rattle.name_index.proofs.names.NameMap.get_mut.Goals as goal

pub index_mut-requires : goal.index_mut-requires
index_mut-requires g c =
    let rows = c.self.inside.rows in
    let at = ap (λ m. lookup (is_at (name_cmp m)) c.self.inside.index) (sym c.of.ensures) ∙ sym c.in-Some.ensures.value in
    subst (λ n. c.in-Some.number < n) (sym rows.ok.0) (row_within c.self.inside.index rows.items c.self.invariant c.args.name c.in-Some.number at)

pub invariant_of-self-lent : goal.invariant_of-self-lent
invariant_of-self-lent g c = λ w.
    let rows = c.self.inside.rows.items in
    let n = c.args.name in
    let row = c.index_mut.result.now in
    let at = ap (λ m. lookup (is_at (name_cmp m)) c.self.inside.index) (sym c.of.ensures) ∙ sym c.in-Some.ensures.value in
    let same = ap (λ e. e.0) c.index_mut.ensures.value ∙ name_in_row n rows c.in-Some.number row (c.self.invariant.row n c.in-Some.number at) in
    still_numbered c.self.inside.index rows c.self.invariant n c.in-Some.number at row.0 same w

pub returns-in-Some : goal.returns-in-Some
returns-in-Some g c =
    let rows = c.self.inside.rows.items in
    let n = c.args.name in
    let row = c.index_mut.result.now in
    let at = ap (λ m. lookup (is_at (name_cmp m)) c.self.inside.index) (sym c.of.ensures) ∙ sym c.in-Some.ensures.value in
    let same = ap (λ e. e.0) c.index_mut.ensures.value ∙ name_in_row n rows c.in-Some.number row (c.self.invariant.row n c.in-Some.number at) in
    let found = value_found c.self.inside.index rows c.self.invariant n c.in-Some.number row at c.index_mut.ensures.value in (
      (
        refl,
        λ w. subst (λ old. IsWritten old n (by_name (set rows c.in-Some.number (row.0, w))) w) c.self.view_is (written c.self.inside.index rows c.self.invariant n c.in-Some.number at row.0 same w row.1 found),
        refl,
      ),
      record { writes_back = tt; value = ap (λ v. Some v) c.value_mut.ensures.value ∙ sym found ∙ ap (lookup (is_at (name_cmp n))) c.self.view_is },
    )

pub returns-in-None : goal.returns-in-None
returns-in-None g c =
    let rows = c.self.inside.rows.items in
    let n = c.args.name in
    let none = ap (λ m. lookup (is_at (name_cmp m)) c.self.inside.index) (sym c.of.ensures) ∙ sym c.in-None.ensures.value in (
      (
        refl,
        λ w. subst (λ old. IsWritten old n (by_name rows) w) c.self.view_is (not_written c.self.inside.index rows c.self.invariant n w none),
        c.self.view_is,
      ),
      record { writes_back = tt; value = sym (none_found c.self.inside.index rows c.self.invariant n none) ∙ ap (lookup (is_at (name_cmp n))) c.self.view_is },
    )
