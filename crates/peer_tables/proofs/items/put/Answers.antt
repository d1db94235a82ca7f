use Rattle.std.proofs.Common.{[], ◌∷◌, ◌++◌, List, Bool, sym, ap, ◌∙◌, if◌then◌else◌}
use Rattle.std.specs.List.{list_any}
use Rattle.element_name.proofs.CaseLemmas.{when-Some}
use Rattle.edit_message.specs.declared.message.Key.{Key}
use Rattle.peer_tables.specs.Items.{packed_eq}
use Rattle.peer_tables.specs.PackedKey.{is_packable}
use Rattle.peer_tables.proofs.items.put.Goals as goal

pub returns-clause-ok : goal.returns-clause-ok
returns-clause-ok c =
    let key : Key = c.args.key in
    let known : List Key = c.args.keys.now.keys in
    let packed = when-Some (is_packable key) key c.in-Some.packed (sym c.of.ensures ∙ c.in-Some.is) in
    c.in_ok-insert.ensures.keys
    ∙ ap (λ (k : Key). if list_any (packed_eq k) known then known else known ++ k ∷ []) (sym packed.1)
    ∙ ap (λ (b : Bool). if b then known else known ++ key ∷ []) c.requires.new
