use Rattle.std.proofs.Common.{◌≡◌, ℕ, ◌+◌, ◌≤◌, List, [], ◌∷◌, ◌++◌, length, set, insert, true, ap, ◌∙◌}
use Rattle.std.specs.Prelude.{is_ok}
use Rattle.std.specs.List.{copy_within}
use Rattle.name_index.proofs.Moves.{moved_up}
use Rattle.tomb_seq.proofs.block.put.Goals as goal

-- what is pushed behind all, once those from a place on have moved up by one onto it
placed : {X : Type 0} (items pushed moved : List X) (len place : ℕ) (item : X) → place ≤ length items
    → pushed ≡ items ++ item ∷ [] → len ≡ length items → moved ≡ copy_within pushed place len (place + 1)
    → set moved place item ≡ insert items place item
placed items pushed moved len place item within p l m =
    ap (λ xs. set xs place item)
    (m ∙ ap (λ xs. copy_within xs place len (place + 1)) p ∙ ap (λ n. copy_within (items ++ item ∷ []) place n (place + 1)) l)
    ∙ moved_up items place item within

pub returns-clause-items : goal.returns-clause-items
returns-clause-items g c =
    let done : is_ok c.push.result ≡ true = c.push.ensures.succeeds c.requires.room in
    placed c.args.items.now.items c.push.new.self.items c.copy_within.new.self.items c.len-len.result c.args.place c.args.item c.requires.place
    (rw done at c.push.ensures.items) (c.len-len.ensures ∙ c.args.items.now.ok.0) c.copy_within.ensures.items
