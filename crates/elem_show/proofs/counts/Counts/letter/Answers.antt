use Rattle.std.proofs.Common.{◌∙◌, List, ℕ, ap, sym, subst}
use Rattle.element_name.specs.Name.{Name}
use Rattle.element_name.specs.Named.{is_ascending}
use Rattle.element_name.proofs.NamedLemmas.{ascending_from_sorted}
use Rattle.elem_show.specs.Cell.{Counts}
use Rattle.elem_show.specs.Held.{counts_in, HoldsLetters}
use Rattle.elem_show.specs.declared.counts.Held.{Held}
use Rattle.elem_show.specs.declared.counts.Held.TheVariants.{Both}
use Rattle.elem_show.proofs.counts.Counts.letter.Goals as goal

pub returns-in-Both-clause-in_order : goal.returns-in-Both-clause-in_order
returns-in-Both-clause-in_order c =
    let held : HoldsLetters (Both c.in-Both.both) = subst HoldsLetters c.in-Both.is c.self.invariant in
    ap (λ (x : Counts). is_ascending {A = Name × List ℕ} (λ e. e.0) x.letters) (sym c.self.view_is)
    ∙ ap (λ (h : Held). is_ascending {A = Name × List ℕ} (λ e. e.0) (counts_in h).letters) c.in-Both.is
    ∙ ascending_from_sorted {A = Name × List ℕ} (λ e. e.0) _ held.ordered
