use Rattle.std.proofs.Common.{List, ℕ, ◌++◌, [], take, sym, ap, ◌∙◌, append_assoc}
use Rattle.std.specs.Prelude.{slice_get, option_map, unwrap_or}
use Rattle.follow_talk.specs.OutputRows.{entry_line, entry_lines}
use Rattle.follow_talk.proofs.Entries.{entries_more}
use Rattle.follow_talk.proofs.rules.put_entries.Goals as goal

pub loop-place-preserved : goal.loop-place-preserved
loop-place-preserved c =
    let J = c.args.peer.now.journal in
    let place = c.loop-place.place in
    let line : List ℕ = unwrap_or (option_map entry_line (slice_get J place)) [] in
    c.in_ok-put_entry_at.ensures
    ∙ ap (λ (bs : List ℕ). bs ++ line) c.loop-place.invariant
    ∙ append_assoc c.args.out.now.items (entry_lines (take place J)) line
    ∙ ap (λ (bs : List ℕ). c.args.out.now.items ++ bs) (sym (entries_more J place))
