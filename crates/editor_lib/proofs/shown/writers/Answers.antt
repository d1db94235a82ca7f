use Rattle.std.proofs.Common.{ℕ, List, ◌++◌, ap, sym, ◌∙◌, arith}
use Rattle.edit_frame.specs.Spelling.{short_bytes}
use Rattle.editor_lib.proofs.ShownLemmas.{writers_more, somebody_wrote, all_written}
use Rattle.editor_lib.proofs.shown.writers.Goals as goal

pub loop-place-preserved : goal.loop-place-preserved
loop-place-preserved c =
    c.in_ok-put_site.ensures
    ∙ ap (λ (bytes : List ℕ). bytes ++ short_bytes c.in-Some.site) c.loop-place.invariant
    ∙ sym (writers_more c.args.peer.now c.loop-place.place c.in-Some.site (sym c.in-Some.ensures))

pub unreachable-requires : goal.unreachable-requires
unreachable-requires c =
    somebody_wrote c.args.peer.now c.loop-place.place c.shown_len-place-end.result c.shown_len-place-end.ensures c.loop-place-test.true (sym c.in_default.is ∙ c.writer_at.ensures)

pub returns : goal.returns
returns c =
    let past = c.loop-place-test.false in
    all_written c.args.peer.now c.loop-place.place c.shown_len-place-end.result c.loop-place.sites.items c.loop-place.invariant c.shown_len-place-end.ensures (omega (arith, past))
