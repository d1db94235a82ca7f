use Rattle.std.proofs.Common.{ap, ◌∙◌}
use Rattle.text_change.specs.Seen.{seen_at}
use Rattle.text_change.proofs.ahead.Ahead.of_entry.Goals as goal

pub returns : goal.returns
returns c = record {
  sound = c.site.ensures.sound;
  formed = c.requires.formed;
  touches = (
    c.requires.other,
    c.requires.entry,
    (
      c.in_ok-elements.elements.items,
      c.in_ok-elements.ensures.undone,
      c.in_ok-seen.ensures.entries ∙ ap (seen_at c.args.peer.now) c.deref.ensures.value,
      c.in_ok-seen.ensures.ordered,
    ),
  );
}
