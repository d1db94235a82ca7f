use Rattle.std.proofs.Common.{ap, ◌∙◌}
use Rattle.text_change.specs.Seen.{seen_of}
use Rattle.text_change.proofs.ahead.Ahead.of_request.Goals as goal

pub returns : goal.returns
returns c = record {
  sound = c.site.ensures.sound;
  formed = c.requires.formed;
  touches = (c.args.request, c.requires.request, c.in_ok-seen.ensures ∙ ap (seen_of c.args.peer.now) c.element.ensures);
}
