use Rattle.std.proofs.Common.{None}
use Rattle.line_engine.specs.Input.{is_cut, counted_bytes, lines_of}
use Rattle.form_replay.proofs.Shows.{texts_of}
use Rattle.form_replay.proofs.Sounds.{Laws, equal_of}
use Rattle.form_replay.proofs.laws.headline.Goals as goal

pub returns : goal.returns
returns c =
    let laws : Laws = record {
      set = c.same_sets.ensures;
      sound_world = c.sound_worlds.ensures.after;
      fresh_world_sound = c.sound_worlds.ensures.fresh;
      formed = c.formed.ensures;
      opening = c.taken.ensures.opening;
      taken = c.taken.ensures.later;
    } in
    λ input. record {
      texts = texts_of (is_cut input) 1 None (lines_of (is_cut input) (counted_bytes input));
      equal = equal_of laws input;
    }
