use Rattle.form_replay.proofs.Samples.{shows_of_script, text_of_script}
use Rattle.form_replay.proofs.laws.sample_shows.Goals as goal

pub returns : goal.returns
returns c = record { shows = shows_of_script; texts = text_of_script }
