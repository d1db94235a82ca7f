use Rattle.peer_tables.proofs.TreePlaceLemmas.{text_place_law, span_cover_law}
use Rattle.peer_tables.proofs.laws.tree_places.Goals as goal

pub returns : goal.returns
returns c = record { places = text_place_law c.places_follow_tree.ensures; spans = span_cover_law c.places_follow_tree.ensures }
