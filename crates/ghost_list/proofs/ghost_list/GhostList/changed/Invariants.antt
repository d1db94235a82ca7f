-- The items that the caller's proof picks.
use Rattle.ghost_list.proofs.ghost_list.GhostList.changed.Given as goal

abbrev pub ghost-made : goal.ghost-made
ghost-made g a = g.list
