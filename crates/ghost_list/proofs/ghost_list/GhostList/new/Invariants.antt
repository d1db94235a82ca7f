-- The items of the empty list.
use Rattle.std.proofs.Common.{[]}
use Rattle.ghost_list.proofs.ghost_list.GhostList.new.Given as goal

abbrev pub ghost-made : goal.ghost-made
ghost-made g a = []
