-- What an edit with a lent piece says.
use Rattle.coop_request.specs.declared.edit.Edit.{Edit}
use Rattle.coop_request.specs.declared.edit.Edit.TheVariants.{Insert, Delete, Update}
use Rattle.coop_request.specs.declared.lent_edit.LentEdit.{LentEdit}
use Rattle.coop_request.specs.declared.lent_edit.LentEdit.TheVariants as lent

-- the same edit with its piece in place
abbrev pub edit_lent : LentEdit → Edit
edit_lent (lent.Insert after letter) = Insert after letter
edit_lent (lent.Delete target) = Delete target
edit_lent (lent.Update target letter) = Update target letter
