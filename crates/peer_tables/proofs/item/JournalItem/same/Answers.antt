use Rattle.std.proofs.Common.{◌≡◌, ◌↔◌, IsTrue, Bool, sym, ap, ◌∙◌}
use Rattle.std.proofs.lemmas.Bool.Decides.{same_from_decides}
use Rattle.policy_book.specs.Entry.{Entry}
use Rattle.edit_message.specs.declared.message.Message.{Message}
use Rattle.edit_message.specs.declared.message.Message.TheVariants.{Admin}
use Rattle.edit_message.specs.Same.{message_eq}
use Rattle.edit_message.proofs.SameMessages.{entry_Decides}
use Rattle.peer_tables.specs.Part.{message_of_part}
use Rattle.peer_tables.proofs.item.JournalItem.same.Goals as goal

same_entry : (r : Bool) (m n : Message) (a b : Entry) → m ≡ Admin a → n ≡ Admin b → (IsTrue r ↔ (a ≡ b)) → r ≡ message_eq m n
same_entry r m n a b e f h = rw (e, f) (same_from_decides _ _ h (entry_Decides a b))

pub returns-in-Entry-Admin-clause-test : goal.returns-in-Entry-Admin-clause-test
returns-in-Entry-Admin-clause-test c =
    let two = c.in-Entry-Admin in
    let own : c.args.self.now ≡ Admin two.a.now = sym c.self.view_is ∙ ap message_of_part two.is-0 in
    same_entry c.same-in-Entry-Admin.result c.args.self.now c.args.other.now two.a.now two.b own two.is-1 c.same-in-Entry-Admin.ensures
