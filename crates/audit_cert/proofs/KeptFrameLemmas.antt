-- What a frame has, by what it is.
use Rattle.std.proofs.Common.{◌≡◌, ℕ, true, None, Some, List, [], ◌∷◌, refl, sym, ap, subst, ◌∙◌}
use Rattle.std.specs.Prelude.{IsTrue, ◌&&◌}
use Rattle.std.specs.List.{flat_map, list_all}
use Rattle.std.proofs.lemmas.Bool.{and_parts}
use Rattle.std.proofs.lemmas.List.{append-nil}
use Rattle.element_name.specs.Name.{Name}
use Rattle.policy_book.specs.Entry.{Entry}
use Rattle.edit_message.specs.declared.message.Message.{Message}
use Rattle.edit_frame.specs.declared.frame.Frame.{Frame}
use Rattle.edit_frame.specs.declared.frame.Frame.TheVariants.{Item, Turn, End}
use Rattle.audit_cert.specs.Audit.{messages_of_frames}
use Rattle.audit_cert.specs.Basis.{may_be_judged, message_bytes}
use Rattle.audit_cert.specs.KeptFrames.{item_of}

pub item_is : (f : Frame) (m : Message) → item_of f ≡ Some m → f ≡ Item m
item_is (Item k) m is = let same : k ≡ m = cc in ap (λ (x : Message). Item x) same
item_is Turn m is = absurd (cc)
item_is End m is = absurd (cc)

pub no_item : (f : Frame) (m : Message) → item_of f ≡ None → f ≡ Item m → ⊥
no_item f m none is = let both : None ≡ Some m = sym none ∙ ap item_of is in cc

-- nothing is written of a frame that is no message
pub nothing_of : (names : List Name) (log : List Entry) (f : Frame) → item_of f ≡ None → flat_map (message_bytes names log) (messages_of_frames (f ∷ [])) ≡ []
nothing_of names log (Item m) is = absurd (cc)
nothing_of names log Turn is = refl
nothing_of names log End is = refl

-- of one that is a message its lines are
pub lines_of : (names : List Name) (log : List Entry) (f : Frame) (m : Message) → item_of f ≡ Some m
    → message_bytes names log m ≡ flat_map (message_bytes names log) (messages_of_frames (f ∷ []))
lines_of names log f m is =
    sym (append-nil (message_bytes names log m)) ∙ ap (λ (g : Frame). flat_map (message_bytes names log) (messages_of_frames (g ∷ []))) (sym (item_is f m is))

pub judged_here : (names : List Name) (n : ℕ) (f : Frame) (m : Message) → item_of f ≡ Some m → IsTrue (list_all (may_be_judged names n) (messages_of_frames (f ∷ [])))
    → may_be_judged names n m ≡ true
judged_here names n f m is judged =
    let one : (may_be_judged names n m && true) ≡ true = subst (λ (g : Frame). IsTrue (list_all (may_be_judged names n) (messages_of_frames (g ∷ [])))) (item_is f m is) judged in
    (and_parts (may_be_judged names n m) true one).0
