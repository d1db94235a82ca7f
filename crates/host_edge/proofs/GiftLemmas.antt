-- Messages that a document gives a link, one more at a time.
use Rattle.std.proofs.Common.{◌≡◌, ℕ, List, [], ◌∷◌, ◌++◌, Option, Some, None, ◌+◌, refl, sym, ◌∙◌, ap, append_assoc, length-append}
use Rattle.std.proofs.lemmas.List.{append-nil}
use Rattle.edit_message.specs.declared.message.Message.{Message}
use Rattle.edit_frame.specs.declared.frame.Frame.TheVariants.{Item}
use Rattle.edit_frame.specs.Spelling.{spelling}
use Rattle.host_core.specs.declared.event.LinkId.{LinkId}
use Rattle.host_core.specs.declared.event.HostEvent.{HostEvent}
use Rattle.host_core.specs.declared.event.HostEvent.TheVariants.{Gave}
use Rattle.host_interface.specs.HappensAt.{HappensAt}
use Rattle.host_seal.specs.Frames.{item_frames}
use Rattle.host_seal.proofs.Frames.{frames_more}
use Rattle.host_edge.specs.Gifts.{behind_gift, behind_gifts, GivesFrames}

-- a gift that a document adds is one that happened behind it
pub added_gift : (link : LinkId) (m : Message) (old new : Option (List HostEvent)) → HappensAt old new (Gave link m) → new ≡ behind_gift link m old
added_gift link m None new h = absurd h
added_gift link m (Some past) new h = h

-- the last gift happened behind the others
pub gifts_snoc : (link : LinkId) (ms : List Message) (m : Message) (old : Option (List HostEvent))
    → behind_gifts link (ms ++ m ∷ []) old ≡ behind_gift link m (behind_gifts link ms old)
gifts_snoc link [] m old = refl
gifts_snoc link (x ∷ xs) m old = gifts_snoc link xs m (behind_gift link x old)

-- where nothing was given nothing stands behind
pub none_given : (link : LinkId) (old : Option (List HostEvent)) (before : List ℕ) → GivesFrames link 0 old old before before
none_given link old before = record { items = []; so_many = refl; given = refl; framed = sym (append-nil before) }

-- one more is given, and its frame stands behind the others
pub one_more : (link : LinkId) (count : ℕ) (m : Message) (old mid new : Option (List HostEvent)) (before between after : List ℕ)
    → GivesFrames link count old mid before between → new ≡ behind_gift link m mid → after ≡ between ++ spelling (Item m)
    → GivesFrames link (count + 1) old new before after
one_more link count m old mid new before between after g given framed = record {
  items = g.items ++ m ∷ [];
  so_many = length-append g.items (m ∷ []) ∙ ap (λ (n : ℕ). n + 1) g.so_many;
  given = given ∙ ap (λ (p : Option (List HostEvent)). behind_gift link m p) g.given ∙ sym (gifts_snoc link g.items m old);
  framed = framed ∙ ap (λ (bs : List ℕ). bs ++ spelling (Item m)) g.framed ∙ append_assoc before (item_frames g.items) (spelling (Item m))
      ∙ ap (λ (bs : List ℕ). before ++ bs) (frames_more g.items m);
}
