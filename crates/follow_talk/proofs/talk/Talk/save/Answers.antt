use Rattle.std.proofs.Common.{List, ℕ, sym, subst, ap, ◌∙◌}
use Rattle.std.specs.Prelude.{Option}
use Rattle.peer_core.specs.Peer.{text}
use Rattle.follow_core.specs.declared.event.FollowEvent.{FollowEvent}
use Rattle.follow_core.specs.Past.{follow_peer}
use Rattle.follow_text.specs.declared.tracked.Tracked.{Tracked}
use Rattle.follow_talk.specs.declared.mirror.Mirror.{Mirror}
use Rattle.follow_talk.specs.Mirrors.{HasText, ShowsText}
use Rattle.follow_talk.proofs.Talking.{saved_text}
use Rattle.follow_talk.proofs.talk.Talk.save.Goals as goal

pub returns-clause-text : goal.returns-clause-text
returns-clause-text g c =
    let told = c.tell_pending.new.self in
    let before = c.args.self.now.follower.outbox in
    let after = c.save_all.new.self.follower.outbox in
    let has = saved_text told.tracked told.pending told.shown before after c.tell_pending.ensures.none told.in_step
    (subst (λ (s : List (List ℕ)). ∥ ShowsText s before ∥₁) (sym c.tell_pending.ensures.shown) c.in_ok-check.ensures) c.in_ok-save_all.ensures.saved in
    subst (λ (t : Option Tracked). ∥ HasText t (text (follow_peer c.take_said.new.self.follower.outbox)) ∥₁)
    (sym (c.take_said.ensures.tracked ∙ ap (λ (m : Mirror). m.tracked) c.save_all.ensures.mirror))
    (subst (λ (es : List FollowEvent). ∥ HasText told.tracked (text (follow_peer es)) ∥₁) (sym c.take_said.ensures.outbox) has)
