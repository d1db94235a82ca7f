use Rattle.std.proofs.Common.{◌≡◌, ◌+◌, List, [], ◌∷◌, ◌++◌, take, map, sym, ap, subst, ◌∙◌}
use Rattle.edit_message.specs.declared.message.Message.{Message}
use Rattle.edit_frame.specs.declared.frame.Frame.{Frame}
use Rattle.edit_frame.specs.declared.frame.Frame.TheVariants.{Item}
use Rattle.peer_tables.specs.Journal.{IsWithin}
use Rattle.audit_cert.specs.Basis.{IsBasisOf}
use Rattle.audit_cert.specs.Audit.{messages_of_frames}
use Rattle.audit_cert.proofs.Prefixes.{one_further}
use Rattle.audit_cert.proofs.Audits.{breaks_here, messages_append, one_item_more, same_item}
use Rattle.audit_cert.proofs.KeptFrameLemmas.{item_is, no_item}
use Rattle.audit_cert.proofs.basis.Basis.take_frames.Goals as goal

pub returns-in_default : goal.returns-in_default
returns-in_default g c =
    let now = c.loop-place in
    record {
      ok = tt;
      items = tt;
      fault = breaks_here c.args.frames.now now.place c.index-frames-place.result c.loop-place-test.true c.index-frames-place.is now.invariant.items
          now.invariant.basis.within (λ m is. absurd (no_item c.index-frames-place.result m (sym c.in_ok-item.ensures ∙ c.in_default.is) is));
    }

pub returns-then-not-taken-clause-fault : goal.returns-then-not-taken-clause-fault
returns-then-not-taken-clause-fault g c =
    let now = c.loop-place in
    let J = messages_of_frames (take now.place c.args.frames.now) in
    breaks_here c.args.frames.now now.place c.index-frames-place.result c.loop-place-test.true c.index-frames-place.is now.invariant.items now.invariant.basis.within
    (λ m is. subst (λ (x : Message). ¬ IsWithin (J ++ x ∷ [])) (same_item _ m (sym (item_is c.index-frames-place.result c.in-Some.message (sym c.in_ok-item.ensures ∙ c.in-Some.is)) ∙ is))
    (c.in_ok-taken.ensures.refused c.if-not-taken.true J now.invariant.basis))

pub loop-place-preserved : goal.loop-place-preserved
loop-place-preserved g c =
    let now = c.loop-place in
    let frames = c.args.frames.now in
    let J = messages_of_frames (take now.place frames) in
    let message = c.in-Some.message in
    let is : c.index-frames-place.result ≡ Item message = item_is c.index-frames-place.result message (sym c.in_ok-item.ensures ∙ c.in-Some.is) in
    let more : take (now.place + 1) frames ≡ take now.place frames ++ Item message ∷ [] =
    one_further frames now.place c.index-frames-place.result c.loop-place-test.true c.index-frames-place.is ∙ ap (λ (f : Frame). take now.place frames ++ f ∷ []) is in
    let longer : messages_of_frames (take (now.place + 1) frames) ≡ J ++ message ∷ [] = ap messages_of_frames more ∙ messages_append (take now.place frames) (Item message ∷ []) in
    record {
      basis = subst (λ (K : List Message). IsBasisOf K c.take.new.self.log (g.E.Elements.names c.take.new.self.elements) c.take.new.self.ids) (sym longer)
          (c.in_ok-taken.ensures.taken c.if-not-taken.false J now.invariant.basis);
      items = subst (λ (fs : List Frame). fs ≡ map Item (messages_of_frames fs)) (sym more) (one_item_more (take now.place frames) message now.invariant.items);
    }
