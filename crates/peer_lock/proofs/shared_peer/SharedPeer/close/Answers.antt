use Rattle.std.proofs.Common.{◌≡◌, ◌<◌, ap, subst, sym, ◌∙◌, arith, length}
use Rattle.peer_lock.specs.Run.{Recorded}
use Rattle.peer_lock.specs.KnownPass.{KnownPass}
use Rattle.peer_lock.specs.Answers.{ClosesRun}
use Rattle.peer_lock.specs.declared.view.View.{View}
use Rattle.peer_lock.proofs.Ways.{closed, closed_site}
use Rattle.peer_lock.proofs.shared_peer.SharedPeer.close.Goals as goal

pub returns-clause-closes : goal.returns-clause-closes
returns-clause-closes c =
    let v : View = c.pass.inside.seat.me.0 in
    let is : v ≡ c.args.pass.view = ap (λ (k : KnownPass). k.view) c.pass.view_is in
    let live : 0 < length v.numbers = omega (arith, c.pass.invariant.weight_is, c.pass.invariant.some) in
    let whole : length v.numbers ≡ v.made = subst (λ (x : View). length x.numbers ≡ x.made) (sym is) c.requires.whole in
    subst (λ (x : View). ClosesRun x c.into_parts.result.0 c.into_parts.result.1.run) is
    (closed _ _ v _ _ c.take-recorder.result _ _ live c.pass.invariant.hand whole c.close_with-closed.ensures.values.2 c.take-recorder.ensures.value c.into_parts.ensures.peer (ap (λ (r : Recorded). r.run) c.into_parts.ensures.history))

pub returns-clause-site : goal.returns-clause-site
returns-clause-site c =
    let v : View = c.pass.inside.seat.me.0 in
    let is : v ≡ c.args.pass.view = ap (λ (k : KnownPass). k.view) c.pass.view_is in
    let live : 0 < length v.numbers = omega (arith, c.pass.invariant.weight_is, c.pass.invariant.some) in
    let whole : length v.numbers ≡ v.made = subst (λ (x : View). length x.numbers ≡ x.made) (sym is) c.requires.whole in
    ap (λ (r : Recorded). r.site) c.into_parts.ensures.history
    ∙ closed_site _ _ v _ _ c.take-recorder.result live c.pass.invariant.hand whole c.close_with-closed.ensures.values.2 c.take-recorder.ensures.value
    ∙ ap (λ (x : View). x.origin) is
