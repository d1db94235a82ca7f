use Rattle.std.proofs.Common.{◌++◌, ◌∷◌, [], List, ap, subst, sym, ◌∙◌}
use Rattle.peer_lock.specs.Rule.{Seated}
use Rattle.peer_lock.specs.KnownPass.{known_pass, KnownPass}
use Rattle.peer_lock.specs.Dealt.{Dealt}
use Rattle.peer_lock.proofs.Passes.{with_first}
use Rattle.peer_lock.proofs.dealing.deal.Goals as goal

pub returns : goal.returns
returns c =
    let o = c.in_ok-rest.ensures in
    let table = c.args.lock.now.table.shared.table_id in
    let seat = c.others.new.seat in
    let one : KnownPass = known_pass seat.table_id seat.id seat.me.0 in
    subst (λ (ks : List KnownPass). Dealt table c.args.site c.args.passes ks)
    (sym (c.in_ok-append.ensures.items ∙ ap (λ (l : List KnownPass). l ++ c.in_ok-rest.rest.items) (c.in_ok-push.ensures.items ∙ ap (λ (l : List KnownPass). l ++ one ∷ []) c.new-all.ensures.items)))
    (with_first table c.args.site c.args.passes c.in_ok-rest.rest.items one o.ok.1 (o.own ∙ c.requires.own) (ap (λ (m : Seated). m.0) o.ok.0))
