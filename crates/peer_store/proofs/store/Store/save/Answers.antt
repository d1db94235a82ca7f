use Rattle.std.proofs.Common.{◌≡◌, ℕ, ◌+◌, ◌++◌, List, length, arith, refl, sym, ap, ◌∙◌, subst}
use Rattle.peer_disk.specs.Records.{records, Keeps}
use Rattle.peer_store.specs.Store.{Saved}
use Rattle.peer_store.proofs.Ahead.{nothing_saved, inside_put, messages_left, none_saved, all_saved, keeps_there}
use Rattle.peer_store.proofs.store.Store.save.Goals as goal

pub returns-then-self-clause-any_moment : goal.returns-then-self-clause-any_moment
returns-then-self-clause-any_moment g c site steps more is on =
    nothing_saved g.D.Disk.moment g.D.Disk.left_since g.D.Disk.may_leave g.D.Disk.seen site steps more c.args.self.now is c.args.disk.now on g.met.D.Disk.only_now

pub returns-then-is_empty-clause-any_moment : goal.returns-then-is_empty-clause-any_moment
returns-then-is_empty-clause-any_moment g c site steps more is on =
    nothing_saved g.D.Disk.moment g.D.Disk.left_since g.D.Disk.may_leave g.D.Disk.seen site steps more c.args.self.now is c.args.disk.now on g.met.D.Disk.only_now

pub returns-then-self-clause-safe : goal.returns-then-self-clause-safe
returns-then-self-clause-safe g c site steps more is on =
    messages_left g.D.Disk.moment g.D.Disk.left_since g.D.Disk.may_leave g.D.Disk.seen site steps more c.args.self.now is c.args.disk.now on c.args.disk.now
    (nothing_saved g.D.Disk.moment g.D.Disk.left_since g.D.Disk.may_leave g.D.Disk.seen site steps more c.args.self.now is c.args.disk.now on g.met.D.Disk.only_now)

pub returns-then-is_empty-clause-safe : goal.returns-then-is_empty-clause-safe
returns-then-is_empty-clause-safe g c site steps more is on =
    messages_left g.D.Disk.moment g.D.Disk.left_since g.D.Disk.may_leave g.D.Disk.seen site steps more c.args.self.now is c.args.disk.now on c.args.disk.now
    (nothing_saved g.D.Disk.moment g.D.Disk.left_since g.D.Disk.may_leave g.D.Disk.seen site steps more c.args.self.now is c.args.disk.now on g.met.D.Disk.only_now)

pub returns-then-is_empty-clause-saved : goal.returns-then-is_empty-clause-saved
returns-then-is_empty-clause-saved g c site steps more is on =
    none_saved site steps more c.args.self.now is (g.D.Disk.seen c.args.disk.now) (g.D.Disk.may_leave c.args.disk.now) on
    (ap (λ (s : Saved). s.unsaved) (sym c.self.view_is) ∙ c.is_empty.ensures.none c.if-is_empty.true)

pub returns-in-Ok-clause-any_moment : goal.returns-in-Ok-clause-any_moment
returns-in-Ok-clause-any_moment g c site steps more is on =
    inside_put g.D.Disk.moment g.D.Disk.left_since g.D.Disk.may_leave g.D.Disk.seen site steps more c.args.self.now is c.args.disk.now on c.put_all.new.disk _ c.self.inside.place
    c.self.view_is refl c.put_all.ensures.any_moment

pub returns-in-Err-clause-any_moment : goal.returns-in-Err-clause-any_moment
returns-in-Err-clause-any_moment g c site steps more is on =
    inside_put g.D.Disk.moment g.D.Disk.left_since g.D.Disk.may_leave g.D.Disk.seen site steps more c.args.self.now is c.args.disk.now on c.put_all.new.disk _ c.self.inside.place
    c.self.view_is refl c.put_all.ensures.any_moment

pub returns-in-Ok-clause-safe : goal.returns-in-Ok-clause-safe
returns-in-Ok-clause-safe g c site steps more is on =
    messages_left g.D.Disk.moment g.D.Disk.left_since g.D.Disk.may_leave g.D.Disk.seen site steps more c.args.self.now is c.args.disk.now on c.put_all.new.disk
    (returns-in-Ok-clause-any_moment g c site steps more is on)

pub returns-in-Err-clause-safe : goal.returns-in-Err-clause-safe
returns-in-Err-clause-safe g c site steps more is on =
    messages_left g.D.Disk.moment g.D.Disk.left_since g.D.Disk.may_leave g.D.Disk.seen site steps more c.args.self.now is c.args.disk.now on c.put_all.new.disk
    (returns-in-Err-clause-any_moment g c site steps more is on)

pub returns-in-Ok-clause-saved : goal.returns-in-Ok-clause-saved
returns-in-Ok-clause-saved g c site steps more is on =
    let there : c.args.self.now.place ≡ c.self.inside.place + length (records c.args.self.now.unsaved)
    = subst (λ (s : Saved). s.place ≡ c.self.inside.place + length (records s.unsaved)) c.self.view_is refl in
    let unsaved_is : c.self.inside.unsaved ≡ c.args.self.now.unsaved = ap (λ (s : Saved). s.unsaved) c.self.view_is in
    let kept : Keeps site (is.bodies ++ c.self.inside.unsaved) c.in-Ok.next (g.D.Disk.seen c.put_all.new.disk) (g.D.Disk.may_leave c.put_all.new.disk)
    = c.in-Ok.ensures.kept site is.bodies (keeps_there site steps more c.args.self.now is (g.D.Disk.seen c.args.disk.now) (g.D.Disk.may_leave c.args.disk.now) on c.self.inside.place there) in
    let place_is : c.in-Ok.next ≡ c.in-Ok.next + length (records c.clear.new.self) = omega (arith, ap (λ (l : List (List ℕ)). length (records l)) c.clear.ensures) in
    all_saved site steps more c.args.self.now is _ (g.D.Disk.seen c.put_all.new.disk) (g.D.Disk.may_leave c.put_all.new.disk)
    (ap (λ (s : Saved). s.peer) c.self.view_is) c.clear.ensures c.journal_len-self-inside.ensures
    (subst (λ (n : ℕ). Keeps site (is.bodies ++ c.args.self.now.unsaved) n (g.D.Disk.seen c.put_all.new.disk) (g.D.Disk.may_leave c.put_all.new.disk)) place_is
    (subst (λ (l : List (List ℕ)). Keeps site (is.bodies ++ l) c.in-Ok.next (g.D.Disk.seen c.put_all.new.disk) (g.D.Disk.may_leave c.put_all.new.disk)) unsaved_is kept))
