use Rattle.std.proofs.Common.{◌≡◌, ◌+◌, ◌<◌, ◌++◌, true, length, refl, sym, ap, ◌∙◌, subst}
use Rattle.peer_disk.specs.Records.{records}
use Rattle.peer_store.specs.Steps.{changes, if_changing}
use Rattle.peer_store.specs.Store.{Saved, IsAhead}
use Rattle.peer_store.specs.Faults.{refusal_of}
use Rattle.std.specs.Prelude.{None}
use Rattle.peer_store.proofs.Putting.{still_room, longer}
use Rattle.peer_store.proofs.Ahead.{after_step}
use Rattle.peer_store.proofs.store.Store.step.Goals as goal

pub invariant_of-self-2 : goal.invariant_of-self-2
invariant_of-self-2 c =
    let inside : Saved = record { peer = c.self.inside.peer; place = c.self.inside.place + length (records c.self.inside.unsaved); spent = c.self.inside.spent; unsaved = c.self.inside.unsaved; safe = c.self.inside.saved } in
    let none : refusal_of inside c.args.step ≡ None = ap (λ (s : Saved). refusal_of s c.args.step) c.self.view_is ∙ sym c.refusal.ensures ∙ c.in_default.is in
    still_room inside c.args.step c.self.inside.place c.keep_step.new.unsaved refl none c.self.invariant c.in_ok-answer.ensures.kept c.in_ok-answer.ensures.quiet c.short_bodies.ensures

pub returns-clause-ahead : goal.returns-clause-ahead
returns-clause-ahead c site steps more =
    let inside : Saved = record { peer = c.self.inside.peer; place = c.self.inside.place + length (records c.self.inside.unsaved); spent = c.self.inside.spent; unsaved = c.self.inside.unsaved; safe = c.self.inside.saved } in
    let now : Saved = record { peer = c.keep_step.new.peer; place = c.self.inside.place + length (records c.keep_step.new.unsaved); spent = c.self.inside.spent; unsaved = c.keep_step.new.unsaved; safe = c.self.inside.saved } in
    subst (λ (s : Saved). IsAhead site steps more s → IsAhead site steps (more ++ if_changing s.peer c.args.step) now) c.self.view_is
    (λ (is : IsAhead site steps more inside). after_step site steps more inside is now c.args.step c.self.inside.place refl refl c.in_ok-answer.ensures.after refl c.in_ok-answer.ensures.kept c.in_ok-answer.ensures.quiet)

pub returns-clause-longer : goal.returns-clause-longer
returns-clause-longer c =
    subst (λ (s : Saved). changes s.peer c.args.step ≡ true → length (records s.unsaved) < length (records c.keep_step.new.unsaved)) c.self.view_is
    (λ (turns : changes c.self.inside.peer c.args.step ≡ true). longer c.self.inside.unsaved c.keep_step.new.unsaved c.self.inside.peer c.args.step (c.in_ok-answer.ensures.kept turns))
