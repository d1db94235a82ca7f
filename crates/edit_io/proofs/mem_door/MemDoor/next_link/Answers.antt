use Rattle.std.proofs.Common.{◌≡◌, ℕ, ◌+◌, Option, Some, None, List, [], ◌∷◌, drop, take, All, sym, ap, ◌∙◌, subst, arith, rules, length, slice_set, slice_get}
use Rattle.std.proofs.lemmas.Grind.{common_steps}
use Rattle.edit_io.specs.Wire.{Wire}
use Rattle.edit_io.specs.Lobby.{Lobby, standing, IsTaken, IsUnusedPlace}
use Rattle.edit_io.proofs.Places.{drop_at_link, drop_emptied, take_emptied, new_first, new_rest}
use Rattle.edit_io.proofs.mem_door.MemDoor.next_link.Goals as goal

length-emptied : (places now : List (Option Wire)) (at : ℕ) → now ≡ slice_set places at None → length now ≡ length places
length-emptied places now at is = ap length is ∙ search rules

pub invariant_of-self-in-Some : goal.invariant_of-self-in-Some
invariant_of-self-in-Some c =
    let now = c.take_at.new.links.items in
    let old = c.self.inside.links.items in
    let same = length-emptied old now c.self.inside.given c.take_at.ensures.after in
    record {
      back = subst (All IsTaken) (sym (take_emptied old now c.self.inside.given c.self.inside.returned c.self.invariant.returned_few c.take_at.ensures.after)) c.self.invariant.back;
      waiting = new_rest old now c.self.inside.given (Some c.in-Some.link) c.in-Some.ensures.taken c.take_at.ensures.after c.self.invariant.waiting;
      returned_few = omega arith;
      given_few = omega arith;
      hurt_few = c.self.invariant.hurt_few;
    }

pub unreachable-requires : goal.unreachable-requires
unreachable-requires c =
    let old = c.self.inside.links.items in
    new_first None (drop (c.self.inside.given + 1) old) (subst (All IsUnusedPlace) (drop_at_link old c.self.inside.given None c.in-None.ensures.taken) c.self.invariant.waiting)

-- what waits begins with the link
waiting_is : (now : Lobby) (links : List (Option Wire)) (given : ℕ) (w : Wire) → standing (drop given links) ≡ now.waiting → slice_get links given ≡ Some (Some w)
    → now.waiting ≡ w ∷ standing (drop (given + 1) links)
waiting_is now links given w seen there = sym seen ∙ ap standing (drop_at_link links given (Some w) there)

pub returns-clause-next : goal.returns-clause-next
returns-clause-next c =
    let waiting = waiting_is c.args.self.now c.self.inside.links.items c.self.inside.given c.in-Some.link (ap (λ (l : Lobby). l.waiting) c.self.view_is)
    c.in-Some.ensures.taken in
    waiting ∙ ap (λ l. c.in-Some.link ∷ l) (sym (ap (drop 1) waiting))

pub returns-clause-unused : goal.returns-clause-unused
returns-clause-unused c =
    let old = c.self.inside.links.items in
    let split = drop_at_link old c.self.inside.given (Some c.in-Some.link) c.in-Some.ensures.taken in
    new_first (Some c.in-Some.link) (drop (c.self.inside.given + 1) old) (subst (All IsUnusedPlace) split c.self.invariant.waiting)

pub returns-clause-fails : goal.returns-clause-fails
returns-clause-fails c =
    let waiting = waiting_is c.args.self.now c.self.inside.links.items c.self.inside.given c.in-Some.link (ap (λ (l : Lobby). l.waiting) c.self.view_is)
    c.in-Some.ensures.taken in
    let some : c.args.self.now.waiting ≡ [] → ⊥ = λ none. cc in
    grind (arith, common_steps, some)

pub returns-clause-after : goal.returns-clause-after
returns-clause-after c =
    let now = c.take_at.new.links.items in
    let old = c.self.inside.links.items in
    let split = drop_at_link old c.self.inside.given (Some c.in-Some.link) c.in-Some.ensures.taken in
    let used : standing (take c.self.inside.returned now) ≡ c.args.self.now.used
    = ap standing (take_emptied old now c.self.inside.given c.self.inside.returned c.self.invariant.returned_few c.take_at.ensures.after) ∙ ap (λ (l : Lobby). l.used) c.self.view_is in
    let waiting : standing (drop (c.self.inside.given + 1) now) ≡ drop 1 c.args.self.now.waiting
    = ap standing (drop_emptied old now c.self.inside.given c.take_at.ensures.after)
    ∙ sym (ap (drop 1) (ap standing split))
    ∙ ap (λ (l : Lobby). drop 1 l.waiting) c.self.view_is in
    rw (used, waiting) (search rules)
