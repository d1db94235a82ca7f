use Rattle.std.proofs.Common.{◌≡◌, ℕ, ◌+◌, ◌<◌, Some, List, Option, ◌∷◌, [], ◌++◌, take, drop, sym, ap, ◌∙◌, subst, All, arith, rules, length, slice_set}
use Rattle.edit_io.specs.Wire.{Wire}
use Rattle.edit_io.specs.Lobby.{Lobby, standing, IsUnusedPlace}
use Rattle.edit_io.proofs.Places.{standing_put, drop_filled, taken_filled}
use Rattle.edit_io.proofs.mem_door.MemDoorDoor.back.Goals as goal

length-filled : (places now : List (Option Wire)) (at : ℕ) (w : Wire) → now ≡ slice_set places at (Some w) → length now ≡ length places
length-filled places now at w is = ap length is ∙ search rules

pub invariant_of-self : goal.invariant_of-self
invariant_of-self c =
    let old = c.self.inside in
    let now = c.put_at.new.links.items in
    let room : old.returned < old.given = omega (arith, ap (λ (l : Lobby). l.given) c.self.view_is, ap (λ (l : Lobby). l.returned) c.self.view_is) in
    let within : old.returned < length old.links.items = omega (arith, c.self.invariant.given_few) in
    record {
      back = taken_filled old.links.items now old.returned c.args.line within c.put_at.ensures c.self.invariant.back;
      waiting = subst (All IsUnusedPlace) (sym (drop_filled old.links.items now old.returned old.given c.args.line room c.put_at.ensures)) c.self.invariant.waiting;
      returned_few = omega arith;
      given_few = omega (arith, length-filled old.links.items now old.returned c.args.line c.put_at.ensures, c.self.invariant.given_few);
      hurt_few = omega (arith, c.self.invariant.hurt_few);
    }

pub returns-clause-used : goal.returns-clause-used
returns-clause-used c =
    let old = c.self.inside in
    let within : old.returned < length old.links.items
    = omega (arith, c.self.invariant.given_few, ap (λ (l : Lobby). l.given) c.self.view_is, ap (λ (l : Lobby). l.returned) c.self.view_is) in
    ap Some (standing_put old.links.items c.put_at.new.links.items old.returned c.args.line within c.put_at.ensures
    ∙ ap (λ l. l ++ c.args.line ∷ []) (ap (λ (l : Lobby). l.used) c.self.view_is))

pub returns-clause-after : goal.returns-clause-after
returns-clause-after c =
    let old = c.self.inside in
    let now = c.put_at.new.links.items in
    let room : old.returned < old.given = omega (arith, ap (λ (l : Lobby). l.given) c.self.view_is, ap (λ (l : Lobby). l.returned) c.self.view_is) in
    let within : old.returned < length old.links.items = omega (arith, c.self.invariant.given_few) in
    let used : standing (take (old.returned + 1) now) ≡ c.args.self.now.used ++ c.args.line ∷ []
    = standing_put old.links.items now old.returned c.args.line within c.put_at.ensures ∙ ap (λ l. l ++ c.args.line ∷ []) (ap (λ (l : Lobby). l.used) c.self.view_is) in
    let waiting : standing (drop old.given now) ≡ c.args.self.now.waiting
    = ap standing (drop_filled old.links.items now old.returned old.given c.args.line room c.put_at.ensures) ∙ ap (λ (l : Lobby). l.waiting) c.self.view_is in
    rw (used, waiting) (search rules)
