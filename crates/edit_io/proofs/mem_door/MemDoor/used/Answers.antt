use Rattle.std.proofs.Common.{◌≡◌, ℕ, ◌<◌, ◌≤◌, List, Option, None, Some, All, IfSome, Bor, take, length, get_or, slice_get, refl, sym, ap, ◌∙◌, subst, arith}
use Rattle.std.specs.Option.{option_copied}
use Rattle.std.proofs.lemmas.List.{length-take, get_or-take}
use Rattle.std.proofs.lemmas.Option.{slice_get_read}
use Rattle.edit_io.specs.Wire.{Wire}
use Rattle.edit_io.specs.Lobby.{Lobby, standing, IsTaken}
use Rattle.edit_io.proofs.Places.{length-standing, standing_at}
use Rattle.edit_io.proofs.mem_door.MemDoor.used.Goals as goal

-- the link in a place is the used one of this number
used_at : (links : List (Option Wire)) (returned at : ℕ) (here : Option Wire) (link : Option (Bor Wire)) (used : List Wire) → All IsTaken (take returned links)
    → at < returned → returned ≤ length links → here ≡ get_or links at here → option_copied link ≡ here → standing (take returned links) ≡ used
    → IfSome link (λ link. slice_get used at ≡ Some link.now)
used_at links returned at here None used taken below within is seen all = tt
used_at links returned at here (Some link) used taken below within is seen all =
    let there : Some link.now ≡ get_or links at (Some link.now) = subst (λ (h : Option Wire). h ≡ get_or links at h) (sym seen) is in
    let got : slice_get (take returned links) at ≡ Some (Some link.now)
    = slice_get_read (take returned links) (length (take returned links)) at (Some link.now) refl (omega (arith, length-take returned links))
    (there ∙ sym (get_or-take returned links at (Some link.now) below)) in
    ap (λ l. slice_get l at) (sym all) ∙ standing_at (take returned links) at link.now taken got

pub returns-then-number-self-clause-none : goal.returns-then-number-self-clause-none
returns-then-number-self-clause-none c =
    let back = take c.self.inside.returned c.self.inside.links.items in
    let used : standing back ≡ c.args.self.now.used = ap (λ (l : Lobby). l.used) c.self.view_is in
    omega (arith, length-standing back c.self.invariant.back, length-take c.self.inside.returned c.self.inside.links.items, ap length used)

pub returns-clause-some : goal.returns-clause-some
returns-clause-some c =
    let inside = c.self.inside in
    let within : inside.returned ≤ length inside.links.items = omega (arith, c.self.invariant.returned_few, c.self.invariant.given_few) in
    used_at inside.links.items inside.returned c.args.number c.index.result.now c.as_ref.result c.args.self.now.used c.self.invariant.back c.if-number-self.false
    within c.index.ensures c.as_ref.ensures.value (ap (λ (l : Lobby). l.used) c.self.view_is)
