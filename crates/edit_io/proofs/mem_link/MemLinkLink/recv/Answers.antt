use Rattle.std.proofs.Common.{◌≡◌, ℕ, ◌<◌, Vec, List, [], drop, ap, ◌∙◌, arith, length}
use Rattle.std.proofs.lemmas.Grind.{common_steps}
use Rattle.std.proofs.lemmas.List.{length-drop, length-map}
use Rattle.edit_io.specs.Wire.{Wire, messages}
use Rattle.edit_io.proofs.mem_link.MemLinkLink.recv.Goals as goal

-- something comes from a place that isn't behind the last
some_comes : {A : Type 0} (buffers : List (Vec ℕ A)) (at : ℕ) → at < length buffers → drop at (messages buffers) ≡ [] → ⊥
some_comes {A = A} buffers at within none =
    let f : Vec ℕ A → List ℕ = λ m. m.items in
    absurd (omega (arith, length-map buffers f, length-drop at (messages buffers), ap length none))

pub returns-in-Err-clause-fails : goal.returns-in-Err-clause-fails
returns-in-Err-clause-fails c =
    let w = c.self.inside in
    let within : w.at < length w.incoming.items = omega arith in
    let some : c.args.self.now.coming ≡ [] → ⊥ = λ none. some_comes w.incoming.items w.at within (ap (λ (v : Wire). v.coming) c.self.view_is ∙ none) in
    grind (arith, common_steps, some)
