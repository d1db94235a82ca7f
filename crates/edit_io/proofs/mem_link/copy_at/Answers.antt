use Rattle.std.proofs.Common.{◌≡◌, ℕ, ◌+◌, ◌<◌, Vec, List, ◌∷◌, [], ◌++◌, take, drop, get_or, sym, ap, ◌∙◌, arith, length}
use Rattle.std.proofs.lemmas.List.{drop_more, take_more, length-map}
use Rattle.std.proofs.lemmas.Result.{IfOk-weaker}
use Rattle.std.proofs.Math.ListN.{get_or-map}
use Rattle.edit_io.specs.Wire.{messages, IsNextIn}
use Rattle.edit_io.proofs.mem_link.copy_at.Goals as goal

-- the message in the buffer that stands in a place
next_in : {A : Type 0} (buffers : List (Vec ℕ A)) (at : ℕ) (b : Vec ℕ A) (copy : List ℕ) → at < length buffers → b ≡ get_or buffers at b → copy ≡ b.items
    → IsNextIn (messages buffers) at copy
next_in {A = A} buffers at b copy within here copied =
    let f : Vec ℕ A → List ℕ = λ m. m.items in
    let inside : at < length (messages buffers) = omega (arith, length-map buffers f) in
    let same : get_or (messages buffers) at b.items ≡ copy = get_or-map f buffers at b ∙ ap f (sym here) ∙ sym copied in
    record {
      comes = drop_more (messages buffers) at b.items inside ∙ ap (λ m. m ∷ drop (at + 1) (messages buffers)) same;
      came = take_more (messages buffers) at b.items inside ∙ ap (λ m. take at (messages buffers) ++ m ∷ []) same;
    }

pub returns : goal.returns
returns c =
    IfOk-weaker c.from_slice.result _ _
    (λ copy copied. next_in c.args.buffers.now c.args.at c.index-buffers-at.result copy.items c.requires c.index-buffers-at.is (copied ∙ c.as_slice.ensures.value))
    c.from_slice.ensures.items
