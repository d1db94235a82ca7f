-- What a slot that holds a box, and the parts of a box, own: what the box owns.
use mir.Syntax.{impl, tnil, dnil}
use mathlib.Core.List.{[]}
use mathlib.Core.Bool.{Bool, true, false, ◌&&◌}
use lib.Dec.{T}
use mir.Val.{Val, vstruct, vcons, vnil}
use denote.Signature.{Slot, plain}
use Rattle.std_alloc.proofs.BoxSteps.Form.{Bx}
use Rattle.std_heap.specs.contracts.Global as Heap
use Rattle.std_heap.specs.contracts.GlobalAllocator.TheImpl.{ghosts, dict}
use Rattle.std_heap.proofs.Global.TheLaws as heap
use Rattle.editor_lib.specs.contracts.desk.Desk as desk
use Rattle.editor_lib.proofs.desk.Desk.TheLaws as laws
use Rattle.editor_lib.specs.contracts.slot.parts.Parts as Parts
use Rattle.editor_lib.specs.contracts.slot.DeskSlot as slot

abbrev pub E : Bx
E = record { row = desk.the_row; laws = laws.the_row_laws; al = record { row = Heap.the_row; laws = heap.the_row_laws; g = ghosts; d = dict; drops = impl [] tnil dnil } }

abbrev pub FromParts : Slot 0
FromParts = plain (λ _. Parts.the_row desk.the_row Heap.the_row ghosts)

abbrev pub FromSlot : Slot 0
FromSlot = plain (λ _. slot.the_row)

-- a struct of two fields, as the machine has it
abbrev pub both : Val → Val → Val
both v w = vstruct (vcons v (vcons w vnil))

pub both_tt : (x y : Bool) → T x → T y → T (x && (y && true))
both_tt true true s t = tt
both_tt true false s t = absurd t
both_tt false y s t = absurd s
