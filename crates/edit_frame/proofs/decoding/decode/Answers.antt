use Rattle.std.proofs.Common.{◌≡◌, Bool, Result, Err, refl, sym, subst, ◌∙◌, arith}
use Rattle.edit_frame.specs.declared.frame.Frame.{Frame}
use Rattle.edit_frame.specs.declared.frame.FrameKind.{FrameKind}
use Rattle.edit_frame.specs.declared.fail.FrameFail.{FrameFail}
use Rattle.edit_frame.specs.declared.fail.FrameFail.TheVariants as frames
use Rattle.edit_frame.specs.Reading.{takes_memory}
use Rattle.edit_frame.specs.Gives.{FrameFails}
use Rattle.edit_frame.proofs.Frames.{decoded_spells, decoded_again}
use Rattle.edit_frame.proofs.decoding.decode.Goals as goal

fault_is : (wants : Bool) (kind : FrameKind) (fail : FrameFail) (read : Result Frame FrameKind) → fail ≡ frames.Fault kind → FrameFails wants fail read → read ≡ Err kind
fault_is wants kind fail read e h = subst (λ (x : FrameFail). FrameFails wants x read) e h

pub returns-in-Ok-clause-found : goal.returns-in-Ok-clause-found
returns-in-Ok-clause-found c = decoded_spells c.args.message.now c.in-Ok.frame (λ i. omega (arith, c.type_inv.message i)) c.in-Ok.ensures

pub returns-in-Ok-clause-only : goal.returns-in-Ok-clause-only
returns-in-Ok-clause-only c = λ f s. sym (decoded_again c.args.message.now f s) ∙ c.in-Ok.ensures

pub returns-in-Err-Fault-clause-only : goal.returns-in-Err-Fault-clause-only
returns-in-Err-Fault-clause-only c = λ f s. (refl, sym (decoded_again c.args.message.now f s) ∙ fault_is (takes_memory c.args.message.now) c.in-Err-Fault.kind c.in-Err-Fault.field-0 _ c.in-Err-Fault.field-0-is c.in-Err-Fault.ensures)
