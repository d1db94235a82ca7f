-- A frame that was read, or a fault: the two are told apart, and what they hold is one where they are.
use Rattle.std.proofs.Common.{◌≡◌, Result, Ok, Err}
use Rattle.edit_frame.specs.declared.frame.Frame.{Frame}
use Rattle.edit_frame.specs.declared.frame.FrameKind.{FrameKind}

abbrev pub good : Frame → Result Frame FrameKind
good f = Ok f

abbrev pub bad : FrameKind → Result Frame FrameKind
bad k = Err k

pub same_frame : (f g : Frame) → good f ≡ good g → f ≡ g
same_frame f g e = cc

pub same_kind : (j k : FrameKind) → bad j ≡ bad k → j ≡ k
same_kind j k e = cc

pub no_frame : (k : FrameKind) (f : Frame) → bad k ≡ good f → ⊥
no_frame k f e = cc
