-- What an answer says.
use Rattle.std.specs.Prelude.{Bool, true, false}
use Rattle.peer_step.specs.declared.answer.Answer.{Answer}
use Rattle.peer_step.specs.declared.answer.Answer.TheVariants.{Quiet}

-- no held message was due
abbrev pub is_quiet : Answer → Bool
is_quiet Quiet = true
is_quiet answer = false
