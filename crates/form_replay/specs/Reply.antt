-- The lines of replies, each with its line end.
use Rattle.std.specs.Prelude.{ℕ, List, [], ◌∷◌, Option, Some, None, decimal, codes}
use Rattle.line_spelling.specs.Line.{line_of}
use Rattle.request_state.specs.declared.state.State.{State}
use Rattle.replay_net.specs.declared.reply.Reply.{Reply}
use Rattle.replay_net.specs.declared.reply.Reply.TheVariants.{Answered, NoMessage, StateIs}
use Rattle.line_spelling.specs.Values.{spaced}
use Rattle.line_spelling.specs.Answers.{state_words, answer_line}

-- a state that is kept, or none
abbrev pub kept_words : Option State → List (List ℕ)
kept_words (Some state) = state_words state
kept_words None = codes "unknown" ∷ []

abbrev pub reply_line : Reply → List ℕ
reply_line (Answered number answer) = answer_line number answer
reply_line (NoMessage count) = line_of (spaced (codes "no" ∷ codes "message" ∷ decimal count ∷ []))
reply_line (StateIs state) = line_of (spaced (codes "state" ∷ kept_words state))
