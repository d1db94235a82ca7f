-- How step lines are read one by one.
use Rattle.std.specs.Prelude.{ℕ, ◌+◌, List, [], ◌∷◌, ◌++◌, Option, Some, option_map, ⊤}
use Rattle.line_engine.specs.declared.status.Status.{Status}
use Rattle.line_engine.specs.declared.status.Status.TheVariants as status
use Rattle.line_engine.specs.Run.{LineTurn}
use Rattle.peer_step.specs.declared.step.Step.{Step}
use Rattle.line_read.specs.Step.{step_line}
use Rattle.line_input.specs.declared.reading.InputEnd.{InputEnd}
use Rattle.line_input.specs.declared.reading.InputEnd.TheVariants.{Whole, BadLine, TooLong, ReadFault, NoMemory}

-- a step line writes nothing, and its step stands last
abbrev pub step_line_turn : List Step → List ℕ → Option (LineTurn (List Step))
step_line_turn steps line = option_map (λ step. record { reply = []; world = steps ++ step ∷ [] }) (step_line line)

-- nor does the end
abbrev pub step_line_closing : List Step → Option (List ℕ)
step_line_closing steps = Some []

-- a status that reading step lines gives
abbrev pub IsReadingStatus : Status → Type 0
IsReadingStatus status.Done = ⊤
IsReadingStatus status.BadInput = ⊤
IsReadingStatus status.TooLong = ⊤
IsReadingStatus status.ReadFault = ⊤
IsReadingStatus status.NoMemory = ⊤
IsReadingStatus other = ⊥

-- the end that such a status tells of, after so many good lines
abbrev pub end_after : Status → ℕ → InputEnd
end_after status.Done good = Whole
end_after status.BadInput good = BadLine (good + 1)
end_after status.TooLong good = TooLong
end_after status.ReadFault good = ReadFault
end_after other good = NoMemory
