-- The step lines of an input, in the lists of three workers.
use Rattle.std.specs.Prelude.{ℕ, ◌+◌, List, [], ◌∷◌, ◌++◌, Option, Some, option_map, length, nat_lt}
use Rattle.element_name.specs.Cases.{given}
use Rattle.line_engine.specs.Output.{Output}
use Rattle.line_engine.specs.Input.{is_cut, counted_bytes}
use Rattle.line_engine.specs.Run.{LineTurn, output_of, part_of, world_of}
use Rattle.peer_step.specs.declared.step.Step.{Step}
use Rattle.peer_step.specs.declared.step.Step.TheVariants.{Edit, Administer, Receive, Settle, ValidateNext, Look, Show}
use Rattle.line_read.specs.Step.{step_line}
use Rattle.race_run.specs.declared.worker.Worker.{Worker}
use Rattle.race_run.specs.declared.worker.Worker.TheVariants.{Editor, Receiver, Administrator}
use Rattle.peer_lock.specs.declared.limits.TheConstants.{MAX_RUN}

-- the worker that runs a step
abbrev pub worker_of : Step → Worker
worker_of (Edit edit) = Editor
worker_of (Look from) = Editor
worker_of Show = Editor
worker_of (Receive message) = Receiver
worker_of Settle = Receiver
worker_of (Administer op) = Administrator
worker_of ValidateNext = Administrator

-- the steps of the three workers, each in its order
pub record WorkLists : Type 0 where
  pub edits : List Step
  pub arrivals : List Step
  pub operations : List Step

abbrev pub no_work : WorkLists
no_work = record { edits = []; arrivals = []; operations = [] }

-- how many steps there are
abbrev pub step_count : WorkLists → ℕ
step_count l = length l.edits + length l.arrivals + length l.operations

-- a step last in the list of this worker
abbrev pub with_last_of : Worker → WorkLists → Step → WorkLists
with_last_of Editor l step = record l { edits = l.edits ++ step ∷ [] }
with_last_of Receiver l step = record l { arrivals = l.arrivals ++ step ∷ [] }
with_last_of Administrator l step = record l { operations = l.operations ++ step ∷ [] }

-- a step last in the list of its worker
abbrev pub with_step : WorkLists → Step → WorkLists
with_step l step = with_last_of (worker_of step) l step

-- a step line writes nothing
abbrev pub list_turn : WorkLists → List ℕ → Option (LineTurn WorkLists)
list_turn l line = given (nat_lt (step_count l) MAX_RUN) (option_map (λ step. record { reply = []; world = with_step l step }) (step_line line))

-- nor does the end
abbrev pub list_closing : WorkLists → Option (List ℕ)
list_closing l = Some []

-- the lists of an input, up to its first bad line
abbrev pub lists_of : List ℕ → WorkLists
lists_of input = world_of list_turn no_work (is_cut input) (counted_bytes input)

-- what is written of an input where these bytes are written at its end
abbrev pub output_with : List ℕ → List ℕ → Output
output_with bytes input = output_of list_turn (λ lists. Some bytes) no_work input

-- what is written of bytes after which reading fails; none where a whole line among them is bad, or their rest is too long for a line
abbrev pub list_part : List ℕ → Option (List ℕ)
list_part bytes = part_of list_turn no_work bytes
