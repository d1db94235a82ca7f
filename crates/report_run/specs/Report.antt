-- The report of a run.
use Rattle.std.specs.Prelude.{ℕ, List, [], ◌∷◌, ◌++◌, None, length, decimal, codes}
use Rattle.line_engine.specs.declared.status.Status.TheVariants.{Done}
use Rattle.line_engine.specs.Output.{Output}
use Rattle.line_spelling.specs.Line.{line_of}
use Rattle.peer_step.specs.declared.step.Step.{Step}
use Rattle.peer_core.specs.Peer.{Peer, fresh_peer}
use Rattle.peer_core.specs.Answers.{answer_of}
use Rattle.peer_core.specs.After.{peer_after}
use Rattle.line_spelling.specs.Values.{spaced}
use Rattle.line_spelling.specs.Steps.{step_text}
use Rattle.line_spelling.specs.Answers.{answer_line}
use Rattle.report_text.specs.Closing.{closing_lines}
use Rattle.peer_lock.specs.declared.call.Call.{Call}
use Rattle.peer_lock.specs.Run.{peer_after_run}

-- how many steps a run has
abbrev pub run_line : ℕ → List ℕ
run_line steps = line_of (spaced (codes "run" ∷ decimal steps ∷ []))

-- the number of a caller and its step, up to the answer
abbrev pub asked_text : ℕ → Step → List ℕ
asked_text caller step = decimal caller ++ codes " " ++ step_text step ++ codes " => "

-- a step of a run, by the peer before it: the caller's number, the step, and the line of its answer
abbrev pub call_line : Peer → Call → List ℕ
call_line p c = spaced (decimal c.caller ∷ step_text c.step ∷ codes "=>" ∷ answer_line None (answer_of p c.step) ∷ [])

-- the steps of a run from this peer on, each with its answer
abbrev pub call_lines : Peer → List Call → List ℕ
call_lines p [] = []
call_lines p (c ∷ run) = call_line p c ++ call_lines (peer_after p c.step) run

-- the report of a run from this peer on: its steps with the answers of the plain peer, the text after it, and what is held then
abbrev pub report_from : Peer → List Call → List ℕ
report_from p run = run_line (length run) ++ (call_lines p run ++ closing_lines (peer_after_run p run))

-- the report of a run of this site's peer
abbrev pub report : ℕ → List Call → List ℕ
report site run = report_from (fresh_peer site) run

-- a report, and the status
abbrev pub report_output : ℕ → List Call → Output
report_output site run = record { written = report site run; status = Done }
