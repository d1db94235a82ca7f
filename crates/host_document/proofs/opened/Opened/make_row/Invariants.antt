use Rattle.std.proofs.Common.{◌≡◌, ◌++◌, false, drop}
use Rattle.host_interface.specs.Rows.{past_behind, answers_to}
use Rattle.host_document.proofs.opened.Opened.make_row.Given as goal

-- unless a step was made nothing has happened; and what the rest of the row makes of this, and is answered, completes the row
abbrev pub invariant-loop-step : goal.invariant-loop-step
invariant-loop-step l = record {
  torn : l.is_torn ≡ false → l.self ≡ l.initial.self;
  made : past_behind l.link (drop l.step-index l.row) l.self ≡ past_behind l.link l.row l.initial.self;
  answers : l.lines.items ++ answers_to l.link (drop l.step-index l.row) l.self ≡ answers_to l.link l.row l.initial.self;
}
