-- What one line adds to the figures of a run.
use Rattle.std.specs.Prelude.{ℕ, List}
use Rattle.board_trace.specs.Subjects.{subject_of}
use Rattle.board_trace.specs.declared.happening.Happening.{Happening}
use Rattle.trace_summary.specs.Adding.{counts_in, sum_of, with_counts}
use Rattle.trace_summary.specs.Figures.{calls_in, idle_in, ticks_in}
use Rattle.trace_summary.specs.Summaries.{TallyState}
use Rattle.trace_summary.specs.Usage.{move_of}
use Rattle.trace_summary.specs.Using.{with_move}

-- the figures after a line that tells of what happens in a step that begins at this time, with the name of its task
abbrev pub noted : ℕ → List ℕ → Happening → TallyState → TallyState
noted time name h t = record {
  ticks = sum_of t.ticks (ticks_in h);
  calls = sum_of t.calls (calls_in h);
  idle = sum_of t.idle (idle_in time h);
  tasks = with_counts (subject_of h) name (counts_in h) t.tasks;
  uses = with_move (move_of time h) t.uses;
}
