use Rattle.std.proofs.Common.{◌≡◌, List, map, take}
use Rattle.board_changes.specs.declared.view.TaskView.{TaskView}
use Rattle.board_trace.specs.Runs.{Line, with_lines}
use Rattle.board_trace.specs.Views.{snapshot_state}
use Rattle.trace_summary.specs.Summaries.{tally_of, tally_state}
use Rattle.trace_session.specs.Steps.{line_of}
use Rattle.trace_session.proofs.counter.add_lines.Given as goal

-- the first happenings were counted
abbrev pub invariant-loop-happening : goal.invariant-loop-happening
invariant-loop-happening l =
    (views : List TaskView) (made : List Line) → tally_state l.fn.tally ≡ tally_of views made
    → tally_state l.tally ≡ tally_of views (with_lines (map (line_of l.before_step (snapshot_state l.before) (snapshot_state l.after)) (take l.happening-index l.list)) made)
