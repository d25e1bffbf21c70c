use Rattle.std.proofs.Common.{ℕ, ◌+◌, ◌≤◌, List, map, take}
use Rattle.std.specs.List.{filter, sum_by}
use Rattle.board_trace.specs.Runs.{Line, with_lines}
use Rattle.board_trace.specs.Views.{snapshot_state}
use Rattle.trace_text.specs.Pages.{Ends, count_in, count_of}
use Rattle.trace_session.specs.Choice.{choice_state, is_chosen}
use Rattle.trace_session.specs.Steps.{line_of}
use Rattle.trace_session.proofs.tracer.add_lines.Given as goal

-- the first happenings have their lines
abbrev pub invariant-loop-happening : goal.invariant-loop-happening
invariant-loop-happening g l =
    let first = take l.happening-index l.list in
    record {
      lines : (given : List ℕ) (made : List Line) → Ends g.L.LineForm.is_line given l.fn.page made → Ends g.L.LineForm.is_line given l.page (with_lines (filter (is_chosen (choice_state l.choice)) (map (line_of l.before_step (snapshot_state l.before) (snapshot_state l.after)) first)) made);
      waits : count_in l.page.growing ≤ count_in l.fn.page.growing + sum_by count_of first;
    }
