use Rattle.std.proofs.Common.{◌≡◌, suc, ◌+◌, ◌-◌, ap, ◌∙◌, arith}
use Rattle.std.proofs.lemmas.Bool.{or_left, or_right}
use Rattle.wind_machine.specs.Run.{after}
use Rattle.board_trace.specs.Runs.{lines_of}
use Rattle.board_trace.specs.Snapshots.{snapshot_of}
use Rattle.trace_summary.specs.TasksLaws.{is_told, is_viewed}
use Rattle.trace_session.specs.Watching.{span_lists_of}
use Rattle.trace_session.proofs.Living.{told_on, told_then}
use Rattle.trace_session.proofs.laws.summary_tasks_law.Goals as goal

pub returns : goal.returns
returns c =
    let law = c.tasks_law.ensures in
    record {
      first = λ said s k id lives. law.rows (snapshot_of s.world).tasks (lines_of said s k) (span_lists_of said s k) (after said s k).time (after said s k).steps id ∙ or_left (is_viewed id (snapshot_of s.world).tasks) (is_told id (lines_of said s k)) lives;
      later = λ said s k j id below other gone lives.
          let end : k ≡ suc j + (k - suc j) = omega (arith, below) in
          let there = told_on said s id (suc j) (k - suc j) (told_then said s id j other gone lives) in
          law.rows (snapshot_of s.world).tasks (lines_of said s k) (span_lists_of said s k) (after said s k).time (after said s k).steps id
          ∙ or_right (is_viewed id (snapshot_of s.world).tasks) (is_told id (lines_of said s k)) (ap (λ n. is_told id (lines_of said s n)) end ∙ there);
      single = λ said s k. law.single (snapshot_of s.world).tasks (lines_of said s k) (span_lists_of said s k) (after said s k).time (after said s k).steps;
    }
