use Rattle.std.proofs.Common.{◌≡◌, ◌++◌, drop, map}
use Rattle.debug_texts.specs.Lists.{thread_rows}
use Rattle.debug_view.specs.Rows.{task_row}
use Rattle.debug_view.proofs.rows.add_tasks.Given as goal

-- with the rows of the tasks that come next, the text has the rows of all
abbrev pub invariant-loop-place : goal.invariant-loop-place
invariant-loop-place l =
    l.text.items ++ thread_rows (map (task_row l.phase l.objects) (drop l.place l.kern.tasks))
    ≡ l.initial.text.items ++ thread_rows (map (task_row l.phase l.objects) l.kern.tasks)
