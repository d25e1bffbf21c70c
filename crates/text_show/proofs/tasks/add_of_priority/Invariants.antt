use Rattle.std.proofs.Common.{◌≡◌, ◌++◌, take}
use Rattle.std.specs.List.{filter, flat_map}
use Rattle.text_show.specs.Tasks.{task_row, has_priority, AreLow}
use Rattle.text_show.proofs.tasks.add_of_priority.Given as goal

abbrev pub invariant-loop-place : goal.invariant-loop-place
invariant-loop-place l = (l.page.items ≡ l.initial.page.items ++ flat_map (task_row l.kern.tick) (filter (has_priority l.pri) (take l.place l.kern.tasks))) × AreLow (take l.place l.kern.tasks)
