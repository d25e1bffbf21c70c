use Rattle.std.proofs.Common.{◌≡◌, ◌++◌, ◌-◌, ◌<◌}
use Rattle.std.specs.List.{flat_map}
use Rattle.text_show.specs.Tasks.{task_row, from_priority, AreLow}
use Rattle.text_show.proofs.tasks.add_tasks.Given as goal

abbrev pub invariant-loop-pri : goal.invariant-loop-pri
invariant-loop-pri l = (l.page.items ++ flat_map (task_row l.kern.tick) (from_priority (256 - l.pri) l.pri l.kern.tasks) ≡ l.initial.page.items ++ flat_map (task_row l.kern.tick) (from_priority 256 0 l.kern.tasks)) × (0 < l.pri → AreLow l.kern.tasks)
