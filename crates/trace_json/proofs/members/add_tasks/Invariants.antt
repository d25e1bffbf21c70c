use Rattle.std.proofs.Common.{take}
use Rattle.std.specs.List.{flat_map}
use Rattle.trace_text.specs.Forms.{Gained}
use Rattle.trace_json.specs.Chrome.{AreMembers, task_objects}
use Rattle.trace_json.proofs.members.add_tasks.Given as goal

-- the threads of the first tasks have names
abbrev pub invariant-loop-task : goal.invariant-loop-task
invariant-loop-task l = Gained (AreMembers (flat_map task_objects (take l.task-index l.tasks))) l.fn.text.items l.text.items
