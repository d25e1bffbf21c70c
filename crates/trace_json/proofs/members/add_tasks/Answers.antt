use Rattle.std.proofs.Common.{List, [], ◌∷◌, ℕ, subst}
use Rattle.trace_text.specs.Forms.{Gained}
use Rattle.trace_json.specs.Chrome.{AreMembers, ThreadName, task_objects}
use Rattle.trace_json.proofs.Gaining.{gained_more, gained_none}
use Rattle.trace_json.proofs.members.add_tasks.Goals as goal

pub loop-task-init : goal.loop-task-init
loop-task-init c = gained_none _

-- one more has its name
pub loop-task-preserved : goal.loop-task-preserved
loop-task-preserved c =
    let P : ℕ → List ℕ → Type 0 = λ id name. Gained (AreMembers (ThreadName id name ∷ [])) c.loop-task.text.items c.add_name.new.text.items in
    gained_more task_objects c.args.tasks.now c.loop-task.task-index c.task-item.result _ _ _ c.loop-task-test.true c.task-item.is c.loop-task.invariant
    (subst (P c.task-item.result.id) c.bytes.ensures.value (subst (λ id. P id c.bytes.result.now) c.get.ensures.same c.in_ok-add_name.ensures))
