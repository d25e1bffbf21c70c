use Rattle.std.proofs.Common.{ℕ, Option, ◌∙◌, subst, sym}
use Rattle.trace_text.specs.Forms.{Gained}
use Rattle.trace_json.specs.Chrome.{AreMembers, thread_objects}
use Rattle.trace_json.proofs.Gaining.{gained_none}
use Rattle.trace_json.proofs.members.add_spawned.Goals as goal

-- it spawns none
pub returns-in_default : goal.returns-in_default
returns-in_default c =
    let P : Option ℕ → Type 0 = λ who. Gained (AreMembers (thread_objects who c.args.name.now)) c.args.text.now.items c.args.text.now.items in
    subst P (sym c.in_default.is ∙ c.spawned_task.ensures) (gained_none c.args.text.now.items)
