-- How deep a summary nests.
use Rattle.std.proofs.Common.{◌≡◌, ℕ, ◌≤◌, ◌++◌, Option, None, Some, sym, subst, arith}
use Rattle.serde_json.specs.Data.{Data, depth}
use Rattle.serde_json.specs.Read.{max_depth}
use Rattle.board_changes.specs.declared.awaited.Awaited.{Awaited}
use Rattle.trace_state.proofs.Shallow.{list_within, maybe_within, member_within, object_within}
use Rattle.trace_state.specs.Tasks.{awaited_id, wait_data}
use Rattle.trace_state.specs.Json.{object_of}
use Rattle.trace_summary.specs.Data.{hold_data, hold_members, holder, move_members, object_in, stretch_data, summary_data, task_data, usage_data}
use Rattle.trace_summary.specs.Summaries.{SummaryState}
use Rattle.trace_summary.specs.declared.summary.TaskSummary.{TaskSummary}
use Rattle.trace_summary.specs.declared.stretch.Stretch.{Stretch}
use Rattle.trace_summary.specs.declared.hold.Hold.{Hold}
use Rattle.trace_summary.specs.declared.usage.ObjectKind.{ObjectKind}
use Rattle.trace_summary.specs.declared.usage.ObjectKind.TheVariants as kinds
use Rattle.trace_summary.specs.declared.usage.Usage.{Usage}

-- ---- the longest times
-- what it waited for
wait_within : (o : Option Awaited) → depth (wait_data o) ≤ 1
wait_within None = omega arith
wait_within (Some object) = object_within _ 0 (member_within _ _ _ _ (maybe_within 0 (awaited_id object)) (member_within _ _ _ _ (omega arith) (omega arith)))

stretch_within : (o : Option Stretch) → depth (stretch_data o) ≤ 1
stretch_within None = omega arith
stretch_within (Some s) = object_within _ 0 (member_within _ _ _ _ (omega arith) (member_within _ _ _ _ (omega arith) (omega arith)))

-- ---- tasks
task_within : (all : ℕ) (t : TaskSummary) → depth (task_data all t) ≤ 2
task_within all t =
    object_within _ 1 (member_within _ _ _ _ (stretch_within t.times.inherited) (member_within _ _ _ _ (omega arith) (member_within _ _ _ _ (stretch_within t.times.ready) (member_within _ _ _ _ (wait_within (object_in t.times.wait)) (member_within _ _ _ _ (stretch_within t.times.wait) (member_within _ _ _ _ (omega arith) (member_within _ _ _ _ (omega arith) (member_within _ _ _ _ (omega arith) (member_within _ _ _ _ (omega arith) (member_within _ _ _ _ (omega arith) (member_within _ _ _ _ (omega arith) (member_within _ _ _ _ (omega arith) (member_within _ _ _ _ (omega arith) (omega arith))))))))))))))

-- ---- objects
hold_within : (o : Option Hold) → depth (hold_data o) ≤ 1
hold_within None = omega arith
hold_within (Some h) = object_within _ 0 (member_within _ _ _ _ (omega arith) (member_within _ _ _ _ (omega arith) (omega arith)))

kind_within : (kind : ObjectKind) (u : Usage) → depth (object_of (move_members u ++ hold_members kind u.longest)) ≤ 2
kind_within kinds.Mutex u =
    object_within _ 1 (member_within _ _ _ _ (maybe_within 1 (holder u.longest)) (member_within _ _ _ _ (hold_within u.longest) (member_within _ _ _ _ (omega arith) (member_within _ _ _ _ (omega arith) (member_within _ _ _ _ (omega arith) (member_within _ _ _ _ (omega arith) (member_within _ _ _ _ (omega arith) (omega arith))))))))
kind_within kinds.Queue u =
    object_within _ 1 (member_within _ _ _ _ (omega arith) (member_within _ _ _ _ (omega arith) (member_within _ _ _ _ (omega arith) (member_within _ _ _ _ (omega arith) (member_within _ _ _ _ (omega arith) (omega arith))))))
kind_within kinds.Slot u =
    object_within _ 1 (member_within _ _ _ _ (omega arith) (member_within _ _ _ _ (omega arith) (member_within _ _ _ _ (omega arith) (member_within _ _ _ _ (omega arith) (member_within _ _ _ _ (omega arith) (omega arith))))))

usage_within : (u : Usage) → depth (usage_data u) ≤ 2
usage_within u = kind_within u.object.kind u

-- four levels deep
summary_within : (s : SummaryState) → depth (summary_data s) ≤ 4
summary_within s =
    object_within _ 3 (member_within _ _ _ _ (list_within 2 usage_data s.uses usage_within) (member_within _ _ _ _ (list_within 2 (task_data s.steps) s.tasks (task_within s.steps)) (member_within _ _ _ _ (omega arith) (member_within _ _ _ _ (omega arith) (member_within _ _ _ _ (omega arith) (member_within _ _ _ _ (omega arith) (member_within _ _ _ _ (omega arith) (omega arith))))))))

-- so it can be read back
pub is_shallow : (d : Data) (s : SummaryState) → d ≡ summary_data s → depth d ≤ max_depth
is_shallow d s is = let P : Data → Type 0 = λ x. depth x ≤ max_depth in let low = summary_within s in subst P (sym is) (omega (arith, low))
