use Rattle.std.proofs.Common.{take}
use Rattle.std.specs.List.{flat_map}
use Rattle.trace_text.specs.Forms.{Gained}
use Rattle.trace_json.specs.Chrome.{AreMembers}
use Rattle.trace_session.specs.Counters.{deleted_objects}
use Rattle.trace_session.proofs.counters.add_deleted.Given as goal

-- the first queues have their counters
abbrev pub invariant-loop-count : goal.invariant-loop-count
invariant-loop-count l = Gained (AreMembers (flat_map (deleted_objects l.time l.after) (take l.count-index l.before))) l.fn.text.items l.text.items
