use Rattle.std.proofs.Common.{take}
use Rattle.std.specs.List.{flat_map}
use Rattle.board_trace.specs.Views.{snapshot_state}
use Rattle.trace_text.specs.Forms.{Gained}
use Rattle.trace_json.specs.Chrome.{AreMembers}
use Rattle.trace_session.specs.Choice.{choice_state}
use Rattle.trace_session.specs.Chrome.{line_objects}
use Rattle.trace_session.specs.Steps.{line_of}
use Rattle.trace_session.proofs.charter.add_lines.Given as goal

-- the first happenings have their objects
abbrev pub invariant-loop-happening : goal.invariant-loop-happening
invariant-loop-happening l =
    Gained (AreMembers (flat_map (λ h. line_objects (choice_state l.choice) (line_of l.before_step (snapshot_state l.before) (snapshot_state l.after) h)) (take l.happening-index l.list))) l.fn.text.items l.text.items
