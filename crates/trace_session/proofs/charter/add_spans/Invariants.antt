use Rattle.std.proofs.Common.{take}
use Rattle.std.specs.List.{flat_map}
use Rattle.trace_text.specs.Forms.{Gained}
use Rattle.trace_json.specs.Chrome.{AreMembers}
use Rattle.trace_session.specs.Choice.{choice_state}
use Rattle.trace_session.specs.Chrome.{span_objects}
use Rattle.trace_session.proofs.charter.add_spans.Given as goal

-- the first spans have their objects
abbrev pub invariant-loop-span : goal.invariant-loop-span
invariant-loop-span l = Gained (AreMembers (flat_map (span_objects (choice_state l.choice)) (take l.span-index l.spans))) l.fn.text.items l.text.items
