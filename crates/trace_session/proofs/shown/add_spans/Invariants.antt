use Rattle.std.proofs.Common.{◌≡◌, ◌++◌, take}
use Rattle.trace_session.specs.Choice.{choice_state}
use Rattle.trace_session.specs.Shown.{shown_areas}
use Rattle.trace_session.proofs.shown.add_spans.Given as goal

-- the areas of the first spans were added
abbrev pub invariant-loop-span : goal.invariant-loop-span
invariant-loop-span l = l.areas ≡ l.fn.areas ++ shown_areas (choice_state l.choice) (take l.span-index l.spans)
