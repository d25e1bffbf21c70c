use Rattle.std.proofs.Common.{◌≡◌, ◌++◌, take}
use Rattle.std.specs.List.{flat_map}
use Rattle.sweep_run.specs.Outcomes.{standing_text}
use Rattle.sweep_run.proofs.outcome.add_standings.Given as goal

-- the tasks so far
abbrev pub invariant-loop-view : goal.invariant-loop-view
invariant-loop-view l = l.text.items ≡ l.initial.text.items ++ flat_map standing_text (take l.view-index l.views)
