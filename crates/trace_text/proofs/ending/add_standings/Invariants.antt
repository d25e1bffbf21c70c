use Rattle.std.proofs.Common.{◌≡◌, ◌++◌, drop}
use Rattle.trace_text.specs.Ending.{standings}
use Rattle.trace_text.proofs.ending.add_standings.Given as goal

abbrev pub invariant-loop-view : goal.invariant-loop-view
invariant-loop-view l =
    l.text.items ++ standings (drop l.view-index l.views) ≡ l.initial.text.items ++ standings l.views
