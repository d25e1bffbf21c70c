use Rattle.std.proofs.Common.{◌≡◌, [], drop}
use Rattle.trace_summary.specs.Adding.{with_opening}
use Rattle.trace_summary.proofs.tally.Tally.new.Given as goal

abbrev pub invariant-loop-view : goal.invariant-loop-view
invariant-loop-view l = with_opening (drop l.view-index l.views) l.tasks.items ≡ with_opening l.views []
