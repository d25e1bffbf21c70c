use Rattle.std.proofs.Common.{◌≡◌, ◌++◌, drop, map}
use Rattle.board_changes.specs.Spans.{going_after, open_task}
use Rattle.board_changes.specs.Walks.{HasPassed}
use Rattle.board_changes.proofs.spans.collect_going.Given as goal

abbrev pub invariant-loop-view : goal.invariant-loop-view
invariant-loop-view l =
    (l.next.items ++ map (going_after l.going l.moment.time l.moment.runner) (drop l.view-index l.moment.views.now) ≡ map (going_after l.going l.moment.time l.moment.runner) l.moment.views.now)
    × HasPassed open_task l.going l.walk.place l.walk.bound
