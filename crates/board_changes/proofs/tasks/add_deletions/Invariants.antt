use Rattle.std.proofs.Common.{◌≡◌, ◌++◌, drop}
use Rattle.board_changes.specs.Tasks.{deletions}
use Rattle.board_changes.specs.Views.{task_id}
use Rattle.board_changes.specs.Walks.{HasPassed}
use Rattle.board_changes.proofs.tasks.add_deletions.Given as goal

abbrev pub invariant-loop-view : goal.invariant-loop-view
invariant-loop-view l =
    (l.list.items ++ deletions l.views.after.now (drop l.view-index l.views.before.now) ≡ l.initial.list.items ++ deletions l.views.after.now l.views.before.now)
    × HasPassed task_id l.views.after.now l.walk.place l.walk.bound
