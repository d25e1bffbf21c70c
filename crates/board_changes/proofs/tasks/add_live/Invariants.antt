use Rattle.std.proofs.Common.{◌≡◌, ◌++◌, drop}
use Rattle.board_changes.specs.Tasks.{live_changes}
use Rattle.board_changes.specs.Views.{task_id}
use Rattle.board_changes.specs.Walks.{HasPassed}
use Rattle.board_changes.proofs.tasks.add_live.Given as goal

abbrev pub invariant-loop-view : goal.invariant-loop-view
invariant-loop-view l =
    (l.list.items ++ live_changes l.results l.views.before.now (drop l.view-index l.views.after.now) ≡ l.initial.list.items ++ live_changes l.results l.views.before.now l.views.after.now)
    × HasPassed task_id l.views.before.now l.walk.place l.walk.bound
