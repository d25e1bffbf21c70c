use Rattle.std.proofs.Common.{◌≡◌, ◌++◌, drop}
use Rattle.board_changes.specs.Watchdogs.{gone_changes}
use Rattle.board_changes.specs.Views.{watchdog_id}
use Rattle.board_changes.specs.Walks.{HasPassed}
use Rattle.board_changes.proofs.watchdogs.add_ends.Given as goal

abbrev pub invariant-loop-view : goal.invariant-loop-view
invariant-loop-view l =
    (l.list.items ++ gone_changes l.tick l.views.after.now (drop l.view-index l.views.before.now) ≡ l.initial.list.items ++ gone_changes l.tick l.views.after.now l.views.before.now)
    × HasPassed watchdog_id l.views.after.now l.walk.place l.walk.bound
