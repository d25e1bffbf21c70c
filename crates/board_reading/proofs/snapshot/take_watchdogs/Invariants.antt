use Rattle.std.proofs.Common.{◌≡◌, ◌++◌, drop, map}
use Rattle.id_table.specs.Rows.{objects}
use Rattle.board_changes.specs.Views.{view_of_watchdog}
use Rattle.board_reading.proofs.snapshot.take_watchdogs.Given as goal

abbrev pub invariant-loop-place : goal.invariant-loop-place
invariant-loop-place l = l.views.items ++ map view_of_watchdog (drop l.place (objects l.watchdogs.rows)) ≡ map view_of_watchdog (objects l.watchdogs.rows)
