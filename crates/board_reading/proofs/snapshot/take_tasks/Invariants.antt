use Rattle.std.proofs.Common.{◌≡◌, ◌≤◌, length, map, take}
use Rattle.board_trace.specs.Snapshots.{view_in}
use Rattle.board_reading.proofs.snapshot.take_tasks.Given as goal

abbrev pub invariant-loop-place : goal.invariant-loop-place
invariant-loop-place l =
    (take l.place l.views.items ≡ map (view_in l.objects) (take l.place l.kern.tasks))
    × (l.place ≤ length l.views.items) × (length l.views.items ≤ length l.kern.tasks)
