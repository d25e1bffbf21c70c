use Rattle.std.proofs.Common.{◌≡◌, drop}
use Rattle.board_changes.specs.Tasks.{all_quiet}
use Rattle.board_changes.proofs.tasks.are_quiet.Given as goal

abbrev pub invariant-loop-place : goal.invariant-loop-place
invariant-loop-place l =
    all_quiet l.last (drop l.place l.before) (drop l.place l.after) ≡ all_quiet 0 l.before l.after
