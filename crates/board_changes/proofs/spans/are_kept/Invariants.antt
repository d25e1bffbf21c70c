use Rattle.std.proofs.Common.{◌≡◌, drop}
use Rattle.board_changes.specs.Spans.{all_kept}
use Rattle.board_changes.proofs.spans.are_kept.Given as goal

abbrev pub invariant-loop-place : goal.invariant-loop-place
invariant-loop-place l =
    all_kept l.moment.runner l.last (drop l.place l.going) (drop l.place l.moment.views.now) ≡ all_kept l.moment.runner 0 l.going l.moment.views.now
