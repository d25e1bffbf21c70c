use Rattle.std.proofs.Common.{◌≡◌, ◌++◌, drop}
use Rattle.board_changes.specs.Spans.{all_ends}
use Rattle.board_changes.specs.Views.{task_id}
use Rattle.board_changes.specs.Walks.{HasPassed}
use Rattle.board_changes.proofs.spans.add_ends.Given as goal

abbrev pub invariant-loop-span : goal.invariant-loop-span
invariant-loop-span l =
    (l.done.items ++ all_ends l.moment.views.now l.moment.runner l.moment.time (drop l.span-index l.going) ≡ l.initial.done.items ++ all_ends l.moment.views.now l.moment.runner l.moment.time l.going)
    × HasPassed task_id l.moment.views.now l.walk.place l.walk.bound
