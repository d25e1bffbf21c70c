use Rattle.std.proofs.Common.{◌≡◌, ◌++◌, drop}
use Rattle.board_changes.specs.Spans.{all_ended}
use Rattle.board_changes.proofs.spans.add_all_ended.Given as goal

abbrev pub invariant-loop-span : goal.invariant-loop-span
invariant-loop-span l =
    l.done.items ++ all_ended l.time (drop l.span-index l.going) ≡ l.initial.done.items ++ all_ended l.time l.going
