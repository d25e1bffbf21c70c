use Rattle.std.proofs.Common.{◌≡◌, ◌++◌, drop}
use Rattle.board_changes.specs.Modules.{unloads}
use Rattle.board_changes.proofs.modules.add_unloads.Given as goal

abbrev pub invariant-loop-id : goal.invariant-loop-id
invariant-loop-id l =
    l.list.items ++ unloads l.after (drop l.id-index l.before) ≡ l.initial.list.items ++ unloads l.after l.before
