use Rattle.std.proofs.Common.{◌≡◌, ◌++◌, drop}
use Rattle.board_changes.specs.Modules.{loads}
use Rattle.board_changes.proofs.modules.add_loads.Given as goal

abbrev pub invariant-loop-id : goal.invariant-loop-id
invariant-loop-id l =
    l.list.items ++ loads l.before (drop l.id-index l.after) ≡ l.initial.list.items ++ loads l.before l.after
