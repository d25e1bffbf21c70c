use Rattle.std.proofs.Common.{◌≤◌, length, rules}
use Rattle.board_bus.proofs.Slotted.{none_there}
use Rattle.board_bus.proofs.slots.remove.Goals as goal

pub returns-then-i-len-clause-slots : goal.returns-then-i-len-clause-slots
returns-then-i-len-clause-slots g c = let past : length c.args.slots.now.items ≤ c.args.i = search rules in none_there _ _ _ past
