use Rattle.std.proofs.Common.{◌≡◌, ◌++◌, ◌-◌}
use Rattle.std.specs.List.{flat_map}
use Rattle.text_show.specs.Modules.{module_row}
use Rattle.text_show.proofs.Above.{above}
use Rattle.text_show.proofs.modules.add_modules.Given as goal

abbrev pub invariant-loop-id : goal.invariant-loop-id
invariant-loop-id l = l.page.items ++ flat_map module_row (above l.last l.modules.rows) ≡ l.initial.page.items ++ flat_map module_row l.modules.rows

abbrev pub decreases-loop-id : goal.decreases-loop-id
decreases-loop-id l = 1048576 - l.last
