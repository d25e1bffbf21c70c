use Rattle.id_table.specs.Rows.{ids}
use Rattle.debug_view.proofs.Told.{Left}
use Rattle.debug_view.proofs.modules.are_loaded.Given as goal

-- the ids so far are those of the first modules
abbrev pub invariant-loop-id : goal.invariant-loop-id
invariant-loop-id l = Left (ids l.modules.rows) l.told l.id-index l.last
