use Rattle.board_changes.proofs.Running.{one_runs}
use Rattle.board_changes.proofs.Tiling.{tiles}
use Rattle.board_changes.proofs.laws.spans_law.Goals as goal

pub returns-clause-tiles : goal.returns-clause-tiles
returns-clause-tiles c = tiles

pub returns-clause-one : goal.returns-clause-one
returns-clause-one c = one_runs
