use Rattle.board_trace.proofs.Observing.{parts_tile, run_one, run_tiles}
use Rattle.board_trace.proofs.laws.run_spans_law.Goals as goal

pub returns-clause-tiles : goal.returns-clause-tiles
returns-clause-tiles c said setup console ticks =
    run_tiles c.extend_law.ensures.time c.run_law.ensures said setup console ticks c.spans_law.ensures.tiles

pub returns-clause-one : goal.returns-clause-one
returns-clause-one c said setup console ticks =
    run_one c.extend_law.ensures.time c.run_law.ensures said setup console ticks c.spans_law.ensures.one

pub returns-clause-parts : goal.returns-clause-parts
returns-clause-parts c = parts_tile c.extend_law.ensures.time c.run_law.ensures c.spans_law.ensures.tiles
