use Rattle.std.proofs.Common.{[]}
use Rattle.trace_coverage.proofs.coverage.Coverage.new.Goals as goal

pub returns : goal.returns
returns c = c.in_ok-follow.ensures [] (record { live = []; gone = [] }) (record { live = c.new-live.ensures.items; gone = c.new-gone.ensures.items })
