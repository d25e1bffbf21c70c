use Rattle.std.proofs.Common.{length}
use Rattle.ppc_text.proofs.making.+limits_from.Given as goal

abbrev pub decreases-limits_from : goal.decreases-limits_from
decreases-limits_from l = length l.parts.now
