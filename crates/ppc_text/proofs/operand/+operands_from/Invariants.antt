use Rattle.std.proofs.Common.{length}
use Rattle.ppc_text.proofs.operand.+operands_from.Given as goal

abbrev pub decreases-operands_from : goal.decreases-operands_from
decreases-operands_from l = length l.parts.now
