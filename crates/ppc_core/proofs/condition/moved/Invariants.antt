use Rattle.std.proofs.Common.{◌≡◌}
use Rattle.ppc_core.specs.Conditions.{moved_fields}
use Rattle.ppc_core.proofs.condition.moved.Given as goal

abbrev pub invariant-loop-k : goal.invariant-loop-k
invariant-loop-k l = l.made ≡ moved_fields l.fn.cr l.fn.s l.insn.word l.k
