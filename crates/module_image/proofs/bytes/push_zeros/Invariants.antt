use Rattle.std.proofs.Common.{◌≡◌, ◌++◌, replicate}
use Rattle.module_image.proofs.bytes.push_zeros.Given as goal

abbrev pub invariant-loop-i : goal.invariant-loop-i
invariant-loop-i l = l.out.items ≡ l.fn.out.items ++ replicate l.i 0
