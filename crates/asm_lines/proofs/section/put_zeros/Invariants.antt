use Rattle.std.proofs.Common.{◌≡◌, ◌++◌, replicate}
use Rattle.asm_lines.proofs.section.put_zeros.Given as goal

abbrev pub invariant-loop-i : goal.invariant-loop-i
invariant-loop-i l = l.out.items ≡ l.fn.out.items ++ replicate l._i 0
