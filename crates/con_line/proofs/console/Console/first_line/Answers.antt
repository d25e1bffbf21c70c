use Rattle.std.proofs.Common.{arith}
use Rattle.con_line.specs.State.{console_of}
use Rattle.con_line.proofs.Endings.{line_within}
use Rattle.con_line.proofs.Kept.{first_short}
use Rattle.con_line.proofs.console.Console.first_line.Goals as goal

pub slice_bounds-copy_first-end : goal.slice_bounds-copy_first-end
slice_bounds-copy_first-end c = omega (arith, line_within 0 c.self.inside.finished c.self.invariant.lines, c.first_len-len.ensures.exact)

pub returns-clause-short : goal.returns-clause-short
returns-clause-short c =
    rw (← c.self.view_is) (first_short (console_of c.self.inside.edited.items c.self.inside.after_return c.self.inside.finished) c.self.invariant.lines)
