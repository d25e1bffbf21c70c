use Rattle.con_line.specs.State.{console_of}
use Rattle.con_line.proofs.Kept.{drop_keeps}
use Rattle.con_line.proofs.console.Console.drop_line.Goals as goal

pub invariant_of-self : goal.invariant_of-self
invariant_of-self c =
    rw c.drop_first.ensures (drop_keeps (console_of c.self.inside.edited.items c.self.inside.after_return c.self.inside.finished) c.self.invariant)
