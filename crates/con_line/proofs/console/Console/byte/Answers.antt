use Rattle.std.proofs.Common.{subst, sym}
use Rattle.con_line.specs.State.{console_of}
use Rattle.con_line.specs.Keys.{after_key, key_of}
use Rattle.con_line.specs.Laws.{Keeps}
use Rattle.con_line.proofs.Kept.{key_keeps, text_key}
use Rattle.con_line.proofs.console.Console.byte.Goals as goal

pub invariant_of-self : goal.invariant_of-self
invariant_of-self c =
    let old = console_of c.self.inside.edited.items c.self.inside.after_return c.self.inside.finished in
    let kept : Keeps (after_key c.key_of.result old c.args.byte) =
    rw c.key_of.ensures (key_keeps (key_of c.args.byte) old c.args.byte (text_key c.args.byte) c.self.invariant) in
    subst Keeps (sym c.press-done.ensures.after) kept
