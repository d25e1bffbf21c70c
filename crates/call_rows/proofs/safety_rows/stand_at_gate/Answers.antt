use Rattle.std.proofs.Common.{sym, ◌∙◌}
use Rattle.call_rows.proofs.Taking.{at_gate, nobody_at_gate}
use Rattle.call_rows.proofs.safety_rows.stand_at_gate.Goals as goal

pub returns-in_default : goal.returns-in_default
returns-in_default c = nobody_at_gate c.args.board c.args.kern.now c.args.who (sym c.in_default.ensures)

pub returns : goal.returns
returns c =
    let t = c.in-Some.task.now in
    c.set_regs.ensures ∙ at_gate c.args.board c.args.kern.now c.args.who t _ c.facts.ensures (sym c.in-Some.ensures) c.at_deletion-regs.ensures
