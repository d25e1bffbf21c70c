use Rattle.kernel_calls.proofs.Standing.{stood}
use Rattle.kernel_calls.proofs.calls.stand_again.Goals as goal

pub returns-in-Task-clause-world : goal.returns-in-Task-clause-world
returns-in-Task-clause-world g c = stood _ c.args.who.now c.in-Task.id c.regs_of.result.now c.args.pc c.in-Task.is c.facts.ensures c.regs_of.ensures.value
