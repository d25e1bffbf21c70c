use Rattle.wind_machine.proofs.SlotRuns.{interrupts}
use Rattle.wind_machine.proofs.laws.interrupt_law.Goals as goal

pub returns : goal.returns
returns c = interrupts
