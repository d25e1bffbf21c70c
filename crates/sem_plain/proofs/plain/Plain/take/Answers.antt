use Rattle.sem_plain.specs.State.{both}
use Rattle.sem_plain.proofs.Coding.{starved_take}
use Rattle.sem_plain.proofs.plain.Plain.take.Goals as goal

pub returns-in-Starved-clause-state : goal.returns-in-Starved-clause-state
returns-in-Starved-clause-state c =
    starved_take (both c.args.kern.now c.args.self.now) c.args.caller c.args.id c.in-Starved.at c.args.timeout c.wait.new.kern c.in-Starved.ensures c.wait.ensures
