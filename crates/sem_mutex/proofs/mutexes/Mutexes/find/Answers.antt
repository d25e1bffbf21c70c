use Rattle.std.proofs.Common.{ap, ◌∙◌}
use Rattle.inheritance.specs.Mutexes.{LiveMutexes}
use Rattle.sem_mutex.specs.Calls.{live_mutex}
use Rattle.sem_mutex.proofs.Answering.{found_live}
use Rattle.sem_mutex.proofs.mutexes.Mutexes.find.Goals as goal

pub returns : goal.returns
returns c = found_live c.self.inside.table.rows c.args.id c.find.result c.find.ensures ∙ ap (λ (live : LiveMutexes). live_mutex live.rows c.args.id) c.self.view_is
