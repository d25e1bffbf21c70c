use Rattle.kernel_world.proofs.SemMutexAnswering.{early_for}
use Rattle.call_rows.specs.SemRows.{mutexes}
use Rattle.call_rows.proofs.sem_rows.take_mutex.Goals as goal

pub take-requires-clause-early : goal.take-requires-clause-early
take-requires-clause-early c = early_for (mutexes c.args.kern.now c.args.objects.now) c.args.who c.args.id c.requires.early
