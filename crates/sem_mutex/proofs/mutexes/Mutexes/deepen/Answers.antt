use Rattle.std.proofs.Common.{ap, sym, ◌∙◌, arith}
use Rattle.id_table.specs.Rows.{object_of}
use Rattle.inheritance.specs.Mutexes.{LiveMutexes, both}
use Rattle.sem_mutex.proofs.Answering.{deep_for}
use Rattle.sem_mutex.proofs.mutexes.Mutexes.deepen.Goals as goal

pub guard-requires-clause-safe : goal.guard-requires-clause-safe
guard-requires-clause-safe c = omega (arith, c.requires.early.safe)

pub add_depth-requires : goal.add_depth-requires
add_depth-requires c =
    omega (arith, deep_for (both c.args.k.now c.args.self.now) c.args.who c.args.id c.object_mut.result.now c.requires.early (sym (ap (λ (live : LiveMutexes). object_of live.rows c.args.id) c.self.view_is) ∙ c.object_mut.ensures.value))
