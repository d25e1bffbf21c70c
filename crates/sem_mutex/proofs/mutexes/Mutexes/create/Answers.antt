use Rattle.std.proofs.Common.{None, sym, subst}
use Rattle.id_table.specs.Rows.{IdsBelow}
use Rattle.inheritance.specs.Mutexes.{LiveMutexes, both}
use Rattle.sem_mutex.proofs.Making.{below_next, is_made}
use Rattle.sem_mutex.proofs.mutexes.Mutexes.create.Goals as goal

pub create_in-requires-clause-below : goal.create_in-requires-clause-below
create_in-requires-clause-below c = subst (λ (live : LiveMutexes). IdsBelow c.args.k.now.next_id live.rows) (sym c.self.view_is) (below_next (both c.args.k.now c.args.self.now) c.requires.kept)

pub returns : goal.returns
returns c =
    let made = is_made c.args.k.now c.create_in.new.self c.self.inside.table c.create_in.new.table c.args.self.now c.self.inside.profile c.args.options
    (record { by_priority = c.is_priority.result; delete_safe = c.is_delete_safe.result; inversion_safe = c.is_inversion_safe.result; owner = None; depth = 0 })
    (λ i. record { by_priority = c.is_priority.ensures i; delete_safe = c.is_delete_safe.ensures i; inversion_safe = c.is_inversion_safe.ensures i; owner = None; depth = 0 })
    c.self.invariant c.requires.options c.requires.kept c.self.view_is c.create_in.result c.create_in.ensures.ok c.create_in.ensures.err in
    record { ok = made.ok; err = made.err; kept = made.keeps }
