use Rattle.std.proofs.Common.{Some, ap, ◌∙◌, arith}
use Rattle.wind_base.specs.declared.errno.Errno.TheVariants as errors
use Rattle.wind_base.specs.Limits.{error_word}
use Rattle.id_table.specs.Rows.{object_of}
use Rattle.id_table.specs.Rows as table
use Rattle.wind_core.specs.Moves.{wake_all}
use Rattle.inheritance.specs.declared.mutex.Mutex.{Mutex}
use Rattle.sem_mutex.specs.Calls.{its_owner_ended}
use Rattle.inheritance.specs.Mutexes.{LiveMutexes, both, mutex_place}
use Rattle.sem_mutex.proofs.Answering.{found, since_woken, deleted}
use Rattle.sem_mutex.proofs.mutexes.Mutexes.delete.Goals as goal

pub end_owner-requires-clause-since : goal.end_owner-requires-clause-since
end_owner-requires-clause-since c =
    omega (arith, since_woken c.args.k.now c.wake_all.new.self (mutex_place c.in_ok-id.id) error_word (Some errors.ObjDeleted) c.in_ok-id.ensures.kern c.wake_all.ensures, c.requires.since)

pub returns : goal.returns
returns c =
    let s = both c.args.k.now c.args.self.now in
    let f = found c.args.self.now.rows c.args.id c.in_ok-id.id c.in_ok-id.ensures.ok in
    let d = deleted s c.args.id c.wake_all.new.self c.end_owner.new.k (record { profile = c.self.inside.profile; rows = c.remove.new.self.rows }) c.in_ok-id.ensures.kern c.in_ok-id.ensures.mutexes c.requires.kept f.there
    (c.wake_all.ensures ∙ ap (λ i. wake_all c.args.k.now (mutex_place i) error_word (Some errors.ObjDeleted)) f.same)
    (c.end_owner.ensures ∙ ap (λ i. its_owner_ended c.args.self.now.profile c.wake_all.new.self (object_of c.args.self.now.rows i)) f.same)
    (ap (λ (live : LiveMutexes). live.profile) c.self.view_is)
    (ap (λ (t : table.Rows Mutex). t.rows) c.remove.ensures.rows ∙ ap (λ i. table.without c.self.inside.table.rows i) f.same ∙ ap (λ (live : LiveMutexes). table.without live.rows c.args.id) c.self.view_is) in
    record { ok = (d.fine, d.state); err = tt; kept = d.keeps }
