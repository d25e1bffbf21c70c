use Rattle.std.proofs.Common.{arith}
use Rattle.id_table.specs.Rows.{object_of}
use Rattle.inheritance.specs.Mutexes.{both}
use Rattle.sem_mutex.proofs.Answering.{few_safe, few_held, next_lives, handed_lives, passed_is}
use Rattle.sem_mutex.proofs.mutexes.Mutexes.pass_on.Goals as goal

pub hand-requires-clause-live : goal.hand-requires-clause-live
hand-requires-clause-live c = next_lives c.args.k.now c.args.id c.in-Some.next c.facts.ensures c.in-Some.ensures

pub hand-requires-clause-held : goal.hand-requires-clause-held
hand-requires-clause-held c =
    omega (arith, few_held (both c.args.k.now c.args.self.now) c.in-Some.next c.facts-2.ensures c.requires.kept)

pub hand-requires-clause-safe : goal.hand-requires-clause-safe
hand-requires-clause-safe c = omega (arith, few_safe c.args.k.now c.in-Some.next c.requires.safe)

pub end_wait-requires-clause-live : goal.end_wait-requires-clause-live
end_wait-requires-clause-live c =
    handed_lives (both c.args.k.now c.args.self.now) (both c.hand.new.k c.hand.new.self) c.in-Some.next c.args.id (object_of c.args.self.now.rows c.args.id) c.hand.ensures
    (next_lives c.args.k.now c.args.id c.in-Some.next c.facts.ensures c.in-Some.ensures)

pub returns : goal.returns
returns c =
    passed_is (both c.args.k.now c.args.self.now) (both c.hand.new.k c.hand.new.self) c.args.id c.in-Some.next c.end_wait.new.self (object_of c.args.self.now.rows c.args.id) c.facts.ensures c.requires.there c.in-Some.ensures
    c.hand.ensures c.end_wait.ensures
