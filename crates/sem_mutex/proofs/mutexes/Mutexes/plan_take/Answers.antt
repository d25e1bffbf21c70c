use Rattle.std.proofs.Common.{IsSome, sym, ap, ◌∙◌, subst}
use Rattle.id_table.specs.Rows.{object_of}
use Rattle.sem_mutex.specs.Calls.{take_deed}
use Rattle.sem_mutex.specs.Inside.{take_plan}
use Rattle.sem_mutex.proofs.Answering.{found, not_found}
use Rattle.sem_mutex.proofs.mutexes.Mutexes.plan_take.Goals as goal

pub mutex-requires : goal.mutex-requires
mutex-requires c =
    let f = found c.args.self.now.rows c.args.id c.in-Some.at c.in-Some.ensures in
    subst (λ j. IsSome (object_of c.args.self.now.rows j)) (sym f.same) f.there

pub returns-in_default : goal.returns-in_default
returns-in_default c = ap (λ o. take_plan c.args.id (take_deed c.args.caller c.args.timeout o)) (sym (not_found c.args.self.now.rows c.args.id c.in_default.ensures))

pub returns : goal.returns
returns c =
    let f = found c.args.self.now.rows c.args.id c.in-Some.at c.in-Some.ensures in
    c.take_plan.ensures ∙ ap (λ o. take_plan c.in-Some.at (take_deed c.args.caller c.args.timeout o)) (sym c.mutex.ensures)
    ∙ ap (λ j. take_plan j (take_deed c.args.caller c.args.timeout (object_of c.args.self.now.rows j))) f.same
