use Rattle.std.proofs.Common.{IsSome, sym, ap, ◌∙◌, subst}
use Rattle.id_table.specs.Rows.{object_of}
use Rattle.sem_mutex.specs.Calls.{give_deed}
use Rattle.sem_mutex.specs.Inside.{give_plan}
use Rattle.sem_mutex.proofs.Answering.{found, not_found}
use Rattle.sem_mutex.proofs.mutexes.Mutexes.plan_give.Goals as goal

pub mutex-requires : goal.mutex-requires
mutex-requires c =
    let f = found c.args.self.now.rows c.args.id c.in-Some.at c.in-Some.ensures in
    subst (λ j. IsSome (object_of c.args.self.now.rows j)) (sym f.same) f.there

pub returns-in_default : goal.returns-in_default
returns-in_default c = ap (λ o. give_plan c.args.id (give_deed c.args.caller o)) (sym (not_found c.args.self.now.rows c.args.id c.in_default.ensures))

pub returns : goal.returns
returns c =
    let f = found c.args.self.now.rows c.args.id c.in-Some.at c.in-Some.ensures in
    c.give_plan.ensures ∙ ap (λ o. give_plan c.in-Some.at (give_deed c.args.caller o)) (sym c.mutex.ensures)
    ∙ ap (λ j. give_plan j (give_deed c.args.caller (object_of c.args.self.now.rows j))) f.same
