use Rattle.std.proofs.Common.{◌≡◌, Some, subst}
use Rattle.id_table.specs.Rows.{object_of}
use Rattle.sem_plain.specs.State.{both}
use Rattle.sem_plain.proofs.Coding.{passed_lives, counted_rises}
use Rattle.sem_plain.proofs.plain.Plain.give.Goals as goal

pub end_wait-requires-clause-live : goal.end_wait-requires-clause-live
end_wait-requires-clause-live c = passed_lives (both c.args.kern.now c.args.self.now) c.args.id c.in-PassedOn.who c.facts.ensures c.in-PassedOn.ensures

pub count_up-requires : goal.count_up-requires
count_up-requires c =
    counted_rises (both c.args.kern.now c.args.self.now) c.args.id c.in-Counted.at c.object_mut.result.now c.in-Counted.ensures
    (subst (λ rs. object_of rs c.in-Counted.at ≡ Some c.object_mut.result.now) c.self.view_is c.object_mut.ensures.value)
