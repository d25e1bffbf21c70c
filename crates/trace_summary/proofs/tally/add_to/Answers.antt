use Rattle.std.proofs.Common.{List, ap, subst, ◌∙◌}
use Rattle.std.specs.Prelude.{slice_set}
use Rattle.id_table.specs.Records.{StandsAt}
use Rattle.trace_summary.specs.Adding.{tally_id}
use Rattle.trace_summary.specs.declared.tally.TaskTally.{TaskTally}
use Rattle.trace_summary.proofs.Distinct.{placed}
use Rattle.trace_summary.proofs.tally.add_to.Goals as goal

-- the numbers of the task at this place
pub returns-in-Some : goal.returns-in-Some
returns-in-Some c = λ distinct.
    let tasks = c.args.tasks.now.items in
    let place = c.in-Some.place in
    let stands = subst (λ (ts : List TaskTally). StandsAt tally_id ts c.args.id place) c.deref.ensures.value c.in-Some.ensures in
    ap (λ (t : TaskTally). slice_set tasks place t) c.add.ensures
    ∙ placed c.args.id c.args.name.now c.args.more c.index_mut.result.now tasks place stands c.index_mut.ensures.value distinct
