use Rattle.std.proofs.Common.{ap, ◌∙◌}
use Rattle.std.proofs.lemmas.Result.{on_ok_weaker}
use Rattle.trace_summary.specs.Adding.{are_distinct}
use Rattle.trace_summary.specs.Noting.{noted}
use Rattle.trace_summary.specs.Summaries.{TallyState}
use Rattle.trace_summary.proofs.Distinct.{rows_distinct}
use Rattle.trace_summary.proofs.Noting.{noted_line}
use Rattle.trace_summary.proofs.tally.Tally.add.Goals as goal

pub returns : goal.returns
returns c =
    on_ok_weaker c.note.result
    (λ is views lines step old.
    is (ap (λ (t : TallyState). are_distinct t.tasks) old ∙ rows_distinct views lines)
    ∙ ap (noted c.args.time c.args.name.now c.args.happening.now) old ∙ noted_line views lines _)
    c.note.ensures
