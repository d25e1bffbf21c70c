use Rattle.std.proofs.Common.{[], ap, ◌∙◌}
use Rattle.board_trace.specs.Views.{SnapshotState}
use Rattle.trace_summary.specs.Summaries.{tally_of}
use Rattle.trace_session.proofs.counter.Counter.new.Goals as goal

pub returns-clause-tally : goal.returns-clause-tally
returns-clause-tally g c = c.in_ok-tally.ensures ∙ ap (λ views. tally_of views []) (c.deref.ensures.value ∙ ap (λ (v : SnapshotState). v.tasks) c.in_ok-reader.ensures)
