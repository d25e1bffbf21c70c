use Rattle.std.proofs.Common.{ap, ◌∙◌}
use Rattle.board_trace.specs.Views.{SnapshotState}
use Rattle.trace_session.proofs.charter.Charter.new.Goals as goal

pub opening-requires-clause-tasks : goal.opening-requires-clause-tasks
opening-requires-clause-tasks g c = c.deref.ensures.value ∙ ap (λ (v : SnapshotState). v.tasks) c.in_ok-reader.ensures

pub opening_text-requires-clause-tasks : goal.opening_text-requires-clause-tasks
opening_text-requires-clause-tasks g c = c.deref-2.ensures.value ∙ ap (λ (v : SnapshotState). v.tasks) c.in_ok-reader.ensures

pub opening_text-requires-clause-queues : goal.opening_text-requires-clause-queues
opening_text-requires-clause-queues g c = c.deref-3.ensures.value ∙ c.in_ok-queues.ensures
