use Rattle.std.proofs.Common.{◌≡◌, ℕ, List, [], ◌∷◌, map, refl, ap, ap₂, ◌∙◌}
use Rattle.board_trace.specs.Runs.{Line}
use Rattle.trace_summary.specs.Adding.{timed}
use Rattle.trace_summary.specs.Summaries.{Known, SummaryState, TallyState, summary_of_task, tally_of_task, tally_state, tasks_in}
use Rattle.trace_summary.specs.Times.{SpanLists}
use Rattle.trace_summary.specs.Usage.{closed}
use Rattle.trace_summary.specs.declared.summary.TaskSummary.{TaskSummary}
use Rattle.trace_summary.specs.declared.usage.Usage.{Usage}
use Rattle.trace_summary.proofs.tally.Tally.finish.Goals as goal

abbrev with_end : ℕ → ℕ → TallyState → List TaskSummary → List Usage → SummaryState
with_end time steps t tasks uses = record { time = time; steps = steps; ticks = t.ticks; calls = t.calls; idle = t.idle; tasks = tasks; uses = uses }

-- each task with its longest times
all_timed : (lines : List Line) (spans : SpanLists) (ts : List Known) → map (timed spans) (map (tally_of_task lines) ts) ≡ map (summary_of_task lines spans) ts
all_timed lines spans [] = refl
all_timed lines spans (t ∷ ts) = ap (λ rows. summary_of_task lines spans t ∷ rows) (all_timed lines spans ts)

pub returns : goal.returns
returns c =
    let tally = tally_state c.args.self.now in
    λ views lines spans is kept.
    ap (with_end c.args.time c.args.steps tally _) (c.in_ok-uses.ensures ∙ ap (map (closed c.args.time)) c.deref-2.ensures.value)
    ∙ ap₂ (λ (t : TallyState) (tasks : List TaskSummary). with_end c.args.time c.args.steps t tasks (map (closed c.args.time) t.uses)) is
    (c.in_ok-tasks.ensures spans kept
    ∙ ap (map (timed spans)) (c.deref.ensures.value ∙ ap (λ (t : TallyState). t.tasks) is)
    ∙ all_timed lines spans (tasks_in views lines))
