use Rattle.std.proofs.Common.{◌≡◌, ℕ, List, [], ◌∷◌, map, refl, ap, ap₂, ◌∙◌}
use Rattle.std.specs.Prelude.{◌==◌, ◌||◌, ◌&&◌, not}
use Rattle.board_trace.specs.Runs.{Line}
use Rattle.trace_summary.specs.Summaries.{Known, summary_of_task, tasks_in}
use Rattle.trace_summary.specs.TasksLaws.{are_single, has_row}
use Rattle.trace_summary.specs.Times.{SpanLists}
use Rattle.trace_summary.proofs.Distinct.{are_known, known_in}
use Rattle.trace_summary.proofs.Tasks.{among_tasks, is_among}
use Rattle.trace_summary.proofs.laws.tasks_law.Goals as goal

module _ (lines : List Line) (spans : SpanLists) where
  has_known : (id : ℕ) (ts : List Known) → has_row id (map (summary_of_task lines spans) ts) ≡ is_among id ts
  has_known id [] = refl
  has_known id (t ∷ ts) = ap (λ b. (t.id == id) || b) (has_known id ts)

  single_known : (ts : List Known) → are_single (map (summary_of_task lines spans) ts) ≡ are_known ts
  single_known [] = refl
  single_known (t ∷ ts) = ap₂ (λ a b. not a && b) (has_known t.id ts) (single_known ts)

pub returns : goal.returns
returns c = record {
  rows = λ views lines spans time steps id. has_known lines spans id (tasks_in views lines) ∙ among_tasks id views lines;
  single = λ views lines spans time steps. single_known lines spans (tasks_in views lines) ∙ known_in views lines;
}
