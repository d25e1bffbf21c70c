use Rattle.std.proofs.Common.{◌≡◌, ℕ, Bool, false, if◌then◌else◌, List, [], ◌∷◌, ◌++◌, sym, ap, ◌∙◌}
use Rattle.std.specs.Prelude.{◌==◌}
use Rattle.std.specs.List.{list_any}
use Rattle.std.proofs.lemmas.List.{take_all}
use Rattle.std.proofs.lemmas.Result.{on_ok_weaker}
use Rattle.wind_base.specs.Limits.{longest_short_name}
use Rattle.trace_summary.specs.Adding.{none, with_task}
use Rattle.trace_summary.specs.declared.counts.TaskCounts.{TaskCounts}
use Rattle.trace_summary.specs.declared.tally.TaskTally.{TaskTally}
use Rattle.trace_summary.proofs.tally.add_task.Goals as goal

abbrev row : ℕ → List ℕ → TaskCounts → TaskTally
row id name counts = record { id = id; name = name; counts = counts }

-- it wasn't among them
added_new : (id : ℕ) (name cut : List ℕ) (counts : TaskCounts) (old : List TaskTally) (here : Bool) → here ≡ list_any (λ t. t.id == id) old → here ≡ false → cut ≡ name → counts ≡ none
    → old ++ row id cut counts ∷ [] ≡ with_task id name old
added_new id name cut counts old here is gone whole nothing =
    ap (λ n. old ++ row id n counts ∷ []) whole
    ∙ ap (λ c. old ++ row id name c ∷ []) nothing
    ∙ ap (λ b. if b then old else old ++ row id name none ∷ []) (sym gone ∙ is)

pub returns : goal.returns
returns c =
    let tasks = c.args.tasks.now.items in
    let here = c.has_task.ensures ∙ ap (list_any (λ (t : TaskTally). t.id == c.args.id)) c.deref.ensures.value in
    on_ok_weaker c.push.result
    (λ is. is ∙ added_new c.args.id c.args.name.now c.cut.result c.none.result tasks c.has_task.result here c.if-has_task.false (c.cut.ensures.value ∙ take_all longest_short_name c.args.name.now c.requires) c.none.ensures)
    c.push.ensures
