-- Where no task is ready, nobody runs.
use Rattle.std.proofs.Common.{◌≡◌, ℕ, true, false, cond, eqb, length, List, [], ◌∷◌, Option, None, Some, refl, sym, ap, ◌∙◌, arith}
use Rattle.std.specs.List.{filter}
use Rattle.std.specs.Prelude.{◌&&◌, nat_lt}
use Rattle.std.proofs.lemmas.List.{nil_from_length, length-map}
use Rattle.task_block.specs.declared.task.Task.{Task}
use Rattle.task_block.specs.Standing.{is_ready}
use Rattle.id_table.specs.Sorting.{first, in_line}
use Rattle.id_table.proofs.Sorting.{length-sorted}
use Rattle.wind_core.specs.State.{KernState, task_of}
use Rattle.wind_core.specs.Orders.{is_before, keeper, last_task, most_urgent, or_else, running}
use Rattle.wind_core.specs.Queues.{as_ready, ready_of}

not_ready : (ts : List Task) (id : ℕ) (t : Task) → task_of ts id ≡ Some t → length (filter is_ready ts) ≡ 0 → is_ready t ≡ false
not_ready [] id t found none = absurd (cc)
not_ready (x ∷ xs) id t found none =
    elim (is_ready x) as (λ b. is_ready x ≡ b → length (cond b (x ∷ filter is_ready xs) (filter is_ready xs)) ≡ 0 → is_ready t ≡ false) [
      | true ↦ λ e some. absurd (omega (arith, some))
      | false ↦ λ e fewer.
          elim (eqb x.id id) as (λ b. cond b (Some x) (task_of xs id) ≡ Some t → is_ready t ≡ false) [
            | true ↦ λ own. let same : x ≡ t = cc in ap is_ready (sym same) ∙ e
            | false ↦ λ later. not_ready xs id t later fewer
          ] found
    ] refl none

not_kept : (ts : List Task) (last : Option ℕ) → length (filter is_ready ts) ≡ 0 → keeper (last_task ts last) ≡ None
not_kept ts None none = refl
not_kept ts (Some id) none = by_task (task_of ts id) refl where
  by_task : (o : Option Task) → task_of ts id ≡ o → keeper o ≡ None
  by_task None e = refl
  by_task (Some t) e = ap (λ b. cond (b && nat_lt 0 t.locks) (Some t) None) (not_ready ts id t e none)

pub nobody_runs : (k : KernState) → length (ready_of k.tasks) ≡ 0 → running k ≡ None
nobody_runs k none =
    let line : length (in_line is_before is_ready k.tasks) ≡ 0 = sym (length-map (in_line is_before is_ready k.tasks) as_ready) ∙ none in
    let few : length (filter is_ready k.tasks) ≡ 0 = sym (length-sorted is_before (filter is_ready k.tasks)) ∙ line in
    ap (λ o. or_else o (most_urgent k.tasks)) (not_kept k.tasks k.last few)
    ∙ ap first (nil_from_length (in_line is_before is_ready k.tasks) line)
