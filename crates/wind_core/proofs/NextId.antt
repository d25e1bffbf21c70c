-- The next id stays over a move of a task and over a tick.
use Rattle.std.proofs.Common.{◌≡◌, ℕ, ◌+◌, true, false, cond, eqb, List, [], ◌∷◌, Option, None, Some, is_some, refl, ◌∙◌}
use Rattle.std.specs.List.{fold}
use Rattle.wind_base.specs.declared.errno.Errno.{Errno}
use Rattle.task_block.specs.declared.task.Task.{Task}
use Rattle.wind_core.specs.State.{KernState, task_of}
use Rattle.wind_core.specs.Orders.{due, running}
use Rattle.wind_core.specs.Moves.{move_found, move_task, answered, end_wait, end_waits}
use Rattle.wind_core.specs.Tick.{count_found_slice, count_slice_of, count_slice, late_answer, late_errno, time_out, tick_counted, tick}

-- ---- a move
pub next-move : (k : KernState) (who : ℕ) (f : Task → Task) → (move_task k who f).next_id ≡ k.next_id
next-move k who f = elim (task_of k.tasks who) as (λ o. (move_found k who f o).next_id ≡ k.next_id) [ None ↦ refl | Some t ↦ refl ]

pub next-end_waits : (k : KernState) (ts : List Task) (answer : ℕ) (errno : Option Errno) → (end_waits k ts answer errno).next_id ≡ k.next_id
next-end_waits k [] answer errno = refl
next-end_waits k (t ∷ ts) answer errno = next-end_waits (end_wait k t.id answer errno) ts answer errno ∙ next-move k t.id (answered answer errno)

-- ---- a tick
next-count_slice_of : (k : KernState) (o : Option Task) → (count_slice_of k o).next_id ≡ k.next_id
next-count_slice_of k None = refl
next-count_slice_of k (Some t) = elim (eqb t.locks 0) as (λ b. (cond b (count_found_slice k t) k).next_id ≡ k.next_id) [ true ↦ refl | false ↦ refl ]

next-count_slice : (k : KernState) → (count_slice k).next_id ≡ k.next_id
next-count_slice k = elim (eqb k.slice 0) as (λ b. (cond b k (count_slice_of k (running k))).next_id ≡ k.next_id) [ true ↦ refl | false ↦ next-count_slice_of k (running k) ]

next-time_outs : (k : KernState) (ts : List Task) → (fold time_out k ts).next_id ≡ k.next_id
next-time_outs k [] = refl
next-time_outs k (t ∷ ts) = next-time_outs (time_out k t) ts ∙ next-move k t.id (answered (late_answer (is_some t.wait)) (late_errno (is_some t.wait)))

pub next-tick : (k : KernState) → (tick k).next_id ≡ k.next_id
next-tick k = let turned = count_slice (tick_counted k) in next-time_outs turned (due turned.tasks (k.tick + 1)) ∙ next-count_slice (tick_counted k)
