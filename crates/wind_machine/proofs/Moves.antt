-- The moves of the shell's task that are the machine's own, and a tick.
use Rattle.std.proofs.Common.{◌≡◌, ℕ, ◌+◌, true, false, cond, eqb, List, [], ◌∷◌, Option, None, Some, is_some, refl, ◌∙◌, arith}
use Rattle.std.specs.List.{fold}
use Rattle.task_block.specs.declared.task.Task.{Task}
use Rattle.wind_core.specs.State.{KernState, IsKern, task_of}
use Rattle.wind_core.specs.Orders.{running, due}
use Rattle.wind_core.specs.Moves.{renewed, move_found, move_task, wake_at, pended, release, answered}
use Rattle.wind_core.specs.Tick.{count_found_slice, count_slice_of, count_slice, late_answer, late_errno, time_out, tick_counted, tick}
use Rattle.wind_core.specs.Move.{Pend, Release, Reset}
use Rattle.wind_core.proofs.Ids.{ids-change, ids-tick}
use Rattle.wind_core.proofs.Moving.{move_keeps}
use Rattle.wind_core.proofs.Stable.{renew_task-stable, tick-stable}
use Rattle.wind_core.proofs.Unwritten.{map-renew, map-tick}
use Rattle.id_table.specs.Idents.{shell_id}
use Rattle.live_loading.specs.KernelWorldKept.{stack_of, HasCounts, CountsWithin, ReservedBy, task_stacks}
use Rattle.live_loading.proofs.KernelWorldGoes.{Goes, goes_nowhere, goes_on, goes_further, goes-move, reserved_by}
use Rattle.wind_machine.specs.Task.{shell_task, console_place, is_held, listening, let_go, aborted}

-- ---- the shell's task
pub goes-listening : (k : KernState) (n : ℕ) → IsKern k → CountsWithin n k → Goes k (listening k) n 1
goes-listening k n is within =
    let f : Task → Task = pended console_place false (wake_at 3 k.tick 4294967295) in
    record {
      kern = move_keeps k (Pend shell_id console_place false 4294967295) is (omega arith);
      alone = ids-change k.tasks shell_id (λ t. renewed k.next_since (f t)) (λ t. refl);
      stacks = map-renew stack_of (λ since t. refl) k shell_id f (λ t. refl);
      lent = refl;
      last = refl;
      reserves = map-renew (λ (t : Task). t.regs.reserve) (λ since t. refl) k shell_id f (λ t. refl);
      counts = renew_task-stable (HasCounts n) (λ since t h. h) k shell_id f (λ t h. h) within;
      sinces = omega arith;
      count = refl;
      next = omega arith;
    }

pub goes-let_go : (k : KernState) (n : ℕ) → IsKern k → CountsWithin n k → Goes k (let_go k) n 1
goes-let_go k n is within =
    elim (is_held (shell_task k)) as (λ b. Goes k (cond b (release k shell_id) k) n 1) [
      | true ↦ goes-move k n is within (Release shell_id) tt
      | false ↦ goes_further k k n n 0 1 (omega arith) (omega arith) (goes_nowhere k n is within)
    ]

pub goes-aborted : (k : KernState) (n : ℕ) → IsKern k → CountsWithin n k → Goes k (aborted k) n 2
goes-aborted k n is within =
    let a = goes-let_go k n is within in
    goes_on k (let_go k) (aborted k) n n 1 1 a (goes-move (let_go k) n a.kern a.counts (Reset shell_id) tt)

-- ---- a tick: the parts that it leaves, other than tasks, order numbers and the tick count
module _ {A : Type 0} (part : KernState → A) (apart : (k : KernState) (ts : List Task) (n : ℕ) → part (record k { tasks = ts; next_since = n }) ≡ part k) where
  apart-move : (k : KernState) (who : ℕ) (f : Task → Task) → part (move_task k who f) ≡ part k
  apart-move k who f = elim (task_of k.tasks who) as (λ o. part (move_found k who f o) ≡ part k) [ None ↦ refl | Some t ↦ apart k _ _ ]

  apart-count_slice_of : (k : KernState) (o : Option Task) → part (count_slice_of k o) ≡ part k
  apart-count_slice_of k None = refl
  apart-count_slice_of k (Some t) = elim (eqb t.locks 0) as (λ b. part (cond b (count_found_slice k t) k) ≡ part k) [ true ↦ apart k _ _ | false ↦ refl ]

  apart-count_slice : (k : KernState) → part (count_slice k) ≡ part k
  apart-count_slice k = elim (eqb k.slice 0) as (λ b. part (cond b k (count_slice_of k (running k))) ≡ part k) [ true ↦ refl | false ↦ apart-count_slice_of k (running k) ]

  apart-time_outs : (k : KernState) (ts : List Task) → part (fold time_out k ts) ≡ part k
  apart-time_outs k [] = refl
  apart-time_outs k (t ∷ ts) = apart-time_outs (time_out k t) ts ∙ apart-move k t.id (answered (late_answer (is_some t.wait)) (late_errno (is_some t.wait)))

  apart-tick : (k : KernState) → part (tick_counted k) ≡ part k → part (tick k) ≡ part k
  apart-tick k counted = apart-time_outs (count_slice (tick_counted k)) (due (count_slice (tick_counted k)).tasks (k.tick + 1)) ∙ apart-count_slice (tick_counted k) ∙ counted

pub lent-tick : (k : KernState) → (tick k).lent ≡ k.lent
lent-tick k = apart-tick (λ j. j.lent) (λ j ts n. refl) k refl

pub next-tick : (k : KernState) → (tick k).next_id ≡ k.next_id
next-tick k = apart-tick (λ j. j.next_id) (λ j ts n. refl) k refl

pub last-tick : (k : KernState) → (tick k).last ≡ k.last
last-tick k = apart-tick (λ j. j.last) (λ j ts n. refl) k refl

pub stacks-tick : (k : KernState) → task_stacks (tick k) ≡ task_stacks k
stacks-tick k = map-tick stack_of (λ n t. refl) (λ answer errno t. refl) (λ n t. refl) k

pub reserved-tick : (k : KernState) (who : Option ℕ) → ReservedBy who k → ReservedBy who (tick k)
reserved-tick k who h = reserved_by k.tasks (tick k).tasks who (ids-tick k) (map-tick (λ (t : Task). t.regs.reserve) (λ n t. refl) (λ answer errno t. refl) (λ n t. refl) k) h

pub counts-tick : (k : KernState) (n : ℕ) → CountsWithin n k → CountsWithin n (tick k)
counts-tick k n within = tick-stable (HasCounts n) (λ since t h. h) (λ answer errno t h. h) (λ turns t h. h) k within
