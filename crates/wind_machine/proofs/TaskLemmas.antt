-- The shell's task lives on, and its steps hand out few order numbers.
use Rattle.std.proofs.Common.{◌≡◌, ℕ, ◌+◌, ◌≤◌, Bool, true, false, cond, None, Some, refl, ◌∙◌, arith}
use Rattle.task_block.specs.declared.task.Task.{Task}
use Rattle.task_block.specs.Standing.{is_ready}
use Rattle.wind_core.specs.State.{KernState, Lives, task_of}
use Rattle.wind_core.specs.Moves.{move_found, move_task, released, release, unmarked, renewed}
use Rattle.wind_core.proofs.Ids.{ids, ids-change, ids-move, lives_by}
use Rattle.id_table.specs.Idents.{shell_id}
use Rattle.wind_machine.specs.Task.{shell_task, is_held, let_go, aborted}
use Rattle.con_line.specs.declared.console.ByteDone.{ByteDone}
use Rattle.con_line.specs.declared.console.ByteDone.TheVariants as done
use Rattle.wind_machine.specs.Events.{kern_after}

-- at most one order number is handed out if one task is moved
pub since-move : (s : KernState) (who : ℕ) (f : Task → Task) → (move_task s who f).next_since ≤ s.next_since + 1
since-move s who f =
    elim (task_of s.tasks who) as (λ o. (move_found s who f o).next_since ≤ s.next_since + 1) [
      | None ↦ omega arith
      | Some t ↦ elim (is_ready (f t)) as (λ b. s.next_since + cond b 1 0 ≤ s.next_since + 1) [ true ↦ omega arith | false ↦ omega arith ]
    ]

ids-let_go : (k : KernState) → ids (let_go k).tasks ≡ ids k.tasks
ids-let_go k = elim (is_held (shell_task k)) as (λ b. ids (cond b (release k shell_id) k).tasks ≡ ids k.tasks) [ true ↦ ids-move k shell_id released (λ t. refl) | false ↦ refl ]

pub let_go_lives : (k : KernState) → Lives k 1 → Lives (let_go k) 1
let_go_lives k live = lives_by (let_go k).tasks k.tasks 1 (ids-let_go k) live

pub let_go_since : (k : KernState) → (let_go k).next_since ≤ k.next_since + 1
let_go_since k = elim (is_held (shell_task k)) as (λ b. (cond b (release k shell_id) k).next_since ≤ k.next_since + 1) [ true ↦ since-move k shell_id released | false ↦ omega arith ]

pub ids-aborted : (k : KernState) → ids (aborted k).tasks ≡ ids k.tasks
ids-aborted k = ids-change (let_go k).tasks shell_id (λ t. renewed (let_go k).next_since (unmarked t)) (λ t. refl) ∙ ids-let_go k

pub ids-after : (d : ByteDone) (waits : Bool) (k : KernState) → ids (kern_after d waits k).tasks ≡ ids k.tasks
ids-after done.Abort waits k = ids-aborted k
ids-after done.Line waits k = elim waits as (λ b. ids (cond b (release k shell_id) k).tasks ≡ ids k.tasks) [ true ↦ ids-move k shell_id released (λ t. refl) | false ↦ refl ]
ids-after done.Kept waits k = refl

pub after_lives : (d : ByteDone) (waits : Bool) (k : KernState) → Lives k 1 → Lives (kern_after d waits k) 1
after_lives d waits k live = lives_by (kern_after d waits k).tasks k.tasks 1 (ids-after d waits k) live

pub after_since : (d : ByteDone) (waits : Bool) (k : KernState) → (kern_after d waits k).next_since ≤ k.next_since + 2
after_since done.Abort waits k = omega (arith, let_go_since k)
after_since done.Line waits k =
    elim waits as (λ b. (cond b (release k shell_id) k).next_since ≤ k.next_since + 2) [ true ↦ omega (arith, since-move k shell_id released) | false ↦ omega arith ]
after_since done.Kept waits k = omega arith
