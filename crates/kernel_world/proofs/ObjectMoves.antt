-- Every move of the kernel leaves the objects as they are.
use Rattle.std.proofs.Common.{◌≡◌, ℕ, ◌+◌, ◌<◌, Bool, true, false, cond, map, refl, arith}
use Rattle.std.specs.List.{All}
use Rattle.std.proofs.lemmas.List.Elements.{All-weaker, All-map}
use Rattle.wind_base.specs.declared.board_kind.BoardKind.{BoardKind}
use Rattle.id_table.specs.Sides.{console_side}
use Rattle.id_table.specs.declared.ident.Place.{Place}
use Rattle.task_block.specs.declared.task.Task.{Task}
use Rattle.task_block.specs.Standing.{is_ready}
use Rattle.wind_core.specs.State.{KernState, IsKern, Lives, task_of}
use Rattle.wind_core.specs.Moves.{renewed, settled, pend, released, unreserved}
use Rattle.wind_core.specs.Move.{Move, Pend, Set, apply, IsAllowed}
use Rattle.wind_core.specs.declared.settings.Setting.TheVariants as settings
use Rattle.sem_plain.specs.Kept.{BeginsOnly}
use Rattle.sem_plain.specs.Laws.{nowhere}
use Rattle.sem_plain.proofs.Beginning.{IsOld, themselves, by_tasks}
use Rattle.sem_mutex.specs.TaskSafetySafety.{safe_of, make_safe, lessen}
use Rattle.sem_mutex.specs.TaskSafetyKept.{Deletes, KeepsDeleters}
use Rattle.sem_mutex.specs.InheritanceMutexes.{both as with_mutexes}
use Rattle.sem_mutex.specs.Kept.{KeepsMutexes}
use Rattle.sem_mutex.specs.Laws.{SparesMutexes}
use Rattle.sem_mutex.proofs.Lawful.{beside_law, safety_law}
use Rattle.sem_mutex.proofs.Following.{Comes, alike, comes_on, follows_keeps}
use Rattle.sem_mutex.proofs.Following as mutexes
use Rattle.sem_mutex.proofs.Handing.{lives_below}
use Rattle.msg_queue.specs.Kept.{IsCalm}
use Rattle.msg_queue.specs.Laws.{SparesQueues}
use Rattle.msg_queue.proofs.Calm.{calms}
use Rattle.kernel_world.specs.Objects.{WaitsRight, KeepsWaits, KeepsObjects}
use Rattle.kernel_world.specs.declared.objects.Objects.{Objects}
use Rattle.kernel_world.proofs.Safes.{counted, deleters-map}
use Rattle.kernel_world.proofs.Calming.{Spares, queues-calm, calm-lessen, calm-map}
use Rattle.kernel_world.proofs.Apart.{kern_kept}
use Rattle.kernel_world.proofs.Waiting.{SparesWaits, waits_calm, waits-move, waits-lessen}

-- ---- a task that waits for nothing

settled_id : (since : ℕ) (t : Task) → (settled since (released t)).id ≡ t.id
settled_id since t = elim (is_ready (released t)) as (λ b. (cond b (renewed since (released t)) (released t)).id ≡ t.id) [ true ↦ refl | false ↦ refl ]

-- ---- every move
-- a move may be made, and spares waits, mutexes and queues
abbrev pub SparesObjects : KernState → Objects → Move → Type 0
SparesObjects k o m = IsAllowed k m × SparesWaits k o m × SparesMutexes (with_mutexes k o.mutexes) m × SparesQueues o.queues.queues k m

module _ {board : BoardKind} (k : KernState) (o : Objects) (is : IsKern k) (kept : KeepsObjects board k o) where
  -- by the invariants of waits and of mutexes, if no wait at a queue begins
  pub by_kern : (j : KernState) → KeepsWaits board j o → KeepsMutexes (with_mutexes j o.mutexes) → IsCalm o.queues.queues k j → KeepsObjects board j o
  by_kern j waits mutexes calm = record {
    waits = waits;
    mutexes = mutexes;
    table = kept.table;
    queues = queues-calm board k j o calm kept.queues;
    queues_ranged = kept.queues_ranged;
    apart = kept.apart;
    queues_apart = kept.queues_apart;
  }

  -- every move that spares them all
  pub objects-move : (m : Move) → SparesObjects k o m → KeepsObjects board (apply k m) o
  objects-move m spares =
      by_kern (apply k m) (waits-move k o is kept.waits m spares.1) (beside_law (with_mutexes k o.mutexes) m kept.mutexes spares.2) (calms o.queues.queues k m is spares.0 spares.3)

  -- the shell's task waits for a line of the console
  pub objects-listen : (fifo : Bool) (n : ℕ) → Lives k 1 → 0 < n → KeepsObjects board (pend k 1 (record { side = console_side; id = 1 }) fifo n) o
  objects-listen fifo n lives some =
      let place : Place = record { side = console_side; id = 1 } in
      let made : 1 < k.next_id = lives_below k 1 is lives in
      objects-move (Pend 1 place fifo n) (
        some,
        record { may = record { empty = tt; made = made }; lives = refl; other = λ q. absurd (omega (arith, q)); console = λ q. refl },
        (refl, made),
        λ side. absurd (omega (arith, side)),
      )

  -- ---- safe sections
  pub objects-make_safe : (who : ℕ) → KeepsObjects board (make_safe k who) o
  objects-make_safe who = objects-move (Set who (settings.Safe (safe_of (task_of k.tasks who) + 1))) (tt, λ some. omega arith, tt, tt)

  pub objects-lessen : (who n : ℕ) → KeepsObjects board (lessen k who n) o
  objects-lessen who n =
      by_kern (lessen k who n) (waits-lessen k o is kept.waits who n) ((safety_law (with_mutexes k o.mutexes) kept.mutexes).lessening who n) (calm-lessen o.queues.queues k who n is)

-- ---- reservations of many tasks are dropped
-- all are dropped, except those of some tasks
abbrev pub dropped : (Task → Bool) → Task → Task
dropped keeps t = cond (keeps t) t (unreserved t)

pub objects-drop : {board : BoardKind} (k : KernState) (o : Objects) → KeepsObjects board k o → (keeps : Task → Bool) → KeepsObjects board (record k { tasks = map (dropped keeps) k.tasks }) o
objects-drop {board} k o kept keeps =
    let f : Task → Task = dropped keeps in
    let j : KernState = record k { tasks = map f k.tasks } in
    let deleters : KeepsDeleters j =
    deleters-map k f (λ t. elim (keeps t) as (λ b. counted (cond b t (unreserved t)) ≡ counted t) [ true ↦ refl | false ↦ refl ])
    (λ P t h. elim (keeps t) as (λ b. Deletes P (cond b t (unreserved t))) [ true ↦ h | false ↦ h ]) kept.waits.deleters in
    let right : All (WaitsRight board) j.tasks =
    All-map (WaitsRight board) f k.tasks (All-weaker (WaitsRight board) (λ t. WaitsRight board (f t)) (λ t h.
    elim (keeps t) as (λ b. WaitsRight board (cond b t (unreserved t))) [ true ↦ h | false ↦ record { console = h.console; repeats = h.repeats } ]) k.tasks kept.waits.right) in
    let begins : BeginsOnly nowhere k j =
    by_tasks nowhere k j (omega arith) (All-map (IsOld nowhere k) f k.tasks (All-weaker (IsOld nowhere k) (λ t. IsOld nowhere k (f t)) (λ t h.
    elim (keeps t) as (λ b. IsOld nowhere k (cond b t (unreserved t))) [ true ↦ h | false ↦ h ]) k.tasks (themselves nowhere k))) in
    let comes : All (Comes o.mutexes.rows k) j.tasks =
    All-map (Comes o.mutexes.rows k) f k.tasks (All-weaker (Comes o.mutexes.rows k) (λ t. Comes o.mutexes.rows k (f t)) (λ t h.
    elim (keeps t) as (λ b. Comes o.mutexes.rows k (cond b t (unreserved t))) [
      | true ↦ h
      | false ↦ comes_on o.mutexes.rows k t (unreserved t) h (alike o.mutexes.rows k t (unreserved t) refl refl refl refl refl refl)
    ]) k.tasks (mutexes.themselves o.mutexes.rows k)) in
    let spares : Spares f = record {
      id = λ t. elim (keeps t) as (λ b. (cond b t (unreserved t)).id ≡ t.id) [ true ↦ refl | false ↦ refl ];
      since = λ t. elim (keeps t) as (λ b. (cond b t (unreserved t)).since ≡ t.since) [ true ↦ refl | false ↦ refl ];
      wake = λ t. elim (keeps t) as (λ b. (cond b t (unreserved t)).wake ≡ t.wake) [ true ↦ refl | false ↦ refl ];
      wait = λ t. elim (keeps t) as (λ b. (cond b t (unreserved t)).wait ≡ t.wait) [ true ↦ refl | false ↦ refl ];
    } in
    let is : IsKern k = kern_kept k o kept in
    by_kern k o is kept j (waits_calm k j o begins deleters right kept.waits)
    (follows_keeps (with_mutexes k o.mutexes) j (record { next = omega arith; tasks = comes }) kept.mutexes) (calm-map f spares o.queues.queues k is)
