-- Safe sections, the deletion of a task and its end keep the objects' invariant.
use Rattle.std.proofs.Common.{◌≡◌, ℕ, Bool, true, false, cond, eqb, [], ◌∷◌, None, Some, IfSome, IsSome, refl, subst, arith}
use Rattle.std.specs.List.{All}
use Rattle.wind_base.specs.Limits.{wait_forever}
use Rattle.wind_base.specs.declared.board_kind.BoardKind.{BoardKind}
use Rattle.id_table.specs.Sides.{deletion_side, console_side}
use Rattle.id_table.specs.declared.ident.Place.{Place}
use Rattle.mem_partition.specs.State.{PartState}
use Rattle.task_block.specs.declared.task.Task.{Task as TaskRecord}
use Rattle.wind_core.specs.State.{KernState, IsKern, task_of}
use Rattle.wind_core.specs.Orders.{same_place}
use Rattle.wind_core.specs.Moves.{renewed, wake_at, pended, remove, set_again}
use Rattle.wind_core.specs.Move.{Remove, Pend, Set}
use Rattle.wind_core.specs.declared.settings.Setting.TheVariants as settings
use Rattle.wind_core.proofs.Keeping.{change_task_keeps}
use Rattle.wind_core.proofs.Moving.{move_keeps}
use Rattle.wind_core.proofs.Stable.{All-change}
use Rattle.wind_core.proofs.Becoming.{All-change_at}
use Rattle.kernel_world.specs.SemPlainState.{both as with_semaphores}
use Rattle.kernel_world.specs.SemPlainKept.{BeginsOnly}
use Rattle.kernel_world.specs.SemPlainLaws.{MayBegin}
use Rattle.kernel_world.proofs.SemPlainBeginning.{by_change, then}
use Rattle.kernel_world.proofs.SemPlainMoving.{begins-pend}
use Rattle.kernel_world.proofs.SemPlainKeeping.{place_is}
use Rattle.task_safety.specs.Safety.{deletion, safe_of, lessen, unsafe_refusal}
use Rattle.task_safety.specs.Deletion.{deed_of, asked, unguarded, awaiting, after}
use Rattle.task_safety.specs.Kept.{Deletes, KeepsDeleters}
use Rattle.task_safety.specs.declared.deleting.Deed.{Deed}
use Rattle.task_safety.specs.declared.deleting.Deed.TheVariants.{Refuses, EndsItself, Removes, Awaits}
use Rattle.task_safety.proofs.Targets.{Says, deed_says}
use Rattle.task_safety.proofs.Waiting.{moves_keep, calls_keep}
use Rattle.kernel_world.specs.InheritanceMutexes.{both as with_mutexes}
use Rattle.kernel_world.specs.SemMutexKept.{KeepsMutexes}
use Rattle.kernel_world.proofs.SemMutexFollowing.{alike, follows_keeps}
use Rattle.kernel_world.proofs.SemMutexFollowing as mutexes
use Rattle.kernel_world.proofs.SemMutexKeeping.{kern_lessen}
use Rattle.kernel_world.proofs.SemMutexHanding.{lives_below}
use Rattle.kernel_world.proofs.SemMutexLawful.{beside_law}
use Rattle.kernel_world.specs.MsgQueueKept.{IsCalm}
use Rattle.kernel_world.proofs.MsgQueueCalm.{calm_set, calm_then, calm_series}
use Rattle.kernel_world.specs.Objects.{is_live, deletion_gate, WaitsRight, KeepsWaits, KeepsObjects, IsFree}
use Rattle.kernel_world.specs.Actors.{MayCall}
use Rattle.call_rows.specs.Ending as ending
use Rattle.call_rows.specs.TaskRows.{done, refused}
use Rattle.call_rows.specs.Unless.{unless}
use Rattle.call_rows.specs.SafetyRows.{safe_row, unsafe_row, at_deletion, back_at_gate, deletes, meant, delete_row}
use Rattle.kernel_world.specs.declared.objects.Objects.{Objects}
use Rattle.kernel_world.specs.declared.actor.Actor.{Actor}
use Rattle.kernel_world.specs.declared.actor.Actor.TheVariants.{Task, Interrupt}
use Rattle.kernel_world.proofs.Safes.{counted, deleters-map, none_left}
use Rattle.kernel_world.proofs.Living.{ready_free}
use Rattle.kernel_world.proofs.Waiting.{waits_keep}
use Rattle.kernel_world.proofs.ObjectMoves.{by_kern, objects-move, objects-make_safe, objects-lessen}

-- ---- a task waits to delete another, and is at the gate of its call
-- the caller may still be anywhere
abbrev RightBut : BoardKind → ℕ → TaskRecord → Type 0
RightBut board who t = IfSome t.wait (λ p. p.side ≡ console_side → t.id ≡ 1) × ((t.id ≡ who → ⊥) → WaitsRight board t)

at_gate : (board : BoardKind) (t : TaskRecord) → IfSome t.wait (λ p. p.side ≡ console_side → t.id ≡ 1) → WaitsRight board (at_deletion board t)
at_gate board t console = record {
  console = console;
  repeats = elim t.wait as (λ w. IfSome w (λ p. p.side ≡ deletion_side → deletion_gate board ≡ deletion_gate board)) [ None ↦ tt | Some p ↦ λ q. refl ];
}

module _ {board : BoardKind} (k : KernState) (o : Objects) (is : IsKern k) (kept : KeepsObjects board k o) where
  -- the caller, marked, waiting, and back at the gate
  abbrev marked : ℕ → KernState
  marked who = set_again k who true

  right_back : (who id : ℕ) → All (WaitsRight board) (back_at_gate board (awaiting k who id) who).tasks
  right_back who id =
      let begin : TaskRecord → TaskRecord = λ t. renewed (marked who).next_since (pended (deletion id) false (wake_at deletion_side (marked who).tick wait_forever) t) in
      let first : All (WaitsRight board) (marked who).tasks = All-change (WaitsRight board) k.tasks who (λ t. record t { again = true }) (λ t h. record { console = h.console; repeats = h.repeats }) kept.waits.right in
      let second : All (RightBut board who) (awaiting k who id).tasks =
      All-change_at (WaitsRight board) (RightBut board who) (marked who).tasks who begin (λ t at own h. (λ q. absurd (omega (arith, q)), λ other. absurd (other own))) (λ t at other h. (h.console, λ _. h)) first in
      All-change_at (RightBut board who) (WaitsRight board) (awaiting k who id).tasks who (at_deletion board) (λ t at own h. at_gate board t h.0) (λ t at other h. h.1 other) second

  waits_back : (who id : ℕ) → IsSome (task_of k.tasks id) → KeepsDeleters (awaiting k who id) → KeepsWaits board (back_at_gate board (awaiting k who id) who) o
  waits_back who id lives deleters =
      let begins : Place → Bool = same_place (deletion id) in
      let j : KernState = back_at_gate board (awaiting k who id) who in
      let one : BeginsOnly begins k (marked who) = by_change begins k who (λ t. record t { again = true }) (λ t old. old) in
      let two : BeginsOnly begins (marked who) (awaiting k who id) = begins-pend (marked who) who (deletion id) false wait_forever in
      let three : BeginsOnly begins (awaiting k who id) j = by_change begins (awaiting k who id) who (at_deletion board) (λ t old. old) in
      waits_keep k j o begins (then begins k (awaiting k who id) j (then begins k (marked who) (awaiting k who id) one two) three)
      (λ p here. subst (λ q. MayBegin (with_semaphores k o.semaphores) q × (is_live o q ≡ true)) (place_is (deletion id) p here) (record { empty = tt; made = lives_below k id is lives }, refl))
      (deleters-map (awaiting k who id) (λ t. cond (eqb t.id who) (at_deletion board t) t)
      (λ t. elim (eqb t.id who) as (λ b. counted (cond b (at_deletion board t) t) ≡ counted t) [ true ↦ refl | false ↦ refl ])
      (λ P t h. elim (eqb t.id who) as (λ b. Deletes P (cond b (at_deletion board t) t)) [ true ↦ h | false ↦ h ])
      deleters)
      (right_back who id) kept.waits

  mutexes_back : (who id : ℕ) → IsSome (task_of k.tasks id) → KeepsMutexes (with_mutexes (back_at_gate board (awaiting k who id) who) o.mutexes)
  mutexes_back who id lives =
      let ms = o.mutexes in
      let one : KeepsMutexes (with_mutexes (marked who) ms) = beside_law (with_mutexes k ms) (Set who (settings.Again true)) kept.mutexes tt in
      let two : KeepsMutexes (with_mutexes (awaiting k who id) ms) = beside_law (with_mutexes (marked who) ms) (Pend who (deletion id) false wait_forever) one (refl, lives_below k id is lives) in
      follows_keeps (with_mutexes (awaiting k who id) ms) (back_at_gate board (awaiting k who id) who)
      (mutexes.by_change ms.rows (awaiting k who id) who (at_deletion board) (λ t. alike ms.rows (awaiting k who id) t (at_deletion board t) refl refl refl refl refl refl)) two

  -- the caller waits for no queue
  calm_back : (who id : ℕ) → IsCalm o.queues.queues k (back_at_gate board (awaiting k who id) who)
  calm_back who id =
      let rs = o.queues.queues in
      let wait : KernState = awaiting k who id in
      let waits : IsCalm rs k wait =
      calm_series rs k (Set who (settings.Again true) ∷ Pend who (deletion id) false wait_forever ∷ []) is ((tt, tt), ((omega arith, λ side. absurd (omega (arith, side))), tt)) in
      let stands : IsCalm rs wait (back_at_gate board wait who) =
      calm_set rs wait who (at_deletion board) (λ t. refl) (λ t. refl) (change_task_keeps wait who (at_deletion board) waits.kern (record { id = λ t. refl; since = λ t. refl; ahead = λ t h. h })) in
      calm_then rs k wait (back_at_gate board wait who) waits stands

  -- ---- the rows
  deed_kept : (p : PartState) (who n : ℕ) (d : Deed) → IsFree k who → Says k.tasks who n d → KeepsDeleters (after k who d) → KeepsObjects board (deletes board k p who d).kern o
  deed_kept p who n (Refuses e) free said deleters = objects-move k o is kept (Set who (settings.Again false)) (tt, free, tt, tt)
  deed_kept p who n (EndsItself count) free said deleters =
      let first : KernState = asked k who in
      let is1 : IsKern first = move_keeps k (Set who (settings.Again false)) is tt in
      let less : KernState = unguarded k who count in
      objects-move less o (kern_lessen first who count is1) (objects-lessen first o is1 (objects-move k o is kept (Set who (settings.Again false)) (tt, free, tt, tt)) who count) (Remove who) (tt, deleters, tt, tt)
  deed_kept p who n (Removes id) free said deleters =
      objects-move (asked k who) o (move_keeps k (Set who (settings.Again false)) is tt) (objects-move k o is kept (Set who (settings.Again false)) (tt, free, tt, tt)) (Remove id) (tt, deleters, tt, tt)
  deed_kept p who n (Awaits id) free said deleters = by_kern k o is kept (back_at_gate board (awaiting k who id) who) (waits_back who id said.1 deleters) (mutexes_back who id said.1) (calm_back who id)

  -- the deletion of a task, by one that waits for nothing
  pub objects-delete_row : (p : PartState) (a : Actor) (id : ℕ) → MayCall k a → KeepsObjects board (delete_row board k p a id).kern o
  objects-delete_row p (Task who) id ready =
      let free : IsFree k who = ready_free k who ready in
      deed_kept p who (meant who id) (deed_of k.tasks who (meant who id)) free (deed_says k.tasks who (meant who id)) ((calls_keep k is kept.waits.deleters).deleting who (meant who id) free)
  objects-delete_row p Interrupt id free = kept

  pub objects-safe_row : (a : Actor) → KeepsObjects board (safe_row k a).kern o
  objects-safe_row (Task who) = objects-make_safe k o is kept who
  objects-safe_row Interrupt = kept

  pub objects-unsafe_row : (a : Actor) → KeepsObjects board (unsafe_row k a).kern o
  objects-unsafe_row (Task who) = elim (unsafe_refusal (task_of k.tasks who)) as (λ r. KeepsObjects board (unless r (refused k) (done (lessen k who 1))).kern o) [ Some e ↦ kept | None ↦ objects-lessen k o is kept who 1 ]
  objects-unsafe_row Interrupt = kept

  -- the end of a task
  pub objects-ended : (who : ℕ) → KeepsObjects board (remove (ending.unguarded k who) who) o
  objects-ended who =
      let count : ℕ = safe_of (task_of k.tasks who) in
      let less : KernState = lessen k who count in
      let is1 : IsKern less = kern_lessen k who count is in
      let kept1 : KeepsObjects board less o = objects-lessen k o is kept who count in
      objects-move less o is1 kept1 (Remove who) (tt, moves_keep less (Remove who) is1 kept1.waits.deleters (none_left k who), tt, tt)
