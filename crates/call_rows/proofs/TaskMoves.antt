-- What the rows of the kernel's tasks keep.
use Rattle.std.proofs.Common.{◌≡◌, ℕ, ◌+◌, ◌-◌, ◌≤◌, Bool, true, List, Option, None, Some, refl, arith}
use Rattle.wind_base.specs.declared.errno.Errno.{Errno}
use Rattle.task_block.specs.declared.task.Task.{Task as TaskRecord}
use Rattle.wind_core.specs.State.{KernState, IsKern, task_of, task_named}
use Rattle.wind_core.specs.Moves.{suspend, resume, set_locks, set_int_locked, delay}
use Rattle.wind_core.specs.Move.{Delay, Suspend, Resume, Set, SetSlice}
use Rattle.wind_core.specs.declared.settings.Setting.TheVariants as settings
use Rattle.wind_core.proofs.Becoming.{found_all}
use Rattle.wind_core.proofs.Moving.{move_keeps}
use Rattle.task_safety.specs.Safety.{make_safe, lessen, unsafe_refusal}
use Rattle.kernel_world.specs.Kept.{HasCounts, CountsWithin, call_sinces}
use Rattle.call_rows.specs.TaskRows.{done, refused, suspend_row, resume_row, delay_row, lock_row, unlock_row, self_row, verify_row, found_row, name_row, slice_row, locks_in, locks_of, int_lock_row, int_unlock_row, int_context_row}
use Rattle.call_rows.specs.Unless.{unless}
use Rattle.call_rows.specs.SafetyRows.{safe_row, unsafe_row}
use Rattle.kernel_world.specs.declared.actor.Actor.{Actor}
use Rattle.kernel_world.specs.declared.actor.Actor.TheVariants.{Task, Interrupt}
use Rattle.kernel_world.proofs.Goes.{Goes, goes_nowhere, goes_further, more_counts, goes-move, goes-make_safe, goes-lessen}

pub locks_within : (k : KernState) (who n : ℕ) → CountsWithin n k → locks_of k who ≤ n
locks_within k who n within =
    elim (task_of k.tasks who) as (λ o. task_of k.tasks who ≡ o → locks_in o ≤ n) [
      | None ↦ λ e. omega arith
      | Some t ↦ λ e. (found_all (HasCounts n) k.tasks who t within e).0
    ] refl

module _ (k : KernState) (n : ℕ) (is : IsKern k) (within : CountsWithin n k) where
  pub stays : Goes k k (n + 1) call_sinces
  stays = goes_further k k n (n + 1) 0 call_sinces (omega arith) (omega arith) (goes_nowhere k n is within)

  pub suspend_goes : (o : Option ℕ) → Goes k (suspend_row k o).kern (n + 1) call_sinces
  suspend_goes None = stays
  suspend_goes (Some id) = goes_further k (suspend k id) n (n + 1) 0 call_sinces (omega arith) (omega arith) (goes-move k n is within (Suspend id) tt)

  pub resume_goes : (o : Option ℕ) → Goes k (resume_row k o).kern (n + 1) call_sinces
  resume_goes None = stays
  resume_goes (Some id) = goes_further k (resume k id) n (n + 1) 1 call_sinces (omega arith) (omega arith) (goes-move k n is within (Resume id) tt)

  pub verify_goes : (o : Option ℕ) → Goes k (verify_row k o).kern (n + 1) call_sinces
  verify_goes None = stays
  verify_goes (Some id) = stays

  pub delay_goes : (a : Actor) (m : ℕ) → Goes k (delay_row k a m).kern (n + 1) call_sinces
  delay_goes (Task who) m = goes_further k (delay k who m) n (n + 1) 1 call_sinces (omega arith) (omega arith) (goes-move k n is within (Delay who m) tt)
  delay_goes Interrupt m = stays

  pub locks_goes : (who m : ℕ) → m ≤ n + 1 → Goes k (set_locks k who m) (n + 1) call_sinces
  locks_goes who m few =
      goes_further k (set_locks k who m) (n + 1) (n + 1) 0 call_sinces (omega arith) (omega arith) (goes-move k (n + 1) is (more_counts k n (n + 1) (omega arith) within) (Set who (settings.Locks m)) few)

  pub lock_goes : (a : Actor) → Goes k (lock_row k a).kern (n + 1) call_sinces
  lock_goes (Task who) = locks_goes who (locks_of k who + 1) (omega (arith, locks_within k who n within))
  lock_goes Interrupt = stays

  pub unlock_goes : (a : Actor) → Goes k (unlock_row k a).kern (n + 1) call_sinces
  unlock_goes (Task who) = locks_goes who (locks_of k who - 1) (omega (arith, locks_within k who n within))
  unlock_goes Interrupt = stays

  pub self_goes : (a : Actor) → Goes k (self_row k a).kern (n + 1) call_sinces
  self_goes (Task who) = stays
  self_goes Interrupt = stays

  found_goes : (o : Option TaskRecord) → Goes k (found_row k o).kern (n + 1) call_sinces
  found_goes None = stays
  found_goes (Some t) = stays

  pub name_goes : (o : Option (List ℕ)) → Goes k (name_row k o).kern (n + 1) call_sinces
  name_goes None = stays
  name_goes (Some name) = found_goes (task_named k.tasks name)

  pub slice_goes : (m : ℕ) → Goes k (slice_row k m).kern (n + 1) call_sinces
  slice_goes m = record { kern = move_keeps k (SetSlice m) is tt; alone = refl; stacks = refl; lent = refl; last = refl; reserves = refl; counts = stays.counts; sinces = omega arith; next = omega arith; count = refl }

  mark_goes : (who : ℕ) (on : Bool) → Goes k (set_int_locked k who on) (n + 1) call_sinces
  mark_goes who on = goes_further k (set_int_locked k who on) n (n + 1) 0 call_sinces (omega arith) (omega arith) (goes-move k n is within (Set who (settings.IntLocked on)) tt)

  pub int_lock_goes : (a : Actor) → Goes k (int_lock_row k a).kern (n + 1) call_sinces
  int_lock_goes (Task who) = mark_goes who true
  int_lock_goes Interrupt = stays

  pub int_unlock_goes : (a : Actor) (key : ℕ) → Goes k (int_unlock_row k a key).kern (n + 1) call_sinces
  int_unlock_goes (Task who) key = mark_goes who _
  int_unlock_goes Interrupt key = stays

  pub int_context_goes : (a : Actor) → Goes k (int_context_row k a).kern (n + 1) call_sinces
  int_context_goes (Task who) = stays
  int_context_goes Interrupt = stays

  -- ---- safe sections
  pub safe_goes : (a : Actor) → Goes k (safe_row k a).kern (n + 1) call_sinces
  safe_goes (Task who) = goes_further k (make_safe k who) (n + 1) (n + 1) 0 call_sinces (omega arith) (omega arith) (goes-make_safe k n is within who)
  safe_goes Interrupt = stays

  unsafe_unless_goes : (who : ℕ) (o : Option Errno) → Goes k (unless o (refused k) (done (lessen k who 1))).kern (n + 1) call_sinces
  unsafe_unless_goes who (Some e) = stays
  unsafe_unless_goes who None = goes_further k (lessen k who 1) n (n + 1) 256 call_sinces (omega arith) (omega arith) (goes-lessen k n is within who 1)

  pub unsafe_goes : (a : Actor) → Goes k (unsafe_row k a).kern (n + 1) call_sinces
  unsafe_goes (Task who) = unsafe_unless_goes who (unsafe_refusal (task_of k.tasks who))
  unsafe_goes Interrupt = stays
