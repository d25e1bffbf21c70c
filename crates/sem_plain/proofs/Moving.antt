-- No move of the kernel begins a wait, except a pend.
use Rattle.std.proofs.Common.{◌≡◌, ℕ, ◌+◌, Bool, true, false, not, cond, eqb, List, [], ◌∷◌, Option, Some, refl, sym, ap, subst, arith, inr}
use Rattle.std.proofs.lemmas.Bool.{eq-eqb, and_from}
use Rattle.std.proofs.lemmas.List.Elements.{All-filter, All-push}
use Rattle.wind_base.specs.declared.errno.Errno.{Errno}
use Rattle.id_table.specs.declared.ident.Place.{Place}
use Rattle.task_block.specs.declared.task.Task.{Task}
use Rattle.task_block.specs.declared.task.NewTask.{NewTask}
use Rattle.wind_core.specs.State.{KernState, task_of}
use Rattle.wind_core.specs.Orders.{same_place, waiters}
use Rattle.wind_core.specs.Moves.{change_task, move_task, new_task, spawn, remove, wake_at, pended, pend, delayed, delay, released, release, answered, end_wait, end_waits, wake_all, suspended, resumed, is_suspended, resume, unmarked, with_pri, has_pri, change_pri, with_setting}
use Rattle.wind_core.specs.Releases.{releases}
use Rattle.wind_core.specs.Tick.{tick}
use Rattle.wind_core.specs.Move.{Spawn, Remove, Pend, Delay, Release, ReleaseAll, EndWait, WakeAll, Tick, Suspend, Resume, ChangePri, Reset, Set, SetRegs, SetLast, SetSlice, DrawIds, Lend, apply, after}
use Rattle.wind_core.proofs.Mending.{setting_stays}
use Rattle.wind_core.proofs.Stable.{tick-stable}
use Rattle.wind_core.proofs.NextId.{next-tick}
use Rattle.sem_plain.specs.Kept.{IsOldOr, BeginsOnly}
use Rattle.sem_plain.specs.Laws.{nowhere, begun_by, KernelLaw, SeriesLaw}
use Rattle.sem_plain.proofs.Beginning.{IsOld, themselves, by_change, by_renewal, by_move, by_tasks, begins_more, then}

pub stays : (k : KernState) → BeginsOnly nowhere k k
stays k = by_tasks nowhere k k (omega arith) (themselves nowhere k)

-- ---- waits
pub same_itself : (place : Place) → same_place place place ≡ true
same_itself place = and_from (eqb place.side place.side) (eqb place.id place.id) (eq-eqb place.side place.side refl) (eq-eqb place.id place.id refl)

pub begins-pend : (k : KernState) (who : ℕ) (place : Place) (fifo : Bool) (n : ℕ) → BeginsOnly (same_place place) k (pend k who place fifo n)
begins-pend k who place fifo n = by_renewal (same_place place) k who (pended place fifo (wake_at place.side k.tick n)) (λ t old. inr (same_itself place))

begins-delay : (k : KernState) (who n : ℕ) → BeginsOnly nowhere k (delay k who n)
begins-delay k who n =
    by_renewal nowhere k who (delayed k.tick n)
    (λ t old. elim (eqb n 0) as (λ b. IsOld nowhere k (cond b t (record t { wake = Some (k.tick + n); turns = 0 }))) [ true ↦ old | false ↦ old ])

pub begins-end_wait : (k : KernState) (who answer : ℕ) (errno : Option Errno) → BeginsOnly nowhere k (end_wait k who answer errno)
begins-end_wait k who answer errno = by_move nowhere k who (answered answer errno) (λ t old. tt)

begins-release : (k : KernState) (who : ℕ) → BeginsOnly nowhere k (release k who)
begins-release k who = by_move nowhere k who released (λ t old. tt)

begins-end_waits : (k : KernState) (ts : List Task) (answer : ℕ) (errno : Option Errno) → BeginsOnly nowhere k (end_waits k ts answer errno)
begins-end_waits k [] answer errno = stays k
begins-end_waits k (t ∷ ts) answer errno =
    then nowhere k (end_wait k t.id answer errno) (end_waits (end_wait k t.id answer errno) ts answer errno) (begins-end_wait k t.id answer errno) (begins-end_waits (end_wait k t.id answer errno) ts answer errno)

pub begins-wake_all : (k : KernState) (place : Place) (answer : ℕ) (errno : Option Errno) → BeginsOnly nowhere k (wake_all k place answer errno)
begins-wake_all k place answer errno = begins-end_waits k (waiters k.tasks place) answer errno

begins-releases : (k : KernState) (ts : List Task) → BeginsOnly nowhere k (releases k ts)
begins-releases k [] = stays k
begins-releases k (t ∷ ts) = then nowhere k (release k t.id) (releases (release k t.id) ts) (begins-release k t.id) (begins-releases (release k t.id) ts)

-- ---- a tick
begins-tick : (k : KernState) → BeginsOnly nowhere k (tick k)
begins-tick k =
    by_tasks nowhere k (tick k) (omega (arith, next-tick k))
    (tick-stable (IsOld nowhere k) (λ since t old. old) (λ answer errno t old. tt) (λ n t old. old) k (themselves nowhere k))

-- ---- tasks are made and removed
begins-spawn : (k : KernState) (n : NewTask) → BeginsOnly nowhere k (spawn k n)
begins-spawn k n =
    by_tasks nowhere k (spawn k n) (omega arith)
    (All-push (IsOld nowhere k) k.tasks (new_task k.next_id k.next_since n) (themselves nowhere k) tt)

begins-remove : (k : KernState) (who : ℕ) → BeginsOnly nowhere k (remove k who)
begins-remove k who = by_tasks nowhere k (remove k who) (omega arith) (All-filter (λ t. not (eqb t.id who)) (IsOld nowhere k) k.tasks (themselves nowhere k))

-- ---- one task's other fields
writes : (k : KernState) (who : ℕ) (f : Task → Task) → ((t : Task) → IsOld nowhere k t → IsOld nowhere k (f t)) → BeginsOnly nowhere k (change_task k who f)
writes k who f keeps = by_change nowhere k who f keeps

begins-resume : (k : KernState) (who : ℕ) → BeginsOnly nowhere k (resume k who)
begins-resume k who =
    elim (is_suspended (task_of k.tasks who)) as (λ b. BeginsOnly nowhere k (cond b (move_task k who resumed) k)) [
      | true ↦ by_move nowhere k who resumed (λ t old. old)
      | false ↦ stays k
    ]

begins-change_pri : (k : KernState) (who pri : ℕ) → BeginsOnly nowhere k (change_pri k who pri)
begins-change_pri k who pri =
    elim (has_pri pri (task_of k.tasks who)) as (λ b. BeginsOnly nowhere k (cond b k (move_task k who (with_pri pri)))) [
      | true ↦ stays k
      | false ↦ by_move nowhere k who (with_pri pri) (λ t old. old)
    ]

pub moves : KernelLaw
moves k (Spawn n) more = begins-spawn k n
moves k (Remove who) more = begins-remove k who
moves k (Pend who place fifo n) more = begins-pend k who place fifo n
moves k (Delay who n) more = begins-delay k who n
moves k (Release who) more = begins-release k who
moves k (ReleaseAll place) more = begins-releases k (waiters k.tasks place)
moves k (EndWait who value errno) more = begins-end_wait k who value errno
moves k (WakeAll place value errno) more = begins-wake_all k place value errno
moves k Tick more = begins-tick k
moves k (Resume who) more = begins-resume k who
moves k (ChangePri who pri) more = begins-change_pri k who pri
moves k (Reset who) more = by_renewal nowhere k who unmarked (λ t old. old)
moves k (Suspend who) more = writes k who suspended (λ t old. old)
moves k (SetRegs who regs) more = writes k who (λ t. record t { regs = regs }) (λ t old. old)
moves k (Set who change) more = writes k who (with_setting change) (λ t old. subst (IsOldOr nowhere k.tasks) (sym (ap (λ s. s.3) (setting_stays change t))) old)
moves k (SetLast last) more = by_tasks nowhere k (record k { last = last }) (omega arith) (themselves nowhere k)
moves k (SetSlice n) more = by_tasks nowhere k (record k { slice = n }) (omega arith) (themselves nowhere k)
moves k (DrawIds next) more = by_tasks nowhere k (record k { next_id = next }) more (themselves nowhere k)
moves k (Lend on) more = by_tasks nowhere k (record k { lent = on }) (omega arith) (themselves nowhere k)

-- moves one after the other
pub series : SeriesLaw
series begins k [] each = by_tasks begins k k (omega arith) (themselves begins k)
series begins k (m ∷ ms) each =
    then begins k (apply k m) (after (apply k m) ms) (begins_more (begun_by m) begins k (apply k m) each.0.1 (moves k m each.0.0)) (series begins (apply k m) ms each.1)
