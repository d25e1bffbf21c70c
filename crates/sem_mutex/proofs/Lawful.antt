-- The laws of the mutexes' invariant.
use Rattle.std.proofs.Common.{◌≡◌, ℕ, None, Some, refl, false, true, ◌+◌}
use Rattle.id_table.specs.Rows.{object_of, row_id}
use Rattle.wind_core.specs.State.{KernState, IsKern, task_of}
use Rattle.inheritance.specs.Mutexes.{MutexState, mutex_place}
use Rattle.sem_mutex.specs.Kept.{KeepsMutexes}
use Rattle.sem_mutex.specs.Calls.{delete, delete_refusal}
use Rattle.sem_mutex.proofs.Ending.{delete_same, priority_keeps}
use Rattle.sem_mutex.proofs.Making.{create_keeps}
use Rattle.sem_mutex.specs.Laws.{SparesMutexes, BesideLaw, SafetyLaw, CallsLaw, Keeps, GoneLaw}
use Rattle.sem_mutex.proofs.Following.{Follows, follows_keeps, alike, by_change}
use Rattle.sem_mutex.proofs.Keeping.{take_keeps, give_same}
use Rattle.sem_mutex.proofs.Beside.{follows-tick, follows-pend, follows-delay, follows-release, follows-release_all, follows-end_wait, follows-wake_all, follows-remove, follows-spawn, follows-ids, follows-last, follows-slice, follows-suspend, follows-resume, follows-reset, follows-set_regs, follows-lessen, follows-lent}
use Rattle.id_table.specs.Records.{Rising}
use Rattle.task_safety.specs.declared.deleting.Deed.{Deed}
use Rattle.task_safety.specs.declared.deleting.Deed.TheVariants.{Refuses, EndsItself, Removes, Awaits}
use Rattle.task_safety.specs.Deletion.{deed_of, asked, unguarded, awaiting, after}
use Rattle.task_safety.specs.Safety.{deletion, safe_of, lessen}
use Rattle.task_safety.proofs.Targets.{Says, deed_says}
use Rattle.wind_base.specs.Limits.{wait_forever}
use Rattle.wind_core.specs.Orders.{waits_at}
use Rattle.wind_core.specs.Moves.{remove, set_again, with_setting}
use Rattle.wind_core.specs.Move.{Move, Spawn, Remove, Pend, Delay, Release, ReleaseAll, EndWait, WakeAll, Tick, Suspend, Resume, ChangePri, Reset, Set, SetRegs, SetLast, SetSlice, DrawIds, Lend, apply}
use Rattle.wind_core.specs.declared.settings.Setting.TheVariants as settings
use Rattle.std.specs.List.{All}
use Rattle.sem_mutex.proofs.Handing.{lives_below}
use Rattle.sem_mutex.proofs.Steady.{nobody_left}

-- a move that leaves mutexes alone
follows : (s : MutexState) (m : Move) → SparesMutexes s m → Follows s.mutexes s.kern (apply s.kern m)
follows s (Spawn n) spares = follows-spawn s.mutexes s.kern n
follows s (Remove who) spares = follows-remove s.mutexes s.kern who
follows s (Pend who place fifo n) spares = follows-pend s.mutexes s.kern who place fifo n spares.0 spares.1
follows s (Delay who n) spares = follows-delay s.mutexes s.kern who n
follows s (Release who) spares = follows-release s.mutexes s.kern who
follows s (ReleaseAll place) spares = follows-release_all s.mutexes s.kern place
follows s (EndWait who value errno) spares = follows-end_wait s.mutexes s.kern who value errno
follows s (WakeAll place value errno) spares = follows-wake_all s.mutexes s.kern place value errno
follows s Tick spares = follows-tick s.mutexes s.kern
follows s (Suspend who) spares = follows-suspend s.mutexes s.kern who
follows s (Resume who) spares = follows-resume s.mutexes s.kern who
follows s (ChangePri who pri) spares = absurd spares
follows s (Reset who) spares = follows-reset s.mutexes s.kern who
follows s (Set who (settings.Normal pri)) spares = absurd spares
follows s (Set who (settings.Held n)) spares = absurd spares
follows s (SetRegs who regs) spares = follows-set_regs s.mutexes s.kern who regs
follows s (Set who change) spares =
    by_change s.mutexes s.kern who (with_setting change)
    (λ t. alike s.mutexes s.kern t (with_setting change t) refl refl refl refl refl refl)
follows s (SetLast last) spares = follows-last s.mutexes s.kern last
follows s (SetSlice n) spares = follows-slice s.mutexes s.kern n
follows s (DrawIds next) spares = follows-ids s.mutexes s.kern next spares
follows s (Lend on) spares = follows-lent s.mutexes s.kern on

pub beside_law : BesideLaw
beside_law s m kept spares = follows_keeps s (apply s.kern m) (follows s m spares) kept

-- the deletion of a task, even one that owns mutexes
task_deleted : (s : MutexState) (caller n : ℕ) (d : Deed) → IsKern s.kern → Says s.kern.tasks caller n d → KeepsMutexes s → Keeps s (after s.kern caller d)
task_deleted s caller n (Refuses e) is said kept = beside_law s (Set caller (settings.Again false)) kept tt
task_deleted s caller n (EndsItself count) is said kept =
    let ms = s.mutexes in
    let k : KernState = asked s.kern caller in
    let less : KernState = unguarded s.kern caller count in
    let one : KeepsMutexes (record s { kern = k }) = beside_law s (Set caller (settings.Again false)) kept tt in
    let two : KeepsMutexes (record s { kern = less }) = follows_keeps (record s { kern = k }) less (follows-lessen ms k caller count) one in
    follows_keeps (record s { kern = less }) (remove less caller) (follows-remove ms less caller) two
task_deleted s caller n (Removes who) is said kept =
    let k : KernState = asked s.kern caller in
    let one : KeepsMutexes (record s { kern = k }) = beside_law s (Set caller (settings.Again false)) kept tt in
    follows_keeps (record s { kern = k }) (remove k who) (follows-remove s.mutexes k who) one
task_deleted s caller n (Awaits who) is said kept =
    let k : KernState = set_again s.kern caller true in
    let one : KeepsMutexes (record s { kern = k }) = beside_law s (Set caller (settings.Again true)) kept tt in
    follows_keeps (record s { kern = k }) (awaiting s.kern caller who) (follows-pend s.mutexes k caller (deletion who) false wait_forever refl (lives_below s.kern who is said.1)) one

pub safety_law : SafetyLaw
safety_law s kept = record {
  guarding = λ who. beside_law s (Set who (settings.Safe (safe_of (task_of s.kern.tasks who) + 1))) kept tt;
  lessening = λ who n. follows_keeps s (lessen s.kern who n) (follows-lessen s.mutexes s.kern who n) kept;
  deleting = λ caller target is. task_deleted s caller target (deed_of s.kern.tasks caller target) is (deed_says s.kern.tasks caller target) kept;
}

deleting : (s : MutexState) → IsKern s.kern → Rising row_id s.mutexes → KeepsMutexes s → (id : ℕ) → delete_refusal (object_of s.mutexes id) ≡ None → KeepsMutexes (delete s id)
deleting s is up kept id fine =
    elim (object_of s.mutexes id) as (λ o. object_of s.mutexes id ≡ o → delete_refusal o ≡ None → KeepsMutexes (delete s id)) [ None ↦ λ e f. absurd (cc) | Some m ↦ λ e f. (delete_same s id m is up e kept).1 ] refl fine

pub calls_law : CallsLaw
calls_law s is are kept = record {
  taking = λ who id n lives fine. take_keeps s who id n is are.rising lives kept;
  giving = λ who id lives fine. (give_same s who id is are.rising lives kept).1;
  deleting = λ id fine. deleting s is are.rising kept id fine;
  setting_priority = λ who pri. priority_keeps s who pri is kept;
  creating = λ options urgency. create_keeps s options urgency kept;
}

pub gone_law : GoneLaw
gone_law s id is fine =
    elim (object_of s.mutexes id) as (λ o. object_of s.mutexes id ≡ o → delete_refusal o ≡ None → All (λ t. waits_at (mutex_place id) t ≡ false) (delete s id).kern.tasks) [
      | None ↦ λ e f. absurd (cc)
      | Some m ↦ λ e f. nobody_left s id m is e
    ] refl fine
