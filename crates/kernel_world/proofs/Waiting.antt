-- What every move of the kernel keeps of waits: of those for semaphores and those to delete a task, and that each
-- is for something that lives.
use Rattle.std.proofs.Common.{◌≡◌, ℕ, ◌+◌, ◌-◌, ◌<◌, ◌≤◌, Bool, true, false, cond, not, ◌&&◌, eqb, ltb, leb, List, [], ◌∷◌, Option, None, Some, IfSome, refl, sym, ap, ◌∙◌, subst}
use Rattle.std.specs.List.{All}
use Rattle.std.proofs.lemmas.List.Elements.{All-filter, All-push}
use Rattle.wind_base.specs.declared.board_kind.BoardKind.{BoardKind}
use Rattle.wind_base.specs.declared.errno.Errno.{Errno}
use Rattle.id_table.specs.Sides.{deletion_side, console_side}
use Rattle.id_table.specs.declared.ident.Place.{Place}
use Rattle.task_block.specs.declared.task.Task.{Task}
use Rattle.id_table.proofs.Records.{found_in}
use Rattle.wind_core.specs.State.{KernState, IsKern, task_id, task_of}
use Rattle.wind_core.specs.Orders.{same_place, waiters}
use Rattle.wind_core.specs.Moves.{renewed, change_task, renew_task, move_task, new_task, remove, wake_at, pended, pend, delayed, released, release, answered, end_wait, end_waits, suspended, resumed, is_suspended, unmarked, with_pri, has_pri, change_pri, set_safe, past_gate, with_setting}
use Rattle.wind_core.specs.Releases.{releases, release_all}
use Rattle.wind_core.specs.Move.{Move, Spawn, Remove, Pend, Delay, Release, ReleaseAll, EndWait, WakeAll, Tick, Suspend, Resume, ChangePri, Reset, Set, SetRegs, SetLast, SetSlice, DrawIds, Lend, IsRising, apply}
use Rattle.wind_core.specs.declared.settings.Setting.TheVariants as settings
use Rattle.wind_core.proofs.Stable.{All-change, renew_task-stable, move_task-stable, tick-stable}
use Rattle.wind_core.proofs.Becoming.{All-change_at}
use Rattle.wind_core.proofs.Moving.{move_keeps}
use Rattle.sem_plain.specs.State.{both}
use Rattle.sem_plain.specs.Kept.{BeginsOnly}
use Rattle.sem_plain.specs.Laws.{nowhere, begun_by, MayBegin}
use Rattle.sem_plain.proofs.Beginning.{then}
use Rattle.sem_plain.proofs.Moving.{moves}
use Rattle.sem_plain.proofs.Keeping.{beside, place_is}
use Rattle.sem_plain.proofs.Living.{live_beside}
use Rattle.sem_mutex.specs.TaskSafetySafety.{deletion, safe_of, lessen}
use Rattle.sem_mutex.specs.TaskSafetyKept.{IsSafe, KeepsDeleters}
use Rattle.sem_mutex.proofs.TaskSafetyWaiting.{moves_keep, calls_keep}
use Rattle.wind_base.specs.declared.profile.Profile.{Profile}
use Rattle.sem_mutex.specs.InheritanceMutex.{Mutex}
use Rattle.sem_mutex.specs.InheritanceReach.{lifted, repried, raised_kern}
use Rattle.kernel_world.specs.Objects.{is_live, deletion_gate, WaitsRight, KeepsWaits, IsFree}
use Rattle.kernel_world.specs.declared.objects.Objects.{Objects}

-- ---- one task's wait
pub right_renews : {board : BoardKind} (since : ℕ) (t : Task) → WaitsRight board t → WaitsRight board (renewed since t)
right_renews since t h = record { console = h.console; repeats = h.repeats }

right_answers : {board : BoardKind} (a : ℕ) (e : Option Errno) (t : Task) → WaitsRight board t → WaitsRight board (answered a e t)
right_answers a e t h = record { console = tt; repeats = tt }

-- what the rules of waits read of a task
abbrev seen_wait : Task → Option Place × ℕ × ℕ
seen_wait t = (t.wait, t.id, t.regs.pc)

same_wait : {board : BoardKind} (f : Task → Task) → ((t : Task) → seen_wait (f t) ≡ seen_wait t) → (t : Task) → WaitsRight board t → WaitsRight board (f t)
same_wait {board} f same t h = record {
  console = subst (λ (s : Option Place × ℕ × ℕ). IfSome s.0 (λ p. p.side ≡ console_side → s.1 ≡ 1)) (sym (same t)) h.console;
  repeats = subst (λ (s : Option Place × ℕ × ℕ). IfSome s.0 (λ p. p.side ≡ deletion_side → s.2 ≡ deletion_gate board)) (sym (same t)) h.repeats;
}

-- a task that waits for nothing satisfies the rules of waits
pub right_idle : {board : BoardKind} (t : Task) → t.wait ≡ None → WaitsRight board t
right_idle {board} t none = record {
  console = subst (λ w. IfSome w (λ p. p.side ≡ console_side → t.id ≡ 1)) (sym none) tt;
  repeats = subst (λ w. IfSome w (λ p. p.side ≡ deletion_side → t.regs.pc ≡ deletion_gate board)) (sym none) tt;
}

-- ---- from one kernel to the next
-- waits begin only at places where they may, and what they are for lives
pub waits_keep : {board : BoardKind} (k j : KernState) (o : Objects) (begins : Place → Bool) → BeginsOnly begins k j → ((p : Place) → begins p ≡ true → MayBegin (both k o.semaphores) p × (is_live o p ≡ true))
    → KeepsDeleters j → All (WaitsRight board) j.tasks → KeepsWaits board k o → KeepsWaits board j o
waits_keep k j o begins from may deleters right kept =
    let may_begin : (p : Place) → begins p ≡ true → MayBegin (both k o.semaphores) p = λ p b. (may p b).0 in
    let lives : (p : Place) → begins p ≡ true → is_live o p ≡ true = λ p b. (may p b).1 in
    record {
      semaphores = beside (both k o.semaphores) begins j kept.semaphores from may_begin;
      deleters = deleters;
      live = live_beside (is_live o) begins k j kept.live from lives;
      right = right;
    }

-- none begins
pub waits_calm : {board : BoardKind} (k j : KernState) (o : Objects) → BeginsOnly nowhere k j → KeepsDeleters j → All (WaitsRight board) j.tasks → KeepsWaits board k o → KeepsWaits board j o
waits_calm k j o from deleters right kept = waits_keep k j o nowhere from (λ p b. absurd (cc)) deleters right kept

-- ---- several waits end
right_releases : {board : BoardKind} (k : KernState) (ts : List Task) → All (WaitsRight board) k.tasks → All (WaitsRight board) (releases k ts).tasks
right_releases {board} k [] all = all
right_releases {board} k (t ∷ ts) all = right_releases (release k t.id) ts (move_task-stable (WaitsRight board) right_renews k t.id released (λ u h. record { console = tt; repeats = tt }) all)

right_end_waits : {board : BoardKind} (k : KernState) (ts : List Task) (value : ℕ) (errno : Option Errno) → All (WaitsRight board) k.tasks → All (WaitsRight board) (end_waits k ts value errno).tasks
right_end_waits {board} k [] value errno all = all
right_end_waits {board} k (t ∷ ts) value errno all = right_end_waits (end_wait k t.id value errno) ts value errno (move_task-stable (WaitsRight board) right_renews k t.id (answered value errno) (right_answers value errno) all)

-- ---- every move
-- a task may begin to wait at a place: what it waits for lives, and is neither an available semaphore nor a
-- deletion; only the shell's task waits for the console
pub record MayWait (k : KernState) (o : Objects) (who : ℕ) (place : Place) : Type 0 where
  pub may : MayBegin (both k o.semaphores) place
  pub lives : is_live o place ≡ true
  pub other : place.side ≡ deletion_side → ⊥
  pub console : place.side ≡ console_side → who ≡ 1

-- a move leaves waits as they should be
abbrev pub SparesWaits : KernState → Objects → Move → Type 0
SparesWaits k o (Remove who) = KeepsDeleters (remove k who)
SparesWaits k o (Pend who place fifo n) = MayWait k o who place
SparesWaits k o (Reset who) = IsFree k who
SparesWaits k o (Set who (settings.Safe n)) = IsSafe k who → 0 < n
SparesWaits k o (Set who (settings.Again on)) = IsFree k who
SparesWaits k o (SetRegs who regs) = IsFree k who
SparesWaits k o (Set who settings.PastGate) = IsFree k who
SparesWaits k o (DrawIds next) = k.next_id ≤ next
SparesWaits k o m = Unit {0}

module _ {board : BoardKind} (k : KernState) (o : Objects) (is : IsKern k) (kept : KeepsWaits board k o) where
  -- a move that begins no wait
  calmly : (m : Move) → begun_by m ≡ nowhere → IsRising k m → KeepsDeleters (apply k m) → All (WaitsRight board) (apply k m).tasks → KeepsWaits board (apply k m) o
  calmly m none rising goes right = waits_calm k (apply k m) o (subst (λ (begins : Place → Bool). BeginsOnly begins k (apply k m)) none (moves k m rising)) goes right kept

  -- the task's wait, its id and its program counter are the same
  right_change : (who : ℕ) (f : Task → Task) → ((t : Task) → seen_wait (f t) ≡ seen_wait t) → All (WaitsRight board) (change_task k who f).tasks
  right_change who f same = All-change (WaitsRight board) k.tasks who f (same_wait f same) kept.right

  right_renew : (who : ℕ) (f : Task → Task) → ((t : Task) → WaitsRight board t → WaitsRight board (f t)) → All (WaitsRight board) (renew_task k who f).tasks
  right_renew who f keeps = renew_task-stable (WaitsRight board) right_renews k who f keeps kept.right

  right_move : (who : ℕ) (f : Task → Task) → ((t : Task) → WaitsRight board t → WaitsRight board (f t)) → All (WaitsRight board) (move_task k who f).tasks
  right_move who f keeps = move_task-stable (WaitsRight board) right_renews k who f keeps kept.right

  -- of a task that waits for nothing anything else may change
  right_free : (who : ℕ) → IsFree k who → (f : Task → Task) → ((t : Task) → (f t).wait ≡ t.wait) → All (WaitsRight board) (change_task k who f).tasks
  right_free who free f same = All-change_at (WaitsRight board) (WaitsRight board) k.tasks who f
      (λ t at own h.
      let found : task_of k.tasks who ≡ Some t = ap (task_of k.tasks) (sym own) ∙ found_in task_id k.tasks t is.rising at in
      let none : t.wait ≡ None = subst (λ q. IfSome q (λ u. u.wait ≡ None)) found free in
      right_idle (f t) (same t ∙ none))
      (λ t at other h. h)
      kept.right

  -- each is for what lives, after such a move
  pub waits-move : (m : Move) → SparesWaits k o m → KeepsWaits board (apply k m) o
  waits-move (Spawn n) spares = calmly (Spawn n) refl tt (moves_keep k (Spawn n) is kept.deleters tt)
      (All-push (WaitsRight board) k.tasks (new_task k.next_id k.next_since n) kept.right (record { console = tt; repeats = tt }))
  waits-move (Remove who) spares = calmly (Remove who) refl tt spares (All-filter (λ t. not (eqb t.id who)) (WaitsRight board) k.tasks kept.right)
  waits-move (Pend who place fifo n) spares =
      waits_keep k (pend k who place fifo n) o (same_place place) (moves k (Pend who place fifo n) tt)
      (λ p here. subst (λ q. MayBegin (both k o.semaphores) q × (is_live o q ≡ true)) (place_is place p here) (spares.may, spares.lives))
      (moves_keep k (Pend who place fifo n) is kept.deleters spares.other)
      (All-change_at (WaitsRight board) (WaitsRight board) k.tasks who (λ t. renewed k.next_since (pended place fifo (wake_at place.side k.tick n) t))
      (λ t at own h. record { console = λ q. own ∙ spares.console q; repeats = λ q. absurd (spares.other q) })
      (λ t at own h. h)
      kept.right)
      kept
  waits-move (Delay who n) spares = calmly (Delay who n) refl tt (moves_keep k (Delay who n) is kept.deleters tt)
      (right_renew who (delayed k.tick n) (λ t h.
      elim (eqb n 0) as (λ b. WaitsRight board (cond b t (record t { wake = Some (k.tick + n); turns = 0 }))) [
        | true ↦ h
        | false ↦ record { console = h.console; repeats = h.repeats }
      ]))
  waits-move (Release who) spares = calmly (Release who) refl tt (moves_keep k (Release who) is kept.deleters tt) (right_move who released (λ t h. record { console = tt; repeats = tt }))
  waits-move (ReleaseAll place) spares = calmly (ReleaseAll place) refl tt (moves_keep k (ReleaseAll place) is kept.deleters tt) (right_releases k (waiters k.tasks place) kept.right)
  waits-move (EndWait who value errno) spares = calmly (EndWait who value errno) refl tt (moves_keep k (EndWait who value errno) is kept.deleters tt)
      (right_move who (answered value errno) (right_answers value errno))
  waits-move (WakeAll place value errno) spares = calmly (WakeAll place value errno) refl tt (moves_keep k (WakeAll place value errno) is kept.deleters tt)
      (right_end_waits k (waiters k.tasks place) value errno kept.right)
  waits-move Tick spares = calmly Tick refl tt (moves_keep k Tick is kept.deleters tt)
      (tick-stable (WaitsRight board) right_renews right_answers (λ n t h. record { console = h.console; repeats = h.repeats }) k kept.right)
  waits-move (Suspend who) spares = calmly (Suspend who) refl tt (moves_keep k (Suspend who) is kept.deleters tt) (right_change who suspended (λ t. refl))
  waits-move (Resume who) spares = calmly (Resume who) refl tt (moves_keep k (Resume who) is kept.deleters tt)
      (elim (is_suspended (task_of k.tasks who)) as (λ b. All (WaitsRight board) (cond b (move_task k who resumed) k).tasks) [
        | true ↦ right_move who resumed (same_wait resumed (λ t. refl))
        | false ↦ kept.right
      ])
  waits-move (ChangePri who pri) spares = calmly (ChangePri who pri) refl tt (moves_keep k (ChangePri who pri) is kept.deleters tt)
      (elim (has_pri pri (task_of k.tasks who)) as (λ b. All (WaitsRight board) (cond b k (move_task k who (with_pri pri))).tasks) [
        | true ↦ kept.right
        | false ↦ right_move who (with_pri pri) (same_wait (with_pri pri) (λ t. refl))
      ])
  waits-move (Reset who) spares = calmly (Reset who) refl tt (moves_keep k (Reset who) is kept.deleters spares) (right_renew who unmarked (same_wait unmarked (λ t. refl)))
  waits-move (SetRegs who regs) spares = calmly (SetRegs who regs) refl tt (moves_keep k (SetRegs who regs) is kept.deleters tt) (right_free who spares (λ t. record t { regs = regs }) (λ t. refl))
  waits-move (Set who settings.PastGate) spares = calmly (Set who settings.PastGate) refl tt (moves_keep k (Set who settings.PastGate) is kept.deleters tt) (right_free who spares past_gate (λ t. refl))
  waits-move (Set who change) spares = calmly (Set who change) refl tt (moves_keep k (Set who change) is kept.deleters spares) (right_change who (with_setting change) (λ t. refl))
  waits-move (SetLast last) spares = calmly (SetLast last) refl tt (moves_keep k (SetLast last) is kept.deleters tt) kept.right
  waits-move (SetSlice n) spares = calmly (SetSlice n) refl tt (moves_keep k (SetSlice n) is kept.deleters tt) kept.right
  waits-move (DrawIds next) spares = calmly (DrawIds next) refl spares (moves_keep k (DrawIds next) is kept.deleters tt) kept.right
  waits-move (Lend on) spares = calmly (Lend on) refl tt (moves_keep k (Lend on) is kept.deleters tt) kept.right

-- ---- several priorities change
pub waits-repried : {board : BoardKind} (k : KernState) (o : Objects) (goal : ℕ → ℕ) (ts : List Task) → IsKern k → KeepsWaits board k o → KeepsWaits board (repried k goal ts) o
waits-repried k o goal [] is kept = kept
waits-repried k o goal (t ∷ ts) is kept =
    let m : Move = ChangePri t.id (goal t.id) in
    waits-repried (change_pri k t.id (goal t.id)) o goal ts (move_keeps k m is tt) (waits-move k o is kept m tt)

module _ {board : BoardKind} (k : KernState) (o : Objects) (is : IsKern k) (kept : KeepsWaits board k o) where
  pub waits-raised : (p : Profile) (ms : List (ℕ × Mutex)) → KeepsWaits board (raised_kern p k ms) o
  waits-raised p ms = waits-repried k o (lifted p k ms) k.tasks is kept

  -- when the last safe section ends, all who wait to delete the task go on
  pub waits-lessen : (who n : ℕ) → KeepsWaits board (lessen k who n) o
  waits-lessen who n =
      let count : ℕ = safe_of (task_of k.tasks who) in
      let less : KernState = set_safe k who (count - n) in
      let set : BeginsOnly nowhere k less = moves k (Set who (settings.Safe (count - n))) tt in
      let right : All (WaitsRight board) less.tasks = right_change k o is kept who (λ t. record t { safe = count - n }) (λ t. refl) in
      elim (ltb 0 count && leb count n) as (λ b. KeepsDeleters (cond b (release_all less (deletion who)) less) → KeepsWaits board (cond b (release_all less (deletion who)) less) o) [
        | true ↦ λ goes.
            waits_calm k (release_all less (deletion who)) o (then nowhere k less (release_all less (deletion who)) set (moves less (ReleaseAll (deletion who)) tt)) goes
            (right_releases less (waiters less.tasks (deletion who)) right) kept
        | false ↦ λ goes. waits_calm k less o set goes right kept
      ] ((calls_keep k is kept.deleters).easing who n)
