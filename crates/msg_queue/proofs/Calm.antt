-- The kernel's moves begin no wait at a queue.
use Rattle.std.proofs.Common.{◌≡◌, ℕ, ◌+◌, ◌≤◌, Bool, true, false, not, cond, eqb, List, [], ◌∷◌, Option, None, Some, refl, sym, ap, ◌∙◌, subst, arith, ◌⊎◌, inl, inr, ⊎_elim}
use Rattle.std.specs.List.{All}
use Rattle.std.proofs.lemmas.List.Elements.{All-contains, All-filter, All-push}
use Rattle.std.proofs.lemmas.Option.{same_Some}
use Rattle.wind_base.specs.declared.errno.Errno.{Errno}
use Rattle.wind_base.specs.declared.errno.Errno.TheVariants as errors
use Rattle.id_table.specs.declared.ident.Place.{Place}
use Rattle.task_block.specs.declared.task.Task.{Task}
use Rattle.wind_core.specs.State.{KernState, IsKern, task_of}
use Rattle.wind_core.specs.Orders.{waiters}
use Rattle.wind_core.specs.Moves.{renewed, new_task, remove, wake_at, pended, pend, delayed, delay, released, release, answered, end_wait, end_waits, wake_all, suspended, is_suspended, resumed, resume, unmarked, reset, with_pri, has_pri, change_pri, move_task, change_task, renew_task, with_setting}
use Rattle.wind_core.specs.Releases.{releases}
use Rattle.wind_core.specs.Tick.{tick}
use Rattle.wind_core.specs.Move.{Spawn, Remove, Pend, Delay, Release, ReleaseAll, EndWait, WakeAll, Tick, Suspend, Resume, ChangePri, Reset, Set, SetRegs, SetLast, SetSlice, DrawIds, Lend, apply, after as after_moves}
use Rattle.wind_core.proofs.Mending.{setting_stays}
use Rattle.wind_core.proofs.Stable as stable
use Rattle.wind_core.proofs.Moving.{move_keeps}
use Rattle.wind_core.proofs.Ticking.{tick_keeps}
use Rattle.wind_core.proofs.NextId.{next-move, next-end_waits}
pub use Rattle.wind_core.proofs.NextId.{next-tick}
use Rattle.msg_queue.specs.State.{QueueState, receivers, senders}
use Rattle.msg_queue.specs.Comings.{awakened}
use Rattle.msg_queue.specs.Kept.{Waited, IsElsewhere, BeginsNone, IsCalm}
use Rattle.msg_queue.specs.Laws.{CalmLaw, ThenLaw, SeriesLaw}
use Rattle.msg_queue.proofs.Members.{each}

-- ---- the next id stays if a queue is deleted
pub next-awakened : (k : KernState) (id : ℕ) → (awakened k id).next_id ≡ k.next_id
next-awakened k id =
    let first = wake_all k (receivers id) 4294967295 (Some errors.ObjDeleted) in
    next-end_waits first (waiters first.tasks (senders id)) 4294967295 (Some errors.ObjDeleted) ∙ next-end_waits k (waiters k.tasks (receivers id)) 4294967295 (Some errors.ObjDeleted)

-- ---- no wait at a queue begins
module _ (rs : List (ℕ × QueueState)) (k : KernState) (n : ℕ) where
  abbrev still : Task → Type 0
  still = BeginsNone rs k n

  pub at_first : All still k.tasks
  at_first = each still k.tasks (λ t at place here. inl (t, at, refl, here))

  -- a task that waits for nothing
  pub idle : (t : Task) → t.wait ≡ None → still t
  idle t e place here = absurd (cc)

  renews : (since : ℕ) (t : Task) → still t → still (renewed since t)
  renews since t p = p

  pub still-change : (l : KernState) (who : ℕ) (f : Task → Task) → ((t : Task) → still t → still (f t)) → All still l.tasks → All still (change_task l who f).tasks
  still-change l who f keeps all = stable.All-change still l.tasks who f keeps all

  pub still-renew : (l : KernState) (who : ℕ) (f : Task → Task) → ((t : Task) → still t → still (f t)) → All still l.tasks → All still (renew_task l who f).tasks
  still-renew l who f keeps all = stable.renew_task-stable still renews l who f keeps all

  pub still-move : (l : KernState) (who : ℕ) (f : Task → Task) → ((t : Task) → still t → still (f t)) → All still l.tasks → All still (move_task l who f).tasks
  still-move l who f keeps all = stable.move_task-stable still renews l who f keeps all

  pub still-end_waits : (l : KernState) (ts : List Task) (answer : ℕ) (errno : Option Errno) → All still l.tasks → All still (end_waits l ts answer errno).tasks
  still-end_waits l [] answer errno all = all
  still-end_waits l (t ∷ ts) answer errno all =
      still-end_waits (end_wait l t.id answer errno) ts answer errno (still-move l t.id (answered answer errno) (λ u p. idle (answered answer errno u) refl) all)

  pub still-tick : (l : KernState) → All still l.tasks → All still (tick l).tasks
  still-tick l all = stable.tick-stable still renews (λ answer errno t p. idle (answered answer errno t) refl) (λ m t p. p) l all

  -- the same for what is done under a condition
  still-if : (b : Bool) (l m : KernState) → All still l.tasks → All still m.tasks → All still (cond b l m).tasks
  still-if true l m first second = first
  still-if false l m first second = second

next-if : (b : Bool) (k l m : KernState) → l.next_id ≡ k.next_id → m.next_id ≡ k.next_id → (cond b l m).next_id ≡ k.next_id
next-if true k l m first second = first
next-if false k l m first second = second

pub calm_at : (rs : List (ℕ × QueueState)) (k l : KernState) → IsKern l → l.next_id ≡ k.next_id → All (BeginsNone rs k k.next_id) l.tasks → IsCalm rs k l
calm_at rs k l is same all = record { kern = is; ids = omega (arith, same); waits = subst (λ n. All (BeginsNone rs k n) l.tasks) (sym same) all }

-- a field other than the wait is written
pub calm_set : (rs : List (ℕ × QueueState)) (k : KernState) (who : ℕ) (f : Task → Task) → ((t : Task) → (f t).id ≡ t.id) → ((t : Task) → (f t).wait ≡ t.wait) → IsKern (change_task k who f)
    → IsCalm rs k (change_task k who f)
calm_set rs k who f id wait is =
    calm_at rs k (change_task k who f) is refl
    (still-change rs k k.next_id k who f
    (λ t p place here. subst (λ i. Waited k.tasks i place ⊎ IsElsewhere rs k.next_id place) (sym (id t)) (p place (sym (wait t) ∙ here))) (at_first rs k k.next_id))

pub calm_end_wait : (rs : List (ℕ × QueueState)) (k : KernState) (who answer : ℕ) (errno : Option Errno) → IsKern k → IsCalm rs k (end_wait k who answer errno)
calm_end_wait rs k who answer errno is =
    calm_at rs k (end_wait k who answer errno) (move_keeps k (EndWait who answer errno) is tt) (next-move k who (answered answer errno))
    (still-move rs k k.next_id k who (answered answer errno) (λ t p. idle rs k k.next_id (answered answer errno t) refl) (at_first rs k k.next_id))

calm_release : (rs : List (ℕ × QueueState)) (k : KernState) (who : ℕ) → IsKern k → IsCalm rs k (release k who)
calm_release rs k who is =
    calm_at rs k (release k who) (move_keeps k (Release who) is tt) (next-move k who released)
    (still-move rs k k.next_id k who released (λ t p. idle rs k k.next_id (released t) refl) (at_first rs k k.next_id))

-- two such moves, one after the other
elsewhere_later : (rs : List (ℕ × QueueState)) (n m : ℕ) (place : Place) → n ≤ m → IsElsewhere rs n place → IsElsewhere rs m place
elsewhere_later rs n m place more other side = let is = other side in (is.0, omega (arith, is.1, more), is.2)

pub calm_then : ThenLaw
calm_then rs k l m first second = record {
  kern = second.kern;
  ids = omega (arith, first.ids, second.ids);
  waits = each (BeginsNone rs k m.next_id) m.tasks (λ t at place here.
      ⊎_elim {C = Waited k.tasks t.id place ⊎ IsElsewhere rs m.next_id place}
      (λ from.
      ⊎_elim {C = Waited k.tasks t.id place ⊎ IsElsewhere rs m.next_id place}
      (λ before. inl (before.0, before.1, before.2 ∙ from.2, before.3))
      (λ other. inr (elsewhere_later rs l.next_id m.next_id place second.ids other))
      (All-contains (BeginsNone rs k l.next_id) l.tasks from.0 first.waits from.1 place from.3))
      (λ other. inr other) (All-contains (BeginsNone rs l m.next_id) m.tasks t second.waits at place here));
}

calm-releases : (rs : List (ℕ × QueueState)) (k : KernState) (ts : List Task) → IsKern k → IsCalm rs k (releases k ts)
calm-releases rs k [] is = calm_at rs k k is refl (at_first rs k k.next_id)
calm-releases rs k (t ∷ ts) is = let once = calm_release rs k t.id is in calm_then rs k (release k t.id) (releases k (t ∷ ts)) once (calm-releases rs (release k t.id) ts once.kern)

pub calms : CalmLaw
calms rs k (Spawn new) is may spares =
    let n = k.next_id in
    record {
      kern = move_keeps k (Spawn new) is may;
      ids = omega arith;
      waits = All-push (BeginsNone rs k (n + 1)) k.tasks (new_task n k.next_since new) (at_first rs k (n + 1)) (idle rs k (n + 1) (new_task n k.next_since new) refl);
    }
calms rs k (Remove who) is may spares =
    calm_at rs k (remove k who) (move_keeps k (Remove who) is may) refl (All-filter (λ (t : Task). not (eqb t.id who)) (BeginsNone rs k k.next_id) k.tasks (at_first rs k k.next_id))
calms rs k (Pend who place fifo m) is may spares =
    let f : Task → Task = pended place fifo (wake_at place.side k.tick m) in
    calm_at rs k (pend k who place fifo m) (move_keeps k (Pend who place fifo m) is may) refl
    (still-renew rs k k.next_id k who f (λ t p there here. inr (subst (IsElsewhere rs k.next_id) (same_Some place there here) spares)) (at_first rs k k.next_id))
calms rs k (Delay who m) is may spares =
    calm_at rs k (delay k who m) (move_keeps k (Delay who m) is may) refl
    (still-renew rs k k.next_id k who (delayed k.tick m)
    (λ t p. elim (eqb m 0) as (λ b. BeginsNone rs k k.next_id (cond b t (record t { wake = Some (k.tick + m); turns = 0 }))) [ true ↦ p | false ↦ p ]) (at_first rs k k.next_id))
calms rs k (Release who) is may spares = calm_release rs k who is
calms rs k (ReleaseAll place) is may spares = calm-releases rs k (waiters k.tasks place) is
calms rs k (EndWait who value errno) is may spares = calm_end_wait rs k who value errno is
calms rs k (WakeAll place value errno) is may spares =
    calm_at rs k (wake_all k place value errno) (move_keeps k (WakeAll place value errno) is may) (next-end_waits k (waiters k.tasks place) value errno)
    (still-end_waits rs k k.next_id k (waiters k.tasks place) value errno (at_first rs k k.next_id))
calms rs k Tick is may spares = calm_at rs k (tick k) (tick_keeps k is) (next-tick k) (still-tick rs k k.next_id k (at_first rs k k.next_id))
calms rs k (Resume who) is may spares =
    let moved = move_task k who resumed in
    let b = is_suspended (task_of k.tasks who) in
    let first = at_first rs k k.next_id in
    calm_at rs k (resume k who) (move_keeps k (Resume who) is may) (next-if b k moved k (next-move k who resumed) refl)
    (still-if rs k k.next_id b moved k (still-move rs k k.next_id k who resumed (λ t p. p) first) first)
calms rs k (ChangePri who pri) is may spares =
    let moved = move_task k who (with_pri pri) in
    let b = has_pri pri (task_of k.tasks who) in
    let first = at_first rs k k.next_id in
    calm_at rs k (change_pri k who pri) (move_keeps k (ChangePri who pri) is may) (next-if b k k moved refl (next-move k who (with_pri pri)))
    (still-if rs k k.next_id b k moved first (still-move rs k k.next_id k who (with_pri pri) (λ t p. p) first))
calms rs k (Reset who) is may spares =
    calm_at rs k (reset k who) (move_keeps k (Reset who) is may) refl (still-renew rs k k.next_id k who unmarked (λ t p. p) (at_first rs k k.next_id))
calms rs k (Suspend who) is may spares = calm_set rs k who suspended (λ t. refl) (λ t. refl) (move_keeps k (Suspend who) is may)
calms rs k (SetRegs who regs) is may spares = calm_set rs k who (λ t. record t { regs = regs }) (λ t. refl) (λ t. refl) (move_keeps k (SetRegs who regs) is may)
calms rs k (Set who change) is may spares =
    let stays = setting_stays change in
    calm_set rs k who (with_setting change) (λ t. ap (λ s. s.0) (stays t)) (λ t. ap (λ s. s.3) (stays t)) (move_keeps k (Set who change) is may)
calms rs k (SetLast last) is may spares = calm_at rs k (record k { last = last }) (move_keeps k (SetLast last) is may) refl (at_first rs k k.next_id)
calms rs k (SetSlice n) is may spares = calm_at rs k (record k { slice = n }) (move_keeps k (SetSlice n) is may) refl (at_first rs k k.next_id)
calms rs k (DrawIds next) is may spares = record { kern = move_keeps k (DrawIds next) is may; ids = may.0; waits = at_first rs k next }
calms rs k (Lend on) is may spares = calm_at rs k (record k { lent = on }) (move_keeps k (Lend on) is may) refl (at_first rs k k.next_id)

-- ---- any number of moves
pub calm_stays : (rs : List (ℕ × QueueState)) (k : KernState) → IsKern k → IsCalm rs k k
calm_stays rs k is = calm_at rs k k is refl (at_first rs k k.next_id)

pub calm_series : SeriesLaw
calm_series rs k [] is each = calm_stays rs k is
calm_series rs k (m ∷ ms) is each =
    let once = calms rs k m is each.0.0 each.0.1 in
    calm_then rs k (apply k m) (after_moves (apply k m) ms) once (calm_series rs (apply k m) ms once.kern each.1)
