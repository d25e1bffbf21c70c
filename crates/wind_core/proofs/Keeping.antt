-- Moves of the kernel keep its invariant, whether the task that they name is live or not.
use Rattle.std.proofs.Common.{◌≡◌, ℕ, ◌+◌, ◌<◌, ◌≤◌, Bool, true, false, cond, leb, List, [], ◌∷◌, length, Option, None, Some, IfSome, refl, sym, ◌∙◌, subst, arith, inl, inr}
use Rattle.std.proofs.lemmas.Bool.{leb-false}
use Rattle.std.proofs.lemmas.Option.{same_Some}
use Rattle.wind_base.specs.declared.errno.Errno.{Errno}
use Rattle.wind_base.specs.declared.errno.Errno.TheVariants as errors
use Rattle.task_block.specs.declared.task.Task.{Task}
use Rattle.task_block.specs.declared.task.NewTask.{NewTask}
use Rattle.task_block.specs.Standing.{is_ready}
use Rattle.id_table.specs.Records.{change}
use Rattle.id_table.proofs.Records.{replace-change}
use Rattle.id_table.proofs.Places.{not_there}
use Rattle.wind_core.specs.State.{KernState, IsKern, WakesAhead, task_id, task_of}
use Rattle.wind_core.specs.Moves.{renewed, settled, change_task, renew_task, move_found, move_task, new_task, spawn, spawn_refusal, released, release, answered, end_wait, end_waits, resumed, resume, is_suspended, with_pri, has_pri, change_pri}
use Rattle.wind_core.proofs.Writes.{MayFollow, IsKern-replace, counters_rise, settled_follows}
use Rattle.wind_core.proofs.Comings.{push_keeps}

-- ---- one task is changed
-- the next order number can rise
more_sinces : (s : KernState) (n : ℕ) → s.next_since ≤ n → IsKern s → IsKern (record s { next_since = n })
more_sinces s n more is = counters_rise s s.next_id n s.tick s.slice s.lent s.last is (omega arith) is.last_id more is.ahead

-- the task with an id is replaced by one that can follow it
pub change_keeps : (s : KernState) (who n : ℕ) (f : Task → Task) → IsKern s → s.next_since ≤ n → ((x : Task) → task_of s.tasks who ≡ Some x → MayFollow s x (f x) n)
    → IsKern (record s { tasks = change task_id s.tasks who f; next_since = n })
change_keeps s who n f is more may =
    elim (task_of s.tasks who) as (λ o. task_of s.tasks who ≡ o → IsKern (record s { tasks = change task_id s.tasks who f; next_since = n })) [
      | None ↦ λ e. subst (λ ts. IsKern (record s { tasks = ts; next_since = n })) (sym (not_there task_id s.tasks who f e)) (more_sinces s n more is)
      | Some x ↦ λ e. subst (λ ts. IsKern (record s { tasks = ts; next_since = n })) (replace-change task_id s.tasks who x f is.rising e) (IsKern-replace s who n x (f x) is e (may x e))
    ] refl

-- f keeps the id and the order number, and a wake stays in the future
pub record IsMild (tick : ℕ) (f : Task → Task) : Type 0 where
  pub id : (t : Task) → (f t).id ≡ t.id
  pub since : (t : Task) → (f t).since ≡ t.since
  pub ahead : (t : Task) → WakesAhead tick t → WakesAhead tick (f t)

pub change_task_keeps : (s : KernState) (who : ℕ) (f : Task → Task) → IsKern s → IsMild s.tick f → IsKern (change_task s who f)
change_task_keeps s who f is mild =
    change_keeps s who s.next_since f is (omega arith) (λ x e. record { id = mild.id x; since = inl (mild.since x, refl); ahead = mild.ahead x })

pub renew_task_keeps : (s : KernState) (who : ℕ) (f : Task → Task) → IsKern s → ((t : Task) → (f t).id ≡ t.id) → ((t : Task) → WakesAhead s.tick t → WakesAhead s.tick (f t))
    → IsKern (renew_task s who f)
renew_task_keeps s who f is id ahead =
    change_keeps s who (s.next_since + 1) (λ t. renewed s.next_since (f t)) is (omega arith) (λ x e. record { id = id x; since = inr (refl, refl); ahead = ahead x })

pub move_task_keeps : (s : KernState) (who : ℕ) (f : Task → Task) → IsKern s → IsMild s.tick f → IsKern (move_task s who f)
move_task_keeps s who f is mild =
    elim (task_of s.tasks who) as (λ o. task_of s.tasks who ≡ o → IsKern (move_found s who f o)) [
      | None ↦ λ e. is
      | Some t ↦ λ e.
          change_keeps s who (s.next_since + cond (is_ready (f t)) 1 0) (λ u. settled s.next_since (f u)) is (omega arith)
          (λ x q.
          subst (λ v. MayFollow s v (settled s.next_since (f v)) (s.next_since + cond (is_ready (f t)) 1 0)) (same_Some t x (sym e ∙ q))
          (settled_follows s t (f t) (mild.id t) (mild.since t) (mild.ahead t)))
    ] refl

-- ---- the calls
-- only a field that the invariant doesn't mention is written
plain : (tick : ℕ) (f : Task → Task) → ((t : Task) → (f t).id ≡ t.id) → ((t : Task) → (f t).since ≡ t.since) → ((t : Task) → (f t).wake ≡ t.wake) → IsMild tick f
plain tick f id since wake = record { id = id; since = since; ahead = λ t h. subst (λ w. IfSome w (λ v. tick < v)) (sym (wake t)) h }

pub end_wait_keeps : (s : KernState) (who answer : ℕ) (errno : Option Errno) → IsKern s → IsKern (end_wait s who answer errno)
end_wait_keeps s who answer errno is = move_task_keeps s who (answered answer errno) is (record { id = λ t. refl; since = λ t. refl; ahead = λ t h. tt })

pub release_keeps : (s : KernState) (who : ℕ) → IsKern s → IsKern (release s who)
release_keeps s who is = move_task_keeps s who released is (record { id = λ t. refl; since = λ t. refl; ahead = λ t h. tt })

pub end_waits_keep : (s : KernState) (ts : List Task) (answer : ℕ) (errno : Option Errno) → IsKern s → IsKern (end_waits s ts answer errno)
end_waits_keep s [] answer errno is = is
end_waits_keep s (t ∷ ts) answer errno is = end_waits_keep (end_wait s t.id answer errno) ts answer errno (end_wait_keeps s t.id answer errno is)

pub resume_keeps : (s : KernState) (who : ℕ) → IsKern s → IsKern (resume s who)
resume_keeps s who is =
    elim (is_suspended (task_of s.tasks who)) as (λ b. IsKern (cond b (move_task s who resumed) s)) [
      | true ↦ move_task_keeps s who resumed is (plain s.tick resumed (λ t. refl) (λ t. refl) (λ t. refl))
      | false ↦ is
    ]

pub change_pri_keeps : (s : KernState) (who pri : ℕ) → IsKern s → IsKern (change_pri s who pri)
change_pri_keeps s who pri is =
    elim (has_pri pri (task_of s.tasks who)) as (λ b. IsKern (cond b s (move_task s who (with_pri pri)))) [
      | true ↦ is
      | false ↦ move_task_keeps s who (with_pri pri) is (plain s.tick (with_pri pri) (λ t. refl) (λ t. refl) (λ t. refl))
    ]

-- a task is made only if there is room and an id is left
below_limit : (n id : ℕ) (e f : Errno) → cond (leb 256 n) (Some e) (cond (leb 1048577 id) (Some f) None) ≡ None → (n < 256) × (id ≤ 1048576)
below_limit n id e f none =
    elim (leb 256 n) as (λ b. leb 256 n ≡ b → cond b (Some e) (cond (leb 1048577 id) (Some f) None) ≡ None → (n < 256) × (id ≤ 1048576)) [
      | true ↦ λ h q. absurd (cc)
      | false ↦ λ h q.
          elim (leb 1048577 id) as (λ b. leb 1048577 id ≡ b → cond b (Some f) None ≡ None → (n < 256) × (id ≤ 1048576)) [
            | true ↦ λ i r. absurd (cc)
            | false ↦ λ i r. (omega (arith, leb-false 256 n h), omega (arith, leb-false 1048577 id i))
          ] refl q
    ] refl none

room : (s : KernState) → spawn_refusal s ≡ None → (length s.tasks < 256) × (s.next_id ≤ 1048576)
room s none = below_limit (length s.tasks) s.next_id errors.TooMany errors.IdsSpent none

pub spawn_keeps : (s : KernState) (n : NewTask) → IsKern s → spawn_refusal s ≡ None → IsKern (spawn s n)
spawn_keeps s n is none =
    let left = room s none in
    push_keeps s (new_task s.next_id s.next_since n) is left.0 left.1 refl refl tt

pub writes : (s : KernState) (who : ℕ) (f : Task → Task) → IsKern s → ((t : Task) → (f t).id ≡ t.id) → ((t : Task) → (f t).since ≡ t.since) → ((t : Task) → (f t).wake ≡ t.wake)
    → IsKern (change_task s who f)
writes s who f is id since wake = change_task_keeps s who f is (plain s.tick f id since wake)

-- counters and notes that say nothing about the tasks
pub counters_keep : (k : KernState) (next slice : ℕ) (lent : Bool) (last : Option ℕ) → IsKern k → k.next_id ≤ next → next ≤ 1048577
    → IsKern (record k { next_id = next; slice = slice; lent = lent; last = last })
counters_keep k next slice lent last is more most = counters_rise k next k.next_since k.tick slice lent last is more most (omega arith) is.ahead
