-- What each call adds to the kernel's counters.
use Rattle.std.proofs.Common.{◌≡◌, ℕ, ◌+◌, List, [], ◌∷◌, length, Option, None, Some, refl, ◌∙◌, arith}
use Rattle.wind_base.specs.declared.errno.Errno.{Errno}
use Rattle.wind_base.specs.declared.errno.Errno.TheVariants as errors
use Rattle.id_table.specs.declared.ident.Place.{Place}
use Rattle.task_block.specs.declared.task.Task.{Task}
use Rattle.wind_core.specs.State.{KernState, IsKern, task_of}
use Rattle.wind_core.specs.Orders.{waiters}
use Rattle.wind_core.specs.Moves.{answered, move_found, move_task, end_wait, end_waits, wake_all}
use Rattle.wind_core.proofs.Waking.{since-end_wait, length-waiters}
use Rattle.wind_core.proofs.Keeping.{end_waits_keep}
use Rattle.msg_queue.specs.declared.asks.Ask.{Ask}
use Rattle.msg_queue.specs.State.{QueueState, Scene, queue_of, receivers, senders, first_asking}
use Rattle.msg_queue.specs.Sends.{declined, passed_on, queued, blocked, send_deed, after_send}
use Rattle.msg_queue.specs.Receives.{denied, taken, starved, receive_deed, taken_out, refilled, after_receive}
use Rattle.msg_queue.specs.Comings.{awakened, deleted}
use Rattle.msg_queue.specs.Laws.{CountsOn, CountLaw}

counts_itself : (k : KernState) (n : ℕ) → CountsOn n k k
counts_itself k n = record { tick = refl; lent = refl; sinces = omega arith }

counts_then : (n m : ℕ) (k l j : KernState) → CountsOn n k l → CountsOn m l j → CountsOn (n + m) k j
counts_then n m k l j first second = record { tick = second.tick ∙ first.tick; lent = second.lent ∙ first.lent; sinces = omega (arith, first.sinces, second.sinces) }

pub move_stays : (k : KernState) (who : ℕ) (f : Task → Task) → ((move_task k who f).tick ≡ k.tick) × ((move_task k who f).lent ≡ k.lent)
move_stays k who f = elim (task_of k.tasks who) as (λ o. ((move_found k who f o).tick ≡ k.tick) × ((move_found k who f o).lent ≡ k.lent)) [ None ↦ (refl, refl) | Some t ↦ (refl, refl) ]

counts_end_wait : (k : KernState) (who answer : ℕ) (errno : Option Errno) → CountsOn 1 k (end_wait k who answer errno)
counts_end_wait k who answer errno =
    let stays = move_stays k who (answered answer errno) in
    record { tick = stays.0; lent = stays.1; sinces = since-end_wait k who answer errno }

counts_end_waits : (k : KernState) (ts : List Task) (answer : ℕ) (errno : Option Errno) → CountsOn (length ts) k (end_waits k ts answer errno)
counts_end_waits k [] answer errno = counts_itself k 0
counts_end_waits k (t ∷ ts) answer errno =
    let one = counts_end_wait k t.id answer errno in
    let more = counts_end_waits (end_wait k t.id answer errno) ts answer errno in
    record { tick = more.tick ∙ one.tick; lent = more.lent ∙ one.lent; sinces = omega (arith, one.sinces, more.sinces) }

pub counts_wake_all : (k : KernState) (place : Place) (answer : ℕ) (errno : Option Errno) → IsKern k → CountsOn 256 k (wake_all k place answer errno)
counts_wake_all k place answer errno is =
    let all = counts_end_waits k (waiters k.tasks place) answer errno in
    record { tick = all.tick; lent = all.lent; sinces = omega (arith, all.sinces, length-waiters k.tasks place, is.few) }

counts_refilled : (s : Scene) (id : ℕ) (q : QueueState) (o : Option Ask) → CountsOn 1 s.kern (refilled s id q o).kern
counts_refilled s id q None = counts_itself s.kern 1
counts_refilled s id q (Some a) = counts_end_wait s.kern a.who 0 None

counts_deleted : (s : Scene) (id : ℕ) (o : Option QueueState) → IsKern s.kern → CountsOn 512 s.kern (deleted s id o).kern
counts_deleted s id None is = counts_itself s.kern 512
counts_deleted s id (Some q) is =
    let deletion : Option Errno = Some errors.ObjDeleted in
    let half = wake_all s.kern (receivers id) 4294967295 deletion in
    counts_then 256 256 s.kern half (awakened s.kern id) (counts_wake_all s.kern (receivers id) 4294967295 deletion is)
    (counts_wake_all half (senders id) 4294967295 deletion (end_waits_keep s.kern (waiters s.kern.tasks (receivers id)) 4294967295 deletion is))

pub counts : CountLaw
counts = record {
  sending = λ s id x.
      elim (send_deed s id x) as (λ d. CountsOn 1 s.kern (after_send s id x d).kern) [
        | declined e ↦ counts_itself s.kern 1
        | passed_on a ↦ counts_end_wait s.kern a.who _ None
        | queued q ↦ counts_itself s.kern 1
        | blocked who q ↦ record { tick = refl; lent = refl; sinces = omega arith }
      ];
  receiving = λ s id x.
      elim (receive_deed s id x) as (λ d. CountsOn 1 s.kern (after_receive s id x d).kern) [
        | denied e ↦ counts_itself s.kern 1
        | taken q m rest ↦ counts_refilled (taken_out s id x q m rest) id (record q { held = rest }) (first_asking s (senders id))
        | starved q ↦ record { tick = refl; lent = refl; sinces = omega arith }
      ];
  creating = λ s q. record { tick = refl; lent = refl; sinces = omega arith };
  deleting = λ s id is. counts_deleted s id (queue_of s id) is;
}
