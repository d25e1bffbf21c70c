-- Which tasks are ready and which have a wake, after one is changed, made or removed; and the first of each queue.
use Rattle.std.proofs.Common.{◌≡◌, ℕ, ◌<◌, ◌≤◌, Bool, true, false, not, cond, leb, eqb, List, [], ◌∷◌, ◌++◌, map, length, None, Some, is_some, refl, sym, ap, ◌∙◌, arith}
use Rattle.std.specs.Prelude.{unwrap_or}
use Rattle.std.specs.List.{All}
use Rattle.std.specs.Option.{option_map}
use Rattle.std.specs.Cmp.Lexicographic.{slice_cmp}
use Rattle.std.specs.Ordering.{is_lt, nat_cmp, ordering_then}
use Rattle.std.specs.declared.cmp.Ordering.TheVariants.{Less, Equal, Greater}
use Rattle.std.proofs.lemmas.Bool.{lt-ltb, le-ltb}
use Rattle.std.proofs.lemmas.List.Elements.{All-weaker}
use Rattle.wind_base.specs.Limits.{most_tasks}
use Rattle.task_block.specs.declared.task.Task.{Task}
use Rattle.task_block.specs.Standing.{is_ready}
use Rattle.id_table.specs.Records.{replace, without, Rising}
use Rattle.id_table.specs.Sorting.{in_line, first}
use Rattle.ready_queue.specs.Order as urgent
use Rattle.delay_queue.specs.Wakes as timed
use Rattle.wind_core.specs.State.{task_id, task_of}
use Rattle.wind_core.specs.Orders.{is_less, urgency, is_before, most_urgent, sleeps, waking_tick, wake_key, wakes_before}
use Rattle.wind_core.specs.Queues.{as_ready, ready_of, ready_tasks, as_sleeper, delayed_of, delayed_tasks, ready_mended, with_wake, delays_mended}
use Rattle.wind_core.proofs.Passes.{neither, is_before-order, wakes_before-order}
use Rattle.wind_core.proofs.Lines.{After, line_without, line_renewed, line_gone, line_unmoved, line_push, line_pushed, line_absent, fewer_in_line, line_found, length-line, line_same}

-- ---- two keys with different second numbers
-- the first numbers decide; if they are equal, the second ones
pub less_first : (a b c d : ℕ) (xs ys : List ℕ) → c < d → is_less (a ∷ c ∷ xs) (b ∷ d ∷ ys) ≡ leb a b
less_first a b c d xs ys h = ap (λ r. is_lt (ordering_then (nat_cmp a b) (ordering_then (cond r Less (cond (eqb c d) Equal Greater)) (slice_cmp nat_cmp xs ys)))) (lt-ltb c d h) ∙ decided
  where
    decided : is_lt (ordering_then (nat_cmp a b) Less) ≡ leb a b
    decided = grind arith

pub more_first : (a b c d : ℕ) (xs ys : List ℕ) → c < d → is_less (b ∷ d ∷ ys) (a ∷ c ∷ xs) ≡ not (leb a b)
more_first a b c d xs ys h = grind (arith, lt-ltb c d h, le-ltb d c (omega arith))

-- a later task comes after
after_ready : (y x : Task) → x.since < y.since → After task_id urgent.task_id urgent.task_pri as_ready (λ _. refl) is_before is_before-order is_ready y x
after_ready y x h = record {
  ahead = less_first x.pri y.pri x.since y.since (x.id ∷ []) (y.id ∷ []) h;
  later = more_first x.pri y.pri x.since y.since (x.id ∷ []) (y.id ∷ []) h;
}

after_asleep : (y x : Task) → x.since < y.since → After task_id timed.task_id timed.task_wake as_sleeper (λ _. refl) wakes_before wakes_before-order sleeps y x
after_asleep y x h = record {
  ahead = less_first (waking_tick x) (waking_tick y) x.since y.since (x.id ∷ []) (y.id ∷ []) h;
  later = more_first (waking_tick x) (waking_tick y) x.since y.since (x.id ∷ []) (y.id ∷ []) h;
}

-- y is later than all of these
abbrev pub IsLast : Task → List Task → Type 0
IsLast y ts = All (λ t. t.since < y.since) ts

-- ---- the ready tasks
abbrev ready_as : List (ℕ × ℕ) → urgent.Order
ready_as ts = record { tasks = ts; room = most_tasks }

pub ready_without : (ts : List Task) (who : ℕ) → urgent.without_task (ready_tasks ts) who ≡ ready_tasks (without task_id ts who)
ready_without ts who = ap ready_as (sym (line_without task_id urgent.task_id urgent.task_pri as_ready (λ _. refl) is_before is_before-order is_ready ts who))

-- the task becomes ready as the last of all, or isn't ready
pub ready_mended_is : (ts : List Task) (who : ℕ) (x y : Task) → Rising task_id ts → task_of ts who ≡ Some x → y.id ≡ who → (is_ready y ≡ true → IsLast y ts)
    → ready_mended (ready_tasks ts) y ≡ ready_tasks (replace task_id ts who y)
ready_mended_is ts who x y up e own last =
    elim (is_ready y) as (λ b. is_ready y ≡ b
    → cond b (urgent.with_task (urgent.without_task (ready_tasks ts) y.id) (as_ready y)) (urgent.without_task (ready_tasks ts) y.id) ≡ ready_tasks (replace task_id ts who y)) [
      | true ↦ λ b.
          ap (λ n. ready_as (urgent.put_in (urgent.taken_out (ready_of ts) n) (as_ready y))) own
          ∙ ap ready_as (sym (line_renewed task_id urgent.task_id urgent.task_pri as_ready (λ _. refl) is_before is_before-order is_ready ts who x y up e b
          (All-weaker (λ t. t.since < y.since) (After task_id urgent.task_id urgent.task_pri as_ready (λ _. refl) is_before is_before-order is_ready y) (λ t h. after_ready y t h) ts (last b))))
      | false ↦ λ b.
          ap (λ n. ready_as (urgent.taken_out (ready_of ts) n)) own
          ∙ ap ready_as (sym (line_gone task_id urgent.task_id urgent.task_pri as_ready (λ _. refl) is_before is_before-order is_ready ts who x y up e b))
    ] refl

-- what the queue reads of a task
abbrev pub seen_ready : Task → Bool × (ℕ × ℕ) × List ℕ
seen_ready t = (is_ready t, as_ready t, urgency t)

pub ready_same : (ts : List Task) (who : ℕ) (x y : Task) → Rising task_id ts → task_of ts who ≡ Some x → seen_ready y ≡ seen_ready x → ready_tasks (replace task_id ts who y) ≡ ready_tasks ts
ready_same ts who x y up e same = ap ready_as (line_same seen_ready (λ s. s.1) (λ s r. is_less s.2 r.2) (λ s. s.0) task_id ts who x y up e same)

-- a task is added as the last of all
pub ready_push : (ts : List Task) (y : Task) → is_ready y ≡ true → IsLast y ts → ready_tasks (ts ++ y ∷ []) ≡ urgent.with_task (ready_tasks ts) (as_ready y)
ready_push ts y ready last =
    ap ready_as (line_push task_id urgent.task_id urgent.task_pri as_ready (λ _. refl) is_before is_before-order is_ready ts y ready
    (All-weaker (λ t. t.since < y.since) (After task_id urgent.task_id urgent.task_pri as_ready (λ _. refl) is_before is_before-order is_ready y) (λ t h. after_ready y t h) ts last))

pub length-ready : (ts : List Task) → length (ready_of ts) ≤ length ts
length-ready ts = length-line task_id urgent.task_id urgent.task_pri as_ready (λ _. refl) is_before is_before-order is_ready ts

pub ready_absent : (ts : List Task) (who : ℕ) → task_of ts who ≡ None → urgent.pri_of (ready_of ts) who ≡ None
ready_absent ts who none = ap (option_map urgent.task_pri) (line_absent task_id urgent.task_id urgent.task_pri as_ready (λ _. refl) is_before is_before-order is_ready ts who none)

pub fewer_ready : (ts : List Task) (who : ℕ) (x : Task) → task_of ts who ≡ Some x → length (urgent.taken_out (ready_of ts) who) < length ts
fewer_ready ts who x e = fewer_in_line task_id urgent.task_id urgent.task_pri as_ready (λ _. refl) is_before is_before-order is_ready ts who x e

-- a ready task is found with its priority
pub ready_found : (ts : List Task) (who : ℕ) (x : Task) → Rising task_id ts → task_of ts who ≡ Some x → is_ready x ≡ true → urgent.pri_of (ready_of ts) who ≡ Some x.pri
ready_found ts who x up e ready =
    ap (option_map urgent.task_pri)
    (line_found task_id urgent.task_id urgent.task_pri as_ready (λ _. refl) is_before is_before-order is_ready
    (λ t u left right. let same = neither (urgency t) (urgency u) left right in cc) ts who x up e ready)

-- the first of the ready tasks
first_shown : (ts : List Task) → urgent.first_id (map as_ready ts) ≡ option_map task_id (first ts)
first_shown [] = refl
first_shown (t ∷ ts) = refl

pub first_ready : (ts : List Task) → urgent.first_id (ready_of ts) ≡ option_map task_id (most_urgent ts)
first_ready ts = first_shown (in_line is_before is_ready ts)

-- ---- the tasks that have a wake
abbrev delayed_as : List (ℕ × ℕ) → timed.Order
delayed_as ts = record { tasks = ts; room = most_tasks }

pub delayed_without : (ts : List Task) (who : ℕ) → timed.without_task (delayed_tasks ts) who ≡ delayed_tasks (without task_id ts who)
delayed_without ts who = ap delayed_as (sym (line_without task_id timed.task_id timed.task_wake as_sleeper (λ _. refl) wakes_before wakes_before-order sleeps ts who))

-- the task gets a wake as the last of all, or has none
pub delays_mended_is : (ts : List Task) (who : ℕ) (x y : Task) → Rising task_id ts → task_of ts who ≡ Some x → y.id ≡ who → (sleeps y ≡ true → IsLast y ts)
    → delays_mended (delayed_tasks ts) y ≡ delayed_tasks (replace task_id ts who y)
delays_mended_is ts who x y up e own last =
    elim y.wake as (λ o. y.wake ≡ o → with_wake (timed.without_task (delayed_tasks ts) y.id) y.id o ≡ delayed_tasks (replace task_id ts who y)) [
      | None ↦ λ q.
          ap (λ n. delayed_as (timed.taken_out (delayed_of ts) n)) own
          ∙ ap delayed_as (sym (line_gone task_id timed.task_id timed.task_wake as_sleeper (λ _. refl) wakes_before wakes_before-order sleeps ts who x y up e (ap is_some q)))
      | Some v ↦ λ q.
          ap (λ n. delayed_as (timed.put_in (timed.taken_out (delayed_of ts) n) (y.id, v))) own
          ∙ ap (λ o. delayed_as (timed.put_in (timed.taken_out (delayed_of ts) who) (y.id, unwrap_or o 0))) (sym q)
          ∙ ap delayed_as (sym (line_renewed task_id timed.task_id timed.task_wake as_sleeper (λ _. refl) wakes_before wakes_before-order sleeps ts who x y up e (ap is_some q)
          (All-weaker (λ t. t.since < y.since) (After task_id timed.task_id timed.task_wake as_sleeper (λ _. refl) wakes_before wakes_before-order sleeps y) (λ t h. after_asleep y t h) ts (last (ap is_some q)))))
    ] refl

-- what the queue reads of a task
abbrev pub seen_asleep : Task → Bool × (ℕ × ℕ) × List ℕ
seen_asleep t = (sleeps t, as_sleeper t, wake_key t)

pub delayed_same : (ts : List Task) (who : ℕ) (x y : Task) → Rising task_id ts → task_of ts who ≡ Some x → seen_asleep y ≡ seen_asleep x → delayed_tasks (replace task_id ts who y) ≡ delayed_tasks ts
delayed_same ts who x y up e same = ap delayed_as (line_same seen_asleep (λ s. s.1) (λ s r. is_less s.2 r.2) (λ s. s.0) task_id ts who x y up e same)

-- a task that has no wake before or after
pub delayed_unmoved : (ts : List Task) (who : ℕ) (x y : Task) → Rising task_id ts → task_of ts who ≡ Some x → x.wake ≡ None → y.wake ≡ None → delayed_tasks (replace task_id ts who y) ≡ delayed_tasks ts
delayed_unmoved ts who x y up e before after =
    ap delayed_as (line_unmoved task_id timed.task_id timed.task_wake as_sleeper (λ _. refl) wakes_before wakes_before-order sleeps ts who x y up e (ap is_some before) (ap is_some after))

pub delayed_push : (ts : List Task) (y : Task) → y.wake ≡ None → delayed_tasks (ts ++ y ∷ []) ≡ delayed_tasks ts
delayed_push ts y awake = ap delayed_as (line_pushed task_id timed.task_id timed.task_wake as_sleeper (λ _. refl) wakes_before wakes_before-order sleeps ts y (ap is_some awake))

pub fewer_asleep : (ts : List Task) (who : ℕ) (x : Task) → task_of ts who ≡ Some x → length (timed.taken_out (delayed_of ts) who) < length ts
fewer_asleep ts who x e = fewer_in_line task_id timed.task_id timed.task_wake as_sleeper (λ _. refl) wakes_before wakes_before-order sleeps ts who x e
