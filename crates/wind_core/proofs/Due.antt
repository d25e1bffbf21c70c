-- The first task of each queue is the one that the definitions name.
use Rattle.std.proofs.Common.{◌≡◌, ℕ, ◌+◌, ◌<◌, ◌≤◌, Bool, true, false, cond, leb, ltb, eqb, List, [], ◌∷◌, map, Option, None, Some, IfSome, is_some, refl, sym, ap, ◌∙◌, arith}
use Rattle.std.specs.Prelude.{unwrap_or}
use Rattle.std.specs.List.{All, AllByRecursion, filter}
use Rattle.std.specs.Option.{option_map}
use Rattle.std.specs.Cmp.Lexicographic.{slice_cmp}
use Rattle.std.specs.Ordering.{is_lt, nat_cmp, ordering_then}
use Rattle.std.specs.declared.cmp.Ordering.TheVariants.{Less, Equal, Greater}
use Rattle.std.proofs.lemmas.Bool.{le-ltb, ltb-false, leb-true, leb-false, eq-eqb}
use Rattle.std.proofs.lemmas.List.Elements.{All-head, All-tail}
use Rattle.task_block.specs.declared.task.Task.{Task}
use Rattle.id_table.specs.Sorting.{insert_sorted, sorted, in_line, first}
use Rattle.id_table.proofs.Sorting.{InOrder, in_order_sorted, filter-sorted, all_insert}
use Rattle.delay_queue.specs.Wakes as timed
use Rattle.wind_core.specs.State.{WakesAhead, task_id}
use Rattle.wind_core.specs.Orders.{is_less, arrival, arrives_before, has_come, is_due, due, first_due, sleeps, waking_tick, wakes_before}
use Rattle.wind_core.specs.Queues.{as_sleeper, delayed_of}
use Rattle.wind_core.proofs.Passes.{wakes_before-order}

-- ---- two orders that agree
module _ {X : Type 0} (P : X → Type 0) (lt other : X → X → Bool) (agree : (x y : X) → P x → P y → lt x y ≡ other x y) where
  insert_agrees : (x : X) (ys : List X) → P x → AllByRecursion P ys → insert_sorted lt x ys ≡ insert_sorted other x ys
  insert_agrees x [] p ps = refl
  insert_agrees x (y ∷ ys) p ps =
      ap (λ zs. cond (lt y x) (y ∷ zs) (x ∷ y ∷ ys)) (insert_agrees x ys p ps.1)
      ∙ ap (λ b. cond b (y ∷ insert_sorted other x ys) (x ∷ y ∷ ys)) (agree y x ps.0 p)

  all_in_order : (xs : List X) → AllByRecursion P xs → AllByRecursion P (sorted other xs)
  all_in_order [] ps = tt
  all_in_order (x ∷ xs) ps = all_insert other P x (sorted other xs) ps.0 (all_in_order xs ps.1)

  sorted_agrees : (xs : List X) → AllByRecursion P xs → sorted lt xs ≡ sorted other xs
  sorted_agrees [] ps = refl
  sorted_agrees (x ∷ xs) ps = ap (insert_sorted lt x) (sorted_agrees xs ps.1) ∙ insert_agrees x (sorted other xs) ps.0 (all_in_order xs ps.1)

-- ---- keys
-- if a key isn't before another, its first number isn't less
not_less : (a b : ℕ) (xs ys : List ℕ) → is_less (a ∷ xs) (b ∷ ys) ≡ false → b ≤ a
not_less a b xs ys e =
    elim (ltb a b) as (λ t. ltb a b ≡ t → is_lt (ordering_then (cond t Less (cond (eqb a b) Equal Greater)) (slice_cmp nat_cmp xs ys)) ≡ false → b ≤ a) [
      | true ↦ λ t q. absurd (cc)
      | false ↦ λ t q. ltb-false a b t
    ] refl e

-- if the first numbers are equal, the others decide
same_first : (a : ℕ) (xs ys : List ℕ) → is_less (a ∷ xs) (a ∷ ys) ≡ is_less xs ys
same_first a xs ys =
    ap (λ t. is_lt (ordering_then (cond t Less (cond (eqb a a) Equal Greater)) (slice_cmp nat_cmp xs ys))) (le-ltb a a (omega arith))
    ∙ ap (λ t. is_lt (ordering_then (cond t Equal Greater) (slice_cmp nat_cmp xs ys))) (eq-eqb a a refl)

-- ---- the tasks that are due at the next tick

due_asleep : (m : ℕ) (ts : List Task) → filter (is_due m) (filter sleeps ts) ≡ filter (is_due m) ts
due_asleep m [] = refl
due_asleep m (t ∷ ts) =
    elim t.wake as (λ o. t.wake ≡ o → filter (is_due m) (cond (is_some o) (t ∷ filter sleeps ts) (filter sleeps ts)) ≡ cond (has_come m o) (t ∷ filter (is_due m) ts) (filter (is_due m) ts)) [
      | None ↦ λ e. due_asleep m ts
      | Some w ↦ λ e.
          ap (λ us. cond (has_come m t.wake) (t ∷ us) us) (due_asleep m ts)
          ∙ ap (λ o. cond (has_come m o) (t ∷ filter (is_due m) ts) (filter (is_due m) ts)) e
    ] refl

-- if every wake is in the future, it wakes at exactly that tick
exactly : (n : ℕ) (o : Option ℕ) → IfSome o (λ w. n < w) → has_come (n + 1) o ≡ true → o ≡ Some (n + 1)
exactly n None ahead e = absurd (cc)
exactly n (Some w) ahead e = ap Some (let least = leb-true w (n + 1) e in omega (arith, least, ahead))

all_due : (n : ℕ) (ts : List Task) → All (WakesAhead n) ts → AllByRecursion (λ t. t.wake ≡ Some (n + 1)) (filter (is_due (n + 1)) ts)
all_due n [] all = tt
all_due n (t ∷ ts) all =
    let rest = all_due n ts (All-tail (WakesAhead n) t ts all) in
    elim (is_due (n + 1) t) as (λ b. is_due (n + 1) t ≡ b → AllByRecursion (λ u. u.wake ≡ Some (n + 1)) (cond b (t ∷ filter (is_due (n + 1)) ts) (filter (is_due (n + 1)) ts))) [
      | true ↦ λ b. (exactly n t.wake (All-head (WakesAhead n) t ts all) b, rest)
      | false ↦ λ b. rest
    ] refl

-- of two tasks that wake at one tick, the one with the lower order number is before
by_arrival : (m : ℕ) (t u : Task) → t.wake ≡ Some m → u.wake ≡ Some m → wakes_before t u ≡ arrives_before t u
by_arrival m t u left right =
    ap (λ o. is_less (unwrap_or o 0 ∷ arrival t) (waking_tick u ∷ arrival u)) left
    ∙ ap (λ o. is_less (m ∷ arrival t) (unwrap_or o 0 ∷ arrival u)) right
    ∙ same_first m (arrival t) (arrival u)

due_in_line : (n : ℕ) (ts : List Task) → All (WakesAhead n) ts → filter (is_due (n + 1)) (in_line wakes_before sleeps ts) ≡ due ts (n + 1)
due_in_line n ts all =
    filter-sorted wakes_before wakes_before-order (is_due (n + 1)) (filter sleeps ts)
    ∙ ap (sorted wakes_before) (due_asleep (n + 1) ts)
    ∙ sorted_agrees (λ t. t.wake ≡ Some (n + 1)) wakes_before arrives_before (by_arrival (n + 1)) (filter (is_due (n + 1)) ts) (all_due n ts all)

-- ---- the first of the tasks that have a wake
come_by : (m : ℕ) (o : Option ℕ) → is_some o ≡ true → has_come m o ≡ leb (unwrap_or o 0) m
come_by m None e = absurd (cc)
come_by m (Some w) e = refl

-- if the first isn't due, none is
none_due : (m : ℕ) (d : Task) (ts : List Task) → leb (waking_tick d) m ≡ false → AllByRecursion (λ t. sleeps t ≡ true) ts → AllByRecursion (λ t. wakes_before t d ≡ false) ts → filter (is_due m) ts ≡ []
none_due m d [] later asleep after = refl
none_due m d (t ∷ ts) later asleep after =
    let above : waking_tick d ≤ waking_tick t = not_less (waking_tick t) (waking_tick d) (arrival t) (arrival d) after.0 in
    let over : m < waking_tick d = leb-false (waking_tick d) m later in
    ap (λ b. cond b (t ∷ filter (is_due m) ts) (filter (is_due m) ts)) (come_by m t.wake asleep.0 ∙ not_le (waking_tick t) m (omega (arith, above, over)))
    ∙ none_due m d ts later asleep.1 after.1
  where
    not_le : (a b : ℕ) → b < a → leb a b ≡ false
    not_le a b h = grind arith

first_shown : (m : ℕ) (ts : List Task) → AllByRecursion (λ t. sleeps t ≡ true) ts → InOrder wakes_before ts → timed.due_at (map as_sleeper ts) m ≡ option_map task_id (first (filter (is_due m) ts))
first_shown m [] asleep order = refl
first_shown m (t ∷ ts) asleep order =
    elim (leb (waking_tick t) m) as (λ b. leb (waking_tick t) m ≡ b → cond b (Some t.id) None ≡ option_map task_id (first (cond b (t ∷ filter (is_due m) ts) (filter (is_due m) ts)))) [
      | true ↦ λ b. refl
      | false ↦ λ b. ap (λ us. option_map task_id (first us)) (sym (none_due m t ts b asleep.1 order.0))
    ] refl
    ∙ ap (λ b. option_map task_id (first (cond b (t ∷ filter (is_due m) ts) (filter (is_due m) ts)))) (sym (come_by m t.wake asleep.0))

all_asleep : (ts : List Task) → AllByRecursion (λ t. sleeps t ≡ true) (filter sleeps ts)
all_asleep [] = tt
all_asleep (t ∷ ts) =
    elim (sleeps t) as (λ b. sleeps t ≡ b → AllByRecursion (λ u. sleeps u ≡ true) (cond b (t ∷ filter sleeps ts) (filter sleeps ts))) [
      | true ↦ λ b. (b, all_asleep ts)
      | false ↦ λ b. all_asleep ts
    ] refl

asleep_in_line : (ts : List Task) → AllByRecursion (λ t. sleeps t ≡ true) ts → AllByRecursion (λ t. sleeps t ≡ true) (sorted wakes_before ts)
asleep_in_line [] all = tt
asleep_in_line (t ∷ ts) all = all_insert wakes_before (λ u. sleeps u ≡ true) t (sorted wakes_before ts) all.0 (asleep_in_line ts all.1)

-- if every wake is in the future, the head of the queue is the first, by arrival, of the tasks that wake at the next tick
pub due_first : (n : ℕ) (ts : List Task) → All (WakesAhead n) ts → timed.due_at (delayed_of ts) (n + 1) ≡ option_map task_id (first_due ts (n + 1))
due_first n ts all =
    first_shown (n + 1) (in_line wakes_before sleeps ts) (asleep_in_line (filter sleeps ts) (all_asleep ts)) (in_order_sorted wakes_before wakes_before-order (filter sleeps ts))
    ∙ ap (λ us. option_map task_id (first us)) (due_in_line n ts all)
