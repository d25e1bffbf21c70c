-- A tick keeps the invariant, and every wake is in the future again.
use Rattle.std.proofs.Common.{◌≡◌, ℕ, ◌+◌, true, false, cond, eqb, leb, List, [], ◌∷◌, Option, None, Some, is_some, refl, sym, ap, ◌∙◌, subst, arith}
use Rattle.std.specs.List.{All, fold}
use Rattle.std.proofs.lemmas.Option.{same_Some}
use Rattle.task_block.specs.declared.task.Task.{Task}
use Rattle.id_table.specs.Sorting.{first}
use Rattle.wind_core.specs.State.{KernState, IsKern, WakesAhead, task_of}
use Rattle.wind_core.specs.Orders.{running, due}
use Rattle.wind_core.specs.Moves.{move_found, answered}
use Rattle.wind_core.specs.Tick.{slice_counted, count_found_slice, count_slice_of, count_slice, late_answer, late_errno, time_out, tick_counted, tick}
use Rattle.wind_core.specs.Laws.{TickLaw, AheadLaw}
use Rattle.wind_core.proofs.Writes.{MayFollow, counters_rise}
use Rattle.wind_core.proofs.Waking.{due-end_wait}
use Rattle.wind_core.proofs.Ticks.{running_found, at_tick, slice_follows, tick-count_slice, none_due}
use Rattle.wind_core.proofs.Keeping.{change_keeps, end_wait_keeps}

-- ---- the running task's time slice
count_found_slice_keeps : (n : ℕ) (s : KernState) (t : Task) → IsKern (at_tick n s) → running s ≡ Some t → IsKern (at_tick n (count_found_slice s t))
count_found_slice_keeps n s t is runs =
    change_keeps (at_tick n s) t.id (s.next_since + cond (leb s.slice (t.turns + 1)) 1 0) (slice_counted s.slice s.next_since) is (omega arith)
    (λ x found.
    subst (λ v. MayFollow (at_tick n s) v (slice_counted s.slice s.next_since v) (s.next_since + cond (leb s.slice (t.turns + 1)) 1 0))
    (same_Some t x (sym (running_found s t is.rising runs) ∙ found))
    (slice_follows (at_tick n s) s.slice t))

count_slice_keeps : (n : ℕ) (s : KernState) → IsKern (at_tick n s) → IsKern (at_tick n (count_slice s))
count_slice_keeps n s is =
    elim (eqb s.slice 0) as (λ b. IsKern (at_tick n (cond b s (count_slice_of s (running s))))) [
      | true ↦ is
      | false ↦
          elim (running s) as (λ o. running s ≡ o → IsKern (at_tick n (count_slice_of s o))) [
            | None ↦ λ e. is
            | Some t ↦ λ e. elim (eqb t.locks 0) as (λ b. IsKern (at_tick n (cond b (count_found_slice s t) s))) [ true ↦ count_found_slice_keeps n s t is e | false ↦ is ]
          ] refl
    ]

-- ---- the tasks whose wake has come go on
move_at_tick : (n : ℕ) (s : KernState) (who : ℕ) (f : Task → Task) (o : Option Task) → move_found (at_tick n s) who f o ≡ at_tick n (move_found s who f o)
move_at_tick n s who f None = refl
move_at_tick n s who f (Some t) = refl

move_tick : (s : KernState) (who : ℕ) (f : Task → Task) (o : Option Task) → (move_found s who f o).tick ≡ s.tick
move_tick s who f None = refl
move_tick s who f (Some t) = refl

time_out_keeps : (n : ℕ) (s : KernState) (x : Task) → IsKern (at_tick n s) → IsKern (at_tick n (time_out s x))
time_out_keeps n s x is =
    let f : Task → Task = answered (late_answer (is_some x.wait)) (late_errno (is_some x.wait)) in
    subst IsKern (move_at_tick n s x.id f (task_of s.tasks x.id)) (end_wait_keeps (at_tick n s) x.id (late_answer (is_some x.wait)) (late_errno (is_some x.wait)) is)

-- the state after those tasks have gone on
record IsPast (n now : ℕ) (s : KernState) : Type 0 where
  kept : IsKern (at_tick n s)
  none : due s.tasks now ≡ []
  count : s.tick ≡ now

past_each : (n now : ℕ) (ds : List Task) (s : KernState) → IsKern (at_tick n s) → s.tick ≡ now → due s.tasks now ≡ ds → IsPast n now (fold time_out s ds)
past_each n now [] s is count e = record { kept = is; none = e; count = count }
past_each n now (x ∷ ds) s is count e =
    past_each n now ds (time_out s x) (time_out_keeps n s x is)
    (move_tick s x.id (answered (late_answer (is_some x.wait)) (late_errno (is_some x.wait))) (task_of s.tasks x.id) ∙ count)
    (due-end_wait s now (late_answer (is_some x.wait)) (late_errno (is_some x.wait)) x ds is.rising e)

past_ahead : (n now : ℕ) (s : KernState) → IsPast n now s → All (WakesAhead now) s.tasks
past_ahead n now s past = none_due s.tasks now (ap first past.none)

past_kept : (n now : ℕ) (s : KernState) → IsPast n now s → IsKern s
past_kept n now s past =
    counters_rise (at_tick n s) s.next_id s.next_since s.tick s.slice s.lent s.last past.kept (omega arith) past.kept.last_id (omega arith)
    (subst (λ k. All (WakesAhead k) s.tasks) (sym past.count) (past_ahead n now s past))

-- ---- a tick
ticked : (s : KernState) → IsKern s → IsPast s.tick (s.tick + 1) (tick s)
ticked s is =
    past_each s.tick (s.tick + 1) (due (count_slice (tick_counted s)).tasks (s.tick + 1)) (count_slice (tick_counted s)) (count_slice_keeps s.tick (tick_counted s) is) (tick-count_slice (tick_counted s)) refl

pub tick_keeps : TickLaw
tick_keeps s is = past_kept s.tick (s.tick + 1) (tick s) (ticked s is)

pub tick_ahead : AheadLaw
tick_ahead s is = let past = ticked s is in (past.count, past_ahead s.tick (s.tick + 1) (tick s) past)
