-- The observations of a run are in order.
use Rattle.std.proofs.Common.{◌≡◌, ℕ, zero, suc, ◌+◌, ◌<◌, ◌≤◌, Bool, true, false, cond, List, [], ◌∷◌, length, map, get_or, None, Some, refl, sym, ap, subst, ◌∙◌, arith}
use Rattle.std.specs.Prelude.{unwrap_or}
use Rattle.std.specs.List.{list_any}
use Rattle.std.proofs.lemmas.Bool.{ne_eqb}
use Rattle.tick_file.specs.Schedule.{timetable_of}
use Rattle.id_table.specs.Records.{Rising}
use Rattle.id_table.proofs.Records.{rising_head, rising_tail}
use Rattle.task_block.specs.declared.task.Task.{Task}
use Rattle.wind_core.specs.State.{task_id}
use Rattle.kernel_world.specs.declared.objects.Objects.{Objects}
use Rattle.wind_machine.specs.Extending.{Setup, TimeGrows, booted}
use Rattle.wind_machine.specs.Good.{Good}
use Rattle.wind_machine.specs.Laws.{RunLaw}
use Rattle.wind_machine.specs.Machine.{machine_step}
use Rattle.wind_machine.specs.Run.{Answers, after}
use Rattle.wind_machine.specs.State.{State}
use Rattle.board_changes.specs.Spans.{view_of}
use Rattle.board_changes.specs.Tiling.{AreDistinct, AreInOrder, OneRunsLaw, SaysOnce, TilingLaw, last_time, said_at, says_running, seen_at, spans_until}
use Rattle.board_trace.proofs.Clipping.{none_past}
use Rattle.board_trace.specs.Before.{before_step}
use Rattle.board_trace.specs.Observed.{PartTilingLaw, later, observation_of, observations, part_observations, part_spans}
use Rattle.board_trace.specs.Snapshots.{snapshot_of, view_in}
use Rattle.board_trace.specs.Steps.{is_instruction}

-- ---- the views of a kernel's tasks
module _ (o : Objects) where
  none_above : (n : ℕ) (ts : List Task) → ((k : ℕ) (d : Task) → k < length ts → n < task_id (get_or ts k d)) → view_of (map (view_in o) ts) n ≡ None
  none_above n [] up = refl
  none_above n (t ∷ ts) up =
      let less : n < t.id = up 0 t (omega arith) in
      ap (λ b. cond b (Some (view_in o t)) (view_of (map (view_in o) ts) n)) (ne_eqb t.id n (λ q. omega arith))
      ∙ none_above n ts (λ k d h. up (suc k) d (omega arith))

  distinct : (ts : List Task) → Rising task_id ts → AreDistinct (map (view_in o) ts)
  distinct [] up = tt
  distinct (t ∷ ts) up = (none_above t.id ts (rising_head task_id t ts up), distinct ts (rising_tail task_id t ts up))

-- in a state with the invariant no two tasks have one id
pub good_distinct : (s : State) → Good s → AreDistinct (snapshot_of s.world).tasks
good_distinct s good = distinct s.world.objects s.world.kern.tasks good.kept.world.kern.rising

-- ---- a run
module _ (grows : TimeGrows) (said : Answers) (s : State) where
  pub time_up : (k : ℕ) → (after said s k).time ≤ (after said s (suc k)).time
  time_up k =
      let u = after said s k in
      elim (machine_step (said k) u) as (λ o. machine_step (said k) u ≡ o → u.time ≤ (unwrap_or o u).time) [
        | None ↦ λ e. omega arith
        | Some t ↦ λ e. grows (said k) u t e
      ] refl

  last_up : (k : ℕ) → last_time (observations said s k) ≤ (after said s k).time
  last_up zero = omega arith
  last_up (suc k) =
      let v = after said s (suc k) in
      let up = time_up k in
      let before = last_up k in
      elim (is_instruction (before_step (after said s k)) v.world.output) as (λ b. last_time (cond b (observations said s k) (observation_of v ∷ observations said s k)) ≤ v.time) [
        | true ↦ omega arith
        | false ↦ omega arith
      ]

  module _ (good : (j : ℕ) → Good (after said s j)) where
    in_order : (k : ℕ) → AreInOrder (observations said s k)
    in_order zero = (omega arith, good_distinct s (good 0), tt)
    in_order (suc k) =
        let v = after said s (suc k) in
        let up = time_up k in
        let before = last_up k in
        let later : last_time (observations said s k) ≤ v.time = omega arith in
        elim (is_instruction (before_step (after said s k)) v.world.output) as (λ b. AreInOrder (cond b (observations said s k) (observation_of v ∷ observations said s k))) [
          | true ↦ in_order k
          | false ↦ (later, good_distinct v (good (suc k)), in_order k)
        ]

-- the steps after the first m lead where those of the run lead
pub later_state : (said : Answers) (s : State) (m j : ℕ) → after (later said m) (after said s m) j ≡ after said s (m + j)
later_state said s m zero = let end : m ≡ m + 0 = omega arith in ap (after said s) end
later_state said s m (suc j) =
    let end : suc (m + j) ≡ m + suc j = omega arith in
    ap (λ u. unwrap_or (machine_step (said (m + j)) u) u) (later_state said s m j) ∙ ap (after said s) end

module _ (grows : TimeGrows) (run : RunLaw) (said : Answers) (setup : Setup) (console ticks : List ℕ) where
  abbrev start : State
  start = booted setup console (timetable_of ticks)

  all_good : (j : ℕ) → Good (after said start j)
  all_good j = (run said console ticks setup.slots (record { profile = setup.profile; board = setup.board }) j).kept

  pub run_tiles : TilingLaw → (k who t : ℕ) → t < (after said start k).time
      → SaysOnce (seen_at who t (observations said start k)) (said_at who t (spans_until (after said start k).time (observations said start k)))
  run_tiles tiles k who t within =
      tiles (observations said start k) (after said start k).time who t (in_order grows said start all_good k) (last_up grows said start k) within

  abbrev runs : ℕ → ℕ → ℕ → Bool
  runs k who t = list_any (λ look. says_running look.standing) (said_at who t (spans_until (after said start k).time (observations said start k)))

  pub run_one : OneRunsLaw → (k t one other : ℕ) → t < (after said start k).time → runs k one t ≡ true → runs k other t ≡ true → one ≡ other
  run_one law k t one other within =
      law (observations said start k) (after said start k).time t one other (in_order grows said start all_good k) (last_up grows said start k) within

  module _ (m n : ℕ) where
    good_later : (j : ℕ) → Good (after (later said m) (after said start m) j)
    good_later j = subst Good (sym (later_state said start m j)) (all_good (m + j))

    part_in_order : AreInOrder (part_observations said start m n)
    part_in_order = in_order grows (later said m) (after said start m) good_later n

    part_up : last_time (part_observations said start m n) ≤ (after said start (m + n)).time
    part_up = subst (λ (u : State). last_time (part_observations said start m n) ≤ u.time) (later_state said start m n) (last_up grows (later said m) (after said start m) n)

    part_tiles : TilingLaw → (who t : ℕ) → t < (after said start (m + n)).time → SaysOnce (seen_at who t (part_observations said start m n)) (said_at who t (part_spans said start m n))
    part_tiles tiles who t within = tiles (part_observations said start m n) (after said start (m + n)).time who t part_in_order part_up within

    part_past : (who t : ℕ) → (after said start (m + n)).time ≤ t → said_at who t (part_spans said start m n) ≡ []
    part_past who t late = none_past (part_observations said start m n) (after said start (m + n)).time who t part_in_order part_up late

pub parts_tile : TimeGrows → RunLaw → TilingLaw → PartTilingLaw
parts_tile grows run tiles = record {
  within = λ said setup console ticks m n. part_tiles grows run said setup console ticks m n tiles;
  past = λ said setup console ticks m n. part_past grows run said setup console ticks m n;
}
