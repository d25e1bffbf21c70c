-- Runs with more to come.
use Rattle.std.proofs.Common.{◌≡◌, ℕ, zero, suc, ◌+◌, ◌<◌, ◌≤◌, true, false, cond, eqb, not, List, [], ◌∷◌, ◌++◌, length, drop, Option, None, Some, IfSome, IsSome, refl, sym, ap, ◌∙◌, subst, arith, below_more}
use Rattle.std.specs.Prelude.{◌&&◌, nat_le, unwrap_or}
use Rattle.std.specs.List.{All, sum_by}
use Rattle.std.proofs.lemmas.Bool.Decides.{nat_tests}
use Rattle.std.proofs.lemmas.List.{length-append, length-drop}
use Rattle.std.proofs.lemmas.List.Elements.{All-drop}
use Rattle.std.proofs.lemmas.List.Sums.{sum_by-cons, sum_by-append}
use Rattle.std.proofs.lemmas.Option.{same_Some}
use Rattle.id_table.specs.Sorting.{first}
use Rattle.tick_file.specs.Schedule.{Timed, Timetable}
use Rattle.tick_file.specs.declared.event.Event.{Event}
use Rattle.tick_file.specs.declared.event.Event.TheVariants.{Tick, Rx, Irq}
use Rattle.wind_core.specs.Orders.{running}
use Rattle.id_table.specs.Idents.{shell_id}
use Rattle.live_loading.specs.Said.{FileSaid}
use Rattle.wind_machine.specs.State.{State}
use Rattle.wind_machine.specs.Feed.{brought}
use Rattle.wind_machine.specs.Run.{Answers, after, text}
use Rattle.wind_machine.specs.Events.{event_comes, event_step, unreserved_world, without_next, next_event}
use Rattle.wind_machine.specs.ActorSteps.{shell_step, task_step, step_of}
use Rattle.wind_machine.specs.Next.{holds_back, is_active, is_open, due_at, next, IsLeftToTasks}
use Rattle.wind_machine.specs.Machine.{state_after, file_asked, machine_step, opening}
use Rattle.wind_machine.specs.Extending.{RoomStays, DemandStays, TimeGrows, More, extended, longer, bytes_asked, bytes_at, IsLater, MayExtend, Begins, RunExtends, Joins, ExtendLaw, Setup, booted, RecordLaw, IsFed, GrowsLaw}
use Rattle.wind_machine.specs.declared.phase.Phase.{Phase}
use Rattle.wind_machine.specs.declared.phase.Phase.TheVariants as phases
use Rattle.wind_machine.proofs.Order.{by_next}
use Rattle.wind_machine.proofs.Steps.{if_settled}
use Rattle.wind_machine.proofs.Timetables.{step_left}
use Rattle.wind_machine.proofs.LongerSteps.{not_due, due_next, same_asked, step_extends}

-- ---- the longer run begins with the shorter
one_step : (said : FileSaid) (m : More) (s : State) → MayExtend m s → IsSome (machine_step said s) → machine_step said (extended m s) ≡ Some (extended m (unwrap_or (machine_step said s) s))
one_step said m s may some =
    elim (machine_step said s) as (λ o. machine_step said s ≡ o → IsSome o → machine_step said (extended m s) ≡ Some (extended m (unwrap_or o s))) [
      | None ↦ λ e h. absurd (cc)
      | Some t ↦ λ e h. step_extends said m s t may e
    ] refl some

-- what holds of the numbers below k, and of k, holds of those up to k
up_to : (P : ℕ → Type 0) (k : ℕ) → ((j : ℕ) → j < k → P j) → P k → (j : ℕ) → j < suc k → P j
up_to P k below at j h = below_more P k below at j (omega (arith, h))

pub begins : RunExtends
begins said m s zero made may = record {
  states = λ j h. up_to (λ i. after said (extended m s) i ≡ extended m (after said s i)) 0 (λ i less. absurd (omega (arith, less))) refl j h;
  wrote = refl;
  made = λ j h. absurd (omega (arith, h));
  files = λ j h. absurd (omega (arith, h));
}
begins said m s (suc k) made may =
    let before = begins said m s k (λ j h. made j (omega (arith, h))) (λ j h. may j (omega (arith, h))) in
    let here : after said (extended m s) k ≡ extended m (after said s k) = before.states k (omega arith) in
    let onward : machine_step (said k) (after said (extended m s) k) ≡ Some (extended m (after said s (suc k))) =
    ap (λ t. machine_step (said k) t) here ∙ one_step (said k) m (after said s k) (may k (omega arith)) (made k (omega arith)) in
    let state : after said (extended m s) (suc k) ≡ extended m (after said s (suc k)) = ap (λ o. unwrap_or o (after said (extended m s) k)) onward in
    record {
      states = up_to (λ j. after said (extended m s) j ≡ extended m (after said s j)) (suc k) before.states state;
      wrote = ap (λ bytes. bytes ++ (after said (extended m s) (suc k)).world.output) before.wrote ∙ ap (λ t. text said s k ++ t.world.output) state;
      made = up_to (λ j. IsSome (machine_step (said j) (after said (extended m s) j))) k before.made (subst (λ o. IsSome o) (sym onward) refl);
      files = up_to (λ j. file_asked (after said (extended m s) j) ≡ file_asked (after said s j)) k before.files (ap file_asked here ∙ same_asked m (after said s k) (may k (omega arith)));
    }

-- ---- board time never goes back
abbrev IsNoEarlier : State → State → Type 0
IsNoEarlier s t = s.time ≤ t.time

not_reached : (t u : ℕ) → nat_le u t ≡ false → t ≤ u
not_reached t u h = grind (arith, nat_tests)

module _ (s : State) where
  shell_time : (p : Phase) → IsNoEarlier s (shell_step p s)
  shell_time phases.Prompt = omega arith
  shell_time phases.Read = omega arith
  shell_time phases.Eval = omega arith
  shell_time phases.Call = omega arith

  whoever_time : (who : ℕ) → IsNoEarlier s (step_of s who)
  whoever_time who = elim (eqb who shell_id) as (λ b. IsNoEarlier s (cond b (shell_step s.shell.phase s) (task_step s who))) [ true ↦ shell_time s.shell.phase | false ↦ omega arith ]

  event_time : (t : State) (e : Event) → IsNoEarlier s t → IsNoEarlier s (event_comes t e)
  event_time t Tick h = h
  event_time t (Rx n) h = h
  event_time t (Irq i) h = h

  -- an event that is not due comes later
  undue_later : (o : Option Timed) → due_at s.time o ≡ None → IfSome o (λ e. s.time ≤ e.time)
  undue_later None h = tt
  undue_later (Some e) h =
      elim (nat_le e.time s.time) as (λ b. nat_le e.time s.time ≡ b → cond b (Some e) None ≡ None → s.time ≤ e.time) [
        | true ↦ λ q none. absurd (cc)
        | false ↦ λ q none. not_reached s.time e.time q
      ] refl h

  opens : is_active s.world ≡ false → running s.world.kern ≡ None → is_open s ≡ true
  opens idle none = ap (λ b. not b && not (holds_back (running s.world.kern))) idle ∙ ap (λ o. not (holds_back o)) none

  jump_time : IsLeftToTasks s → running s.world.kern ≡ None → (e : Timed) → next_event s ≡ Some e → s.time ≤ e.time
  jump_time left nobody e there =
      let none : due_at s.time (next_event s) ≡ None = sym (ap (λ b. cond b (due_at s.time (next_event s)) None) (opens left.idle nobody)) ∙ left.nothing_due.event in
      subst (λ o. IfSome o (λ x. s.time ≤ x.time)) there (undue_later (next_event s) none)

  next_time : (said : FileSaid) → IfSome (state_after said s (next s)) (IsNoEarlier s)
  next_time said = by_next s (λ n. IfSome (state_after said s n) (IsNoEarlier s)) (record {
    deliver = λ i due. omega arith;
    come = λ held e due. event_time (record s { schedule = without_next s.schedule; world = unreserved_world s.world }) e.event (omega arith);
    arrive = λ held quiet due. omega arith;
    routine = λ nothing active. omega arith;
    act = λ left t runs none. whoever_time t.id;
    load = λ left t runs own name found. omega arith;
    jump = λ left nobody e there. jump_time left nobody e there;
    over = λ left nobody none. tt;
  })

pub step_time : TimeGrows
unfolding machine_step
step_time said s t e = subst (λ o. IfSome o (IsNoEarlier s)) e (if_settled (IsNoEarlier s) (state_after said s (next s)) (next_time s said))

last_time : (said : FileSaid) (s : State) (o : Option State) → machine_step said s ≡ o → IsNoEarlier s (unwrap_or o s)
last_time said s None e = omega arith
last_time said s (Some t) e = step_time said s t e

time_grows : (said : Answers) (s : State) (k j : ℕ) → j < suc k → (after said s j).time ≤ (after said s k).time
time_grows said s zero j h = let e : j ≡ 0 = omega (arith, h) in subst (λ n. (after said s n).time ≤ s.time) (sym e) (omega arith)
time_grows said s (suc k) j h =
    let last = last_time (said k) (after said s k) (machine_step (said k) (after said s k)) refl in
    up_to (λ n. (after said s n).time ≤ (after said s (suc k)).time) (suc k) (λ n below. omega (arith, time_grows said s k n below, last)) (omega arith) j h

-- ---- what every step keeps
-- the next event asks for its bytes, and those after it for the others
sum_next : (es : List Timed) (e : Timed) → first es ≡ Some e → sum_by bytes_at es ≡ bytes_asked e.event + sum_by bytes_at (drop 1 es)
sum_next [] e h = absurd (cc)
sum_next (x ∷ es) e h = sum_by-cons bytes_at x es ∙ ap (λ y. bytes_at y + sum_by bytes_at es) (same_Some x e h)

abbrev JoinsAt : More → State → Type 0
JoinsAt m s = Joins m s.left s.schedule

module _ (m : More) (s : State) (h : JoinsAt m s) where
  shell_joins : (p : Phase) → JoinsAt m (shell_step p s)
  shell_joins phases.Prompt = h
  shell_joins phases.Read = h
  shell_joins phases.Eval = h
  shell_joins phases.Call = h

  whoever_joins : (who : ℕ) → JoinsAt m (step_of s who)
  whoever_joins who = elim (eqb who shell_id) as (λ b. JoinsAt m (cond b (shell_step s.shell.phase s) (task_step s who))) [ true ↦ shell_joins s.shell.phase | false ↦ h ]

  event_joins : (e : Event) → sum_by bytes_at s.schedule.events ≡ bytes_asked e + sum_by bytes_at (drop 1 s.schedule.events) → JoinsAt m (event_step s e)
  event_joins Tick sum = record { shorter = h.shorter; longer = h.longer; bytes = omega (arith, sum, h.bytes) }
  event_joins (Irq i) sum = record { shorter = h.shorter; longer = h.longer; bytes = omega (arith, sum, h.bytes) }
  event_joins (Rx n) sum =
      let fewer : length (drop (brought n) s.left) ≤ length s.left = omega (arith, length-drop (brought n) s.left) in
      record {
        shorter = λ d. omega (arith, fewer, h.shorter d);
        longer = λ d. omega (arith, fewer, length-append (drop (brought n) s.left) m.bytes, length-append s.left m.bytes, h.longer d);
        bytes = omega (arith, sum, h.bytes, length-drop (brought n) s.left);
      }

  next_joins : (said : FileSaid) → IfSome (state_after said s (next s)) (JoinsAt m)
  next_joins said = by_next s (λ n. IfSome (state_after said s n) (JoinsAt m)) (record {
    deliver = λ i due. h;
    come = λ held e due. event_joins e.event (sum_next s.schedule.events e (due_next (is_open s) s.time (next_event s) e due));
    arrive = λ held quiet due. let none = not_due s h.shorter in absurd (cc);
    routine = λ nothing active. h;
    act = λ left t runs none. whoever_joins t.id;
    load = λ left t runs own name found. h;
    jump = λ left nobody e there. h;
    over = λ left nobody none. tt;
  })

  step_joins : (said : FileSaid) → IfSome (machine_step said s) (JoinsAt m)
  unfolding machine_step
  step_joins said = if_settled (JoinsAt m) (state_after said s (next s)) (next_joins said)

  last_joins : (o : Option State) → IfSome o (JoinsAt m) → JoinsAt m (unwrap_or o s)
  last_joins None q = h
  last_joins (Some t) q = q

joins_on : (said : Answers) (m : More) (s : State) → JoinsAt m s → (k : ℕ) → JoinsAt m (after said s k)
joins_on said m s h zero = h
joins_on said m s h (suc k) =
    let before = joins_on said m s h k in
    last_joins m (after said s k) before (machine_step (said k) (after said s k)) (step_joins m (after said s k) before (said k))

-- ---- the law
later_than : (t u : ℕ) (es : List Timed) → t ≤ u → IsLater u es → IsLater t es
later_than t u [] h late = tt
later_than t u (e ∷ es) h late = omega (arith, h, late)

first_asks : (es : List Timed) (n : ℕ) → sum_by bytes_at es ≤ n → IfSome (first es) (λ e. bytes_at e ≤ n)
first_asks [] n h = tt
first_asks (e ∷ es) n h = omega (arith, sum_by-cons bytes_at e es, h)

may_extend : (m : More) (s : State) → JoinsAt m s → IsLater s.time m.events → MayExtend m s
may_extend m s h late = record { shorter = h.shorter; longer = h.longer; bytes = first_asks s.schedule.events (length s.left) h.bytes; late = λ e. late }

pub extends : ExtendLaw
extends said m s k h made late =
    begins said m s k made (λ j below.
    may_extend m (after said s j) (joins_on said m s h j)
    (later_than (after said s j).time (after said s k).time m.events (time_grows said s k j (omega (arith, below))) late))

pub records_extend : RecordLaw
unfolding opening
records_extend setup console schedule m = refl

-- ---- a record grows
module _ (said : Answers) (setup : Setup) (console : List ℕ) (schedule : Timetable) (m : More) (k : ℕ) where
  abbrev start : State
  start = booted setup console schedule

  -- what holds of a record holds at its opening state
  start_joins : Joins m console schedule → JoinsAt m start
  unfolding opening
  start_joins h = h

pub grows : GrowsLaw
grows said setup console schedule m k fed demand few made late =
    let joins : Joins m console schedule = record { shorter = fed.demand; longer = demand; bytes = fed.bytes } in
    let start = booted setup console schedule in
    let begun = extends said m start k (start_joins said setup console schedule m k joins) made late in
    let total : sum_by bytes_at (longer m schedule).events ≤ length (console ++ m.bytes) = omega (arith, sum_by-append bytes_at schedule.events m.events, length-append console m.bytes, fed.bytes, few) in
    let more : IsFed (console ++ m.bytes) (longer m schedule) = record { demand = demand; bytes = total } in
    record { fed = more; begins = subst (λ u. Begins said m start u k) (records_extend setup console schedule m) begun }

pub room_stays : RoomStays
room_stays time line said s t h e =
    let before : Timed → Type 0 = λ e. (e.time ≤ time) × (e.line < line) in
    step_left (λ t. All before t.events) (λ t k. All-drop before 1 t.events k) said s t h e

pub demand_stays : DemandStays
demand_stays said s t e = step_left (λ t. t.on_demand ≡ s.schedule.on_demand) (λ t k. k) said s t refl e
