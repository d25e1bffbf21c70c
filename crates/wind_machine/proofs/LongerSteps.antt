-- A step with more to come is the same step.
use Rattle.std.proofs.Common.{◌≡◌, ◌≢◌, ℕ, ◌<◌, ◌≤◌, Bool, true, false, cond, eqb, not, List, [], ◌∷◌, ◌++◌, length, take, drop, Option, None, Some, IfSome, IsSome, refl, sym, ap, ◌∙◌, subst, arith}
use Rattle.std.specs.Option.{option_map}
use Rattle.std.specs.Prelude.{◌&&◌, ◌==◌, nat_le}
use Rattle.std.proofs.lemmas.Bool.Decides.{nat_tests}
use Rattle.std.proofs.lemmas.List.{take-append-le, drop-append-le}
use Rattle.id_table.specs.Sorting.{first}
use Rattle.tick_file.specs.Schedule.{Timed}
use Rattle.tick_file.specs.declared.event.Event.{Event}
use Rattle.tick_file.specs.declared.event.Event.TheVariants.{Tick, Rx, Irq}
use Rattle.wind_core.specs.State.{task_id}
use Rattle.wind_core.specs.Orders.{running}
use Rattle.con_line.specs.Lines.{has_line}
use Rattle.id_table.specs.Idents.{shell_id}
use Rattle.live_loading.specs.Said.{FileSaid}
use Rattle.wind_machine.specs.State.{State}
use Rattle.wind_machine.specs.Feed.{brought}
use Rattle.wind_machine.specs.Task.{waits_for_console}
use Rattle.wind_machine.specs.Events.{heard_by, arrived, received, event_comes, event_step, next_event, unreserved_world, without_next}
use Rattle.wind_machine.specs.ActorSteps.{shell_step, task_step, step_of}
use Rattle.wind_machine.specs.Next.{is_open, due_at, due_event, console_is_due, event_of, time_of, first_or_over, next, NothingIsDue, IsLeftToTasks}
use Rattle.wind_machine.specs.Machine.{state_after, settled_state, file_of, file_asked, machine_step, IsOver}
use Rattle.wind_machine.specs.Extending.{More, extended, bytes_asked, bytes_at, IsUndemanded, IsLater, MayExtend, SameNext, StepExtends, OverExtends}
use Rattle.wind_machine.specs.declared.next.Next.{Next}
use Rattle.wind_machine.specs.declared.next.Next.TheVariants.{Deliver, Come, Routine, Act, Load, Jump, Over}
use Rattle.wind_machine.specs.declared.phase.Phase.{Phase}
use Rattle.wind_machine.specs.declared.phase.Phase.TheVariants as phases
use Rattle.wind_machine.proofs.Order.{by_next, comes_alone}

-- ---- what is due
-- no chunk is, if input comes on demand only with no byte left
undue : (free demand waits : Bool) (left : List ℕ) → IsUndemanded demand left → (free && (demand && (not (length left == 0) && waits))) ≡ false
undue false demand waits left h = refl
undue true false waits left h = refl
undue true true waits left h = ap (λ n. not (n == 0) && waits) (h refl)

pub not_due : (s : State) → IsUndemanded s.schedule.on_demand s.left → console_is_due s ≡ false
not_due s h = undue (is_open s) s.schedule.on_demand (waits_for_console s.world.kern && not (has_line s.console)) s.left h

later : (t u : ℕ) → t < u → nat_le u t ≡ false
later t u h = grind (arith, nat_tests)

-- the due event is the same, if the added ones come later
due_same : (time : ℕ) (es more : List Timed) → (es ≡ [] → IsLater time more) → due_at time (first (es ++ more)) ≡ due_at time (first es)
due_same time [] [] h = refl
due_same time [] (e ∷ more) h = ap (λ b. cond b (Some e) None) (later time e.time (h refl))
due_same time (e ∷ es) more h = refl

-- a due event is the next one
pub due_next : (free : Bool) (time : ℕ) (o : Option Timed) (e : Timed) → cond free (due_at time o) None ≡ Some e → o ≡ Some e
due_next false time o e h = absurd (cc)
due_next true time None e h = absurd (cc)
due_next true time (Some x) e h = elim (nat_le x.time time) as (λ b. cond b (Some x) None ≡ Some e → Some x ≡ Some e) [ true ↦ λ q. q | false ↦ λ q. absurd (cc) ] h

drop_same : (es more : List Timed) → IsSome (first es) → drop 1 (es ++ more) ≡ drop 1 es ++ more
drop_same [] more h = absurd (cc)
drop_same (e ∷ es) more h = refl

first_same : (es more : List Timed) (e : Timed) → first es ≡ Some e → first (es ++ more) ≡ Some e
first_same [] more e h = absurd (cc)
first_same (x ∷ es) more e h = h

first_added : (es more : List Timed) → first es ≡ None → first (es ++ more) ≡ first more
first_added [] more h = refl
first_added (x ∷ es) more h = absurd (cc)

-- the step of the longer follows that of the shorter
abbrev Follows : More → Option State → Option State → Type 0
Follows m o p = IfSome o (λ t. p ≡ Some (extended m t))

settles_too : (m : More) (o p : Option State) → Follows m o p → Follows m (option_map settled_state o) (option_map settled_state p)
settles_too m None p h = tt
settles_too m (Some t) p h = ap (option_map settled_state) h

-- what comes next in the longer, if in the shorter the run is over
abbrev jump_or_over : Option Timed → Next
jump_or_over o = first_or_over (option_map (λ e. Jump e.time) o ∷ [])

needs_no_file : (o : Option Timed) → file_of (jump_or_over o) ≡ None
needs_no_file None = refl
needs_no_file (Some e) = refl

-- ---- steps of whoever runs, and events
module _ (m : More) (s : State) where
  shell_extends : (p : Phase) → shell_step p (extended m s) ≡ extended m (shell_step p s)
  shell_extends phases.Prompt = refl
  shell_extends phases.Read = refl
  shell_extends phases.Eval = refl
  shell_extends phases.Call = refl

  whoever_extends : (who : ℕ) → step_of (extended m s) who ≡ extended m (step_of s who)
  whoever_extends who =
      elim (eqb who shell_id) as (λ b. cond b (shell_step s.shell.phase (extended m s)) (task_step (extended m s) who) ≡ extended m (cond b (shell_step s.shell.phase s) (task_step s who))) [
        | true ↦ shell_extends s.shell.phase
        | false ↦ refl
      ]

  -- bytes arrive, if as many are left
  received_extends : (n : ℕ) → brought n ≤ length s.left → received (extended m s) n ≡ extended m (received s n)
  received_extends n h =
      ap (λ left. arrived (extended m s) left (heard_by s (take (brought n) (s.left ++ m.bytes)))) (drop-append-le (brought n) s.left m.bytes h)
      ∙ ap (λ bytes. extended m (arrived s (drop (brought n) s.left) (heard_by s bytes))) (take-append-le (brought n) s.left m.bytes h)

  comes_extends : (e : Event) → bytes_asked e ≤ length s.left → event_comes (extended m s) e ≡ extended m (event_comes s e)
  comes_extends Tick h = refl
  comes_extends (Rx n) h = received_extends n h
  comes_extends (Irq i) h = refl

-- ---- one step
module _ (m : More) (s : State) (may : MayExtend m s) where
  same_due : due_event (extended m s) ≡ due_event s
  same_due = ap (λ o. cond (is_open s) o None) (due_same s.time s.schedule.events m.events may.late)

  shorter_undue : console_is_due s ≡ false
  shorter_undue = not_due s may.shorter

  nothing_due : NothingIsDue s → NothingIsDue (extended m s)
  nothing_due h = record { delivery = h.delivery; event = same_due ∙ h.event; console = not_due (extended m s) may.longer }

  left_to_tasks : IsLeftToTasks s → IsLeftToTasks (extended m s)
  left_to_tasks h = record { nothing_due = nothing_due h.nothing_due; idle = h.idle }

  same_next : next s ≢ Over → next (extended m s) ≡ next s
  same_next = by_next s (λ n. n ≢ Over → next (extended m s) ≡ n) (record {
    deliver = λ i due some. sym (comes_alone (extended m s) (Deliver i) due);
    come = λ held e due some. sym (comes_alone (extended m s) (Come e.event) (held, ap (option_map event_of) (same_due ∙ due)));
    arrive = λ held quiet due some. let none = shorter_undue in absurd (cc);
    routine = λ nothing active some. sym (comes_alone (extended m s) Routine (nothing_due nothing, active));
    act = λ left t runs none some. sym (comes_alone (extended m s) (Act t.id) (left_to_tasks left, ap (option_map task_id) runs, none));
    load = λ left t runs own name found some. sym (comes_alone (extended m s) (Load name) (left_to_tasks left, ap (option_map task_id) runs ∙ ap Some own, found));
    jump = λ left nobody e there some. sym (comes_alone (extended m s) (Jump e.time) (left_to_tasks left, ap (option_map task_id) nobody, ap (option_map time_of) (first_same s.schedule.events m.events e there)));
    over = λ left nobody none some. absurd (some refl);
  })

  -- if the run is over, the longer jumps to the first added event
  then_jumps : IsLeftToTasks s → running s.world.kern ≡ None → (o : Option Timed) → next_event (extended m s) ≡ o → next (extended m s) ≡ jump_or_over o
  then_jumps left nobody None e = sym (comes_alone (extended m s) Over (left_to_tasks left, ap (option_map task_id) nobody, e))
  then_jumps left nobody (Some x) e = sym (comes_alone (extended m s) (Jump x.time) (left_to_tasks left, ap (option_map task_id) nobody, ap (option_map time_of) e))

  over_next : IsOver s → next (extended m s) ≡ jump_or_over (first m.events)
  over_next = by_next s (λ n. n ≡ Over → next (extended m s) ≡ jump_or_over (first m.events)) (record {
    deliver = λ i due q. absurd (cc);
    come = λ held e due q. absurd (cc);
    arrive = λ held quiet due q. absurd (cc);
    routine = λ nothing active q. absurd (cc);
    act = λ left t runs none q. absurd (cc);
    load = λ left t runs own name found q. absurd (cc);
    jump = λ left nobody e there q. absurd (cc);
    over = λ left nobody none q. then_jumps left nobody (first m.events) (first_added s.schedule.events m.events none);
  })

  pub same_asked : file_asked (extended m s) ≡ file_asked s
  unfolding file_asked
  same_asked = either (next s) same_next over_next
    where
      either : (n : Next) → (n ≢ Over → next (extended m s) ≡ n) → (n ≡ Over → next (extended m s) ≡ jump_or_over (first m.events)) → file_of (next (extended m s)) ≡ file_of n
      either Over same over = ap file_of (over refl) ∙ needs_no_file (first m.events)
      either n same over = ap file_of (same (λ q. absurd (cc)))

  -- the next event occurs
  event_extends : (e : Timed) → due_event s ≡ Some e → event_step (extended m s) e.event ≡ extended m (event_step s e.event)
  event_extends e due =
      let there = due_next (is_open s) s.time (next_event s) e due in
      let some : IsSome (next_event s) = subst (λ o. IsSome o) (sym there) refl in
      let few : bytes_at e ≤ length s.left = subst (λ o. IfSome o (λ x. bytes_at x ≤ length s.left)) there may.bytes in
      ap (λ es. event_comes (record (extended m s) { schedule = record { events = es; on_demand = m.on_demand }; world = unreserved_world s.world }) e.event) (drop_same s.schedule.events m.events some)
      ∙ comes_extends m (record s { schedule = without_next s.schedule; world = unreserved_world s.world }) e.event few

  -- the effect of what comes next follows
  same_effect : (said : FileSaid) → Follows m (state_after said s (next s)) (state_after said (extended m s) (next s))
  same_effect said = by_next s (λ n. Follows m (state_after said s n) (state_after said (extended m s) n)) (record {
    deliver = λ i due. refl;
    come = λ held e due. ap Some (event_extends e due);
    arrive = λ held quiet due. let none = shorter_undue in absurd (cc);
    routine = λ nothing active. refl;
    act = λ left t runs none. ap Some (whoever_extends m s t.id);
    load = λ left t runs own name found. refl;
    jump = λ left nobody e there. refl;
    over = λ left nobody none. tt;
  })

  next_follows : (said : FileSaid) (n : Next) → (n ≢ Over → next (extended m s) ≡ n) → Follows m (state_after said s n) (state_after said (extended m s) n) → Follows m (state_after said s n) (state_after said (extended m s) (next (extended m s)))
  next_follows said Over same h = tt
  next_follows said n same h = subst (λ k. Follows m (state_after said s n) (state_after said (extended m s) k)) (sym (same (λ q. absurd (cc)))) h

  follows : (said : FileSaid) → Follows m (machine_step said s) (machine_step said (extended m s))
  unfolding machine_step
  follows said = settles_too m (state_after said s (next s)) (state_after said (extended m s) (next (extended m s))) (next_follows said (next s) same_next (same_effect said))

pub next_extends : SameNext
next_extends m s may = same_next m s may

pub over_extends : OverExtends
over_extends m s may = over_next m s may

pub step_extends : StepExtends
step_extends said m s t may e = subst (λ o. Follows m o (machine_step said (extended m s))) e (follows m s may said)
