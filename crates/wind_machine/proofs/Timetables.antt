-- What holds of the future events of a state holds after every step.
use Rattle.std.proofs.Common.{◌≡◌, ℕ, true, false, cond, eqb, Some, IfSome, subst}
use Rattle.tick_file.specs.Schedule.{Timetable}
use Rattle.tick_file.specs.declared.event.Event.{Event}
use Rattle.tick_file.specs.declared.event.Event.TheVariants.{Tick, Rx, Irq}
use Rattle.id_table.specs.Idents.{shell_id}
use Rattle.live_loading.specs.Said.{FileSaid}
use Rattle.wind_machine.specs.State.{State}
use Rattle.wind_machine.specs.Events.{event_comes, unreserved_world, without_next}
use Rattle.wind_machine.specs.ActorSteps.{shell_step, task_step, step_of}
use Rattle.wind_machine.specs.Next.{next}
use Rattle.wind_machine.specs.Machine.{state_after, machine_step}
use Rattle.wind_machine.specs.declared.phase.Phase.{Phase}
use Rattle.wind_machine.specs.declared.phase.Phase.TheVariants as phases
use Rattle.wind_machine.proofs.Order.{by_next}
use Rattle.wind_machine.proofs.Steps.{if_settled}

-- it holds of a timetable, and still without its next event
module _ (P : Timetable → Type 0) (onward : (t : Timetable) → P t → P (without_next t)) where
  abbrev HoldsLeft : State → Type 0
  HoldsLeft s = P s.schedule

  shell_left : (p : Phase) (s : State) → HoldsLeft s → HoldsLeft (shell_step p s)
  shell_left phases.Prompt s h = h
  shell_left phases.Read s h = h
  shell_left phases.Eval s h = h
  shell_left phases.Call s h = h

  whoever_left : (s : State) (who : ℕ) → HoldsLeft s → HoldsLeft (step_of s who)
  whoever_left s who h = elim (eqb who shell_id) as (λ b. HoldsLeft (cond b (shell_step s.shell.phase s) (task_step s who))) [ true ↦ shell_left s.shell.phase s h | false ↦ h ]

  event_left : (s : State) (e : Event) → HoldsLeft s → HoldsLeft (event_comes s e)
  event_left s Tick h = h
  event_left s (Rx n) h = h
  event_left s (Irq i) h = h

  next_left : (said : FileSaid) (s : State) → HoldsLeft s → IfSome (state_after said s (next s)) HoldsLeft
  next_left said s h = by_next s (λ n. IfSome (state_after said s n) HoldsLeft) (record {
    deliver = λ i due. h;
    come = λ held e due. event_left (record s { schedule = without_next s.schedule; world = unreserved_world s.world }) e.event (onward s.schedule h);
    arrive = λ held quiet due. h;
    routine = λ nothing active. h;
    act = λ left t runs none. whoever_left s t.id h;
    load = λ left t runs own name found. h;
    jump = λ left nobody e there. h;
    over = λ left nobody none. tt;
  })

  pub step_left : (said : FileSaid) (s t : State) → HoldsLeft s → machine_step said s ≡ Some t → HoldsLeft t
  unfolding machine_step
  step_left said s t h e = subst (λ o. IfSome o HoldsLeft) e (if_settled HoldsLeft (state_after said s (next s)) (next_left said s h))
