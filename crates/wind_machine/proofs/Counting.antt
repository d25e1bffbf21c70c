-- Every step is counted.
use Rattle.std.proofs.Common.{◌≡◌, ℕ, ◌+◌, true, false, cond, eqb, Some, IfSome, refl, subst}
use Rattle.tick_file.specs.declared.event.Event.{Event}
use Rattle.tick_file.specs.declared.event.Event.TheVariants.{Tick, Rx, Irq}
use Rattle.id_table.specs.Idents.{shell_id}
use Rattle.live_loading.specs.Said.{FileSaid}
use Rattle.wind_machine.specs.State.{State}
use Rattle.wind_machine.specs.Events.{event_comes, unreserved_world, without_next}
use Rattle.wind_machine.specs.ActorSteps.{shell_step, task_step, step_of}
use Rattle.wind_machine.specs.Next.{next}
use Rattle.wind_machine.specs.Machine.{machine_step, state_after}
use Rattle.wind_machine.proofs.Steps.{if_settled}
use Rattle.wind_machine.specs.declared.next.Next.{Next}
use Rattle.wind_machine.specs.declared.next.Next.TheVariants.{Deliver, Come, Arrive, Routine, Act, Load, Jump, Over}
use Rattle.wind_machine.specs.declared.phase.Phase.{Phase}
use Rattle.wind_machine.specs.declared.phase.Phase.TheVariants as phases

-- one step more than in that state
abbrev IsCounted : State → State → Type 0
IsCounted s t = t.steps ≡ s.steps + 1

shell_counted : (p : Phase) (s : State) → IsCounted s (shell_step p s)
shell_counted phases.Prompt s = refl
shell_counted phases.Read s = refl
shell_counted phases.Eval s = refl
shell_counted phases.Call s = refl

task_counted : (s : State) (who : ℕ) → IsCounted s (step_of s who)
task_counted s who = elim (eqb who shell_id) as (λ b. IsCounted s (cond b (shell_step s.shell.phase s) (task_step s who))) [ true ↦ shell_counted s.shell.phase s | false ↦ refl ]

event_counted : (s : State) (e : Event) → IsCounted s (event_comes s e)
event_counted s Tick = refl
event_counted s (Rx n) = refl
event_counted s (Irq i) = refl

after_counted : (said : FileSaid) (s : State) (n : Next) → IfSome (state_after said s n) (IsCounted s)
after_counted said s (Deliver i) = refl
after_counted said s (Come e) = event_counted (record s { schedule = without_next s.schedule; world = unreserved_world s.world }) e
after_counted said s Arrive = refl
after_counted said s Routine = refl
after_counted said s (Act who) = task_counted s who
after_counted said s (Load name) = refl
after_counted said s (Jump e) = refl
after_counted said s Over = tt

pub counted : (said : FileSaid) (s t : State) → machine_step said s ≡ Some t → t.steps ≡ s.steps + 1
unfolding machine_step
counted said s t e = subst (λ o. IfSome o (IsCounted s)) e (if_settled (IsCounted s) (state_after said s (next s)) (after_counted said s (next s)))
