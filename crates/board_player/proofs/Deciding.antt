-- What comes next, by what the code knows of the state.
use Rattle.std.proofs.Common.{◌≡◌, ℕ, Bool, true, false, cond, eqb, not, length, List, Option, None, Some, IsSome, refl, sym, ap, ◌∙◌}
use Rattle.std.specs.Prelude.{◌&&◌, Result, Ok, Err, OnErr}
use Rattle.wind_base.specs.declared.NoMemory.{NoMemory}
use Rattle.std.specs.Option.{option_map}
use Rattle.std.proofs.lemmas.Bool.{eqb-true}
use Rattle.tick_file.specs.Schedule.{Timed, at}
use Rattle.tick_file.specs.declared.event.Event.{Event}
use Rattle.con_line.specs.Lines.{has_line}
use Rattle.id_table.specs.Records.{Rising}
use Rattle.wind_core.specs.State.{Lives, task_id}
use Rattle.wind_core.specs.Orders.{running, runner}
use Rattle.wind_core.proofs.Ticks.{runner_lives}
use Rattle.id_table.specs.Idents.{shell_id}
use Rattle.live_loading.specs.KernelWorldObjects.{IsReady}
use Rattle.wind_machine.specs.State.{State}
use Rattle.wind_machine.specs.Good.{Good}
use Rattle.wind_machine.specs.Task.{waits_for_console}
use Rattle.wind_machine.specs.Events.{next_event}
use Rattle.wind_machine.specs.ActorSteps.{file_in, file_for}
use Rattle.dev_irq.specs.State.{next as next_delivery}
use Rattle.wind_machine.specs.Next.{is_active, holds_back, occupied, due_delivery, event_of, due_at, due_event, console_is_due, act_or_load, task_next, next, NothingIsDue, IsLeftToTasks}
use Rattle.wind_machine.specs.Machine.{next_may, may_exhaust_memory}
use Rattle.wind_machine.specs.declared.next.Next.{Next}
use Rattle.wind_machine.specs.declared.next.Next.TheVariants.{Deliver, Come, Arrive, Routine, Act, Load, Jump, Over}
use Rattle.wind_machine.proofs.Order.{comes_alone, in_order}
use Rattle.board_player.specs.Knowing.{jump_or_over}
use Rattle.board_player.proofs.Running.{runner_is_ready}

-- ---- what comes next
none_due : (o : Option Timed) → None ≡ option_map event_of o → o ≡ None
none_due None e = refl
none_due (Some t) e = absurd (cc)

-- an interrupt of a device that is due
pub delivery_next : (s : State) (i : ℕ) → Some i ≡ due_delivery s → Deliver i ≡ next s
delivery_next s i due = comes_alone s (Deliver i) (sym due)

-- else an event, if one is due
pub event_next : (s : State) (e : Event) → None ≡ due_delivery s → Some e ≡ option_map event_of (due_event s) → Come e ≡ next s
event_next s e held due = comes_alone s (Come e) (sym held, sym due)

-- else the console, if it is due
pub console_next : (s : State) → None ≡ due_delivery s → None ≡ option_map event_of (due_event s) → true ≡ console_is_due s → Arrive ≡ next s
console_next s held none due = comes_alone s Arrive (sym held, none_due (due_event s) none, sym due)

-- while a routine is active, nothing is due
pub nothing_due : (s : State) → is_active s.world ≡ true → NothingIsDue s
nothing_due s active = record {
  delivery = ap (λ b. cond (not b && not (holds_back (running s.world.kern))) (next_delivery (occupied s.world.slots) s.world.irqs) None) active;
  event = ap (λ b. cond (not b && not (holds_back (running s.world.kern))) (due_at s.time (next_event s)) None) active;
  console = ap (λ b. not b && not (holds_back (running s.world.kern)) && (s.schedule.on_demand && (not (eqb (length s.left) 0) && (waits_for_console s.world.kern && not (has_line s.console))))) active;
}

-- and its step comes next
pub routine_next : (s : State) → is_active s.world ≡ true → Routine ≡ next s
routine_next s active = comes_alone s Routine (nothing_due s active, active)

-- else it is left to the tasks
pub left_to_tasks : (s : State) → is_active s.world ≡ false → None ≡ due_delivery s → None ≡ option_map event_of (due_event s) → false ≡ console_is_due s → IsLeftToTasks s
left_to_tasks s idle held none silent = record { nothing_due = record { delivery = sym held; event = none_due (due_event s) none; console = sym silent }; idle = idle }

module _ (s : State) (who : ℕ) (left : IsLeftToTasks s) (runs : runner s.world.kern ≡ Some who) where
  by_file : (o : Option (List ℕ)) → file_for s who ≡ o → act_or_load who o ≡ next s
  by_file None none = comes_alone s (Act who) (left, runs, none)
  by_file (Some name) some =
      elim (eqb who shell_id) as (λ b. eqb who shell_id ≡ b → cond b (file_in s.shell.phase s.world) None ≡ Some name → Load name ≡ next s) [
        | true ↦ λ own found. let one : who ≡ shell_id = eqb-true who shell_id own in comes_alone s (Load name) (left, runs ∙ ap Some one, found)
        | false ↦ λ own found. absurd (cc)
      ] refl some

-- to the one that runs
pub runner_next : (s : State) (n : Next) (who : ℕ) → n ≡ task_next s who → is_active s.world ≡ false → None ≡ due_delivery s → None ≡ option_map event_of (due_event s) → false ≡ console_is_due s → Some who ≡ option_map task_id (running s.world.kern) → n ≡ next s
runner_next s n who e idle held none silent runs = e ∙ by_file s who (left_to_tasks s idle held none silent) (sym runs) (file_for s who) refl

load_may : (s : State) (who : ℕ) (o : Option (List ℕ)) → IsSome o → next_may s (act_or_load who o) ≡ true
load_may s who None some = absurd (cc)
load_may s who (Some name) some = refl

-- a load may run out of memory
load_exhausts : (s : State) (who : ℕ) → is_active s.world ≡ false → None ≡ due_delivery s → None ≡ option_map event_of (due_event s) → false ≡ console_is_due s → Some who ≡ option_map task_id (running s.world.kern) → IsSome (file_for s who) → may_exhaust_memory s ≡ true
load_exhausts s who idle held none silent runs some =
    ap (next_may s) (sym (by_file s who (left_to_tasks s idle held none silent) (sym runs) (file_for s who) refl)) ∙ load_may s who (file_for s who) some

pub exhausts_then : {A : Type 0} (r : Result A NoMemory) (s : State) (who : ℕ) → is_active s.world ≡ false → None ≡ due_delivery s → None ≡ option_map event_of (due_event s) → false ≡ console_is_due s → Some who ≡ option_map task_id (running s.world.kern) → OnErr r (IsSome (file_for s who)) → OnErr r (may_exhaust_memory s ≡ true)
exhausts_then (Ok a) s who idle held none silent runs some = tt
exhausts_then (Err e) s who idle held none silent runs some = load_exhausts s who idle held none silent runs some

-- nobody runs: time jumps, or the run is over
nobody : (s : State) → IsLeftToTasks s → runner s.world.kern ≡ None → (o : Option Timed) → next_event s ≡ o → jump_or_over o ≡ next s
nobody s left none None e = comes_alone s Over (left, none, e)
nobody s left none (Some t) e = comes_alone s (Jump t.time) (left, none, ap (option_map (λ t. t.time)) e)

pub nobody_next : (s : State) (n : Next) → n ≡ jump_or_over (next_event s) → is_active s.world ≡ false → None ≡ due_delivery s → None ≡ option_map event_of (due_event s) → false ≡ console_is_due s → None ≡ option_map task_id (running s.world.kern) → n ≡ next s
nobody_next s n e idle held none silent runs = e ∙ nobody s (left_to_tasks s idle held none silent) (sym runs) (next_event s) refl

pub jump_there : (o : Option Timed) (event : ℕ × Event) → Some event ≡ option_map at o → Jump event.0 ≡ jump_or_over o
jump_there None event e = absurd (cc)
jump_there (Some t) event e = let same : event ≡ (t.time, t.event) = cc in ap (λ (p : ℕ × Event). Jump p.0) same

pub no_jump : (o : Option Timed) → None ≡ option_map at o → Over ≡ jump_or_over o
no_jump None e = refl
no_jump (Some t) e = absurd (cc)

-- ---- what holds if it comes
-- an event occurs while no routine is active
due_idle : (s : State) (e : Event) (b : Bool) → is_active s.world ≡ b → option_map event_of (due_event s) ≡ Some e → b ≡ false
due_idle s e true active due = let none : due_event s ≡ None = (nothing_due s active).event in let bad : None ≡ Some e = sym (ap (option_map event_of) none) ∙ due in absurd (cc)
due_idle s e false active due = refl

pub event_idle : (s : State) (e : Event) → Come e ≡ next s → is_active s.world ≡ false
event_idle s e comes = due_idle s e (is_active s.world) refl ((in_order s (Come e)).1 comes).1

-- an interrupt of the device in a slot is delivered when it is due
pub delivery_due : (s : State) (i : ℕ) → Deliver i ≡ next s → due_delivery s ≡ Some i
delivery_due s i comes = (in_order s (Deliver i)).1 comes

pub routine_active : (s : State) → Routine ≡ next s → is_active s.world ≡ true
routine_active s comes = ((in_order s Routine).1 comes).1

module _ (s : State) (who : ℕ) (comes : Act who ≡ next s) where
  pub act_idle : is_active s.world ≡ false
  act_idle = ((in_order s (Act who)).1 comes).0.idle

  pub act_runs : Some who ≡ runner s.world.kern
  act_runs = sym ((in_order s (Act who)).1 comes).1

  pub act_asks_none : file_for s who ≡ None
  act_asks_none = ((in_order s (Act who)).1 comes).2

  pub act_lives : Rising task_id s.world.kern.tasks → Lives s.world.kern who
  act_lives up = runner_lives s.world.kern who up act_runs

  pub act_ready : Good s → IsReady s.world.kern who
  act_ready good = runner_is_ready s.world.kern good.kept.world.kern who act_runs
