-- An instruction of an interrupt routine is a silent step, and the routine goes on.
use Rattle.std.proofs.Common.{◌≡◌, ℕ, true, cond, List, [], ◌∷◌, Option, None, Some, is_some, IsSome, refl, sym, ap, ap₂, ◌∙◌, subst}
use Rattle.std.specs.List.{All}
use Rattle.std.proofs.lemmas.List.Elements.{All-nil, All-cons, All-map}
use Rattle.std.specs.Prelude.{unwrap_or}
use Rattle.std.specs.Option.{option_map}
use Rattle.wind_base.specs.Boards.{board_rules}
use Rattle.wind_base.specs.declared.regs.Regs.{Regs}
use Rattle.task_block.specs.declared.task.Task.{Task}
use Rattle.wind_core.specs.State.{KernState, IsKern}
use Rattle.wind_core.specs.Moves.{unreserved}
use Rattle.board_bus.specs.BusState.{BusState}
use Rattle.live_loading.specs.KernelWorldState.{WorldState}
use Rattle.live_loading.specs.KernelWorldActor.TheVariants.{Task as by_task, Interrupt}
use Rattle.live_loading.specs.KernelWorldKept.{ReservedBy}
use Rattle.live_loading.specs.KernelWorldSettling.{HasExact}
use Rattle.live_loading.specs.KernelWorldStarting.{no_regs}
use Rattle.wind_machine.specs.State.{State}
use Rattle.wind_machine.specs.Silent.{IsSilentStep}
use Rattle.wind_machine.specs.Reserving.{drop_all}
use Rattle.wind_machine.specs.Processor.{bus_of, regs_of, actor_part}
use Rattle.wind_machine.specs.ActorSteps.{after_part, routine_step}
use Rattle.wind_machine.specs.Events.{cleared, unreserved_world}
use Rattle.wind_machine.specs.Next.{next}
use Rattle.wind_machine.specs.Machine.{actor_of, settled_state, Steps}
use Rattle.wind_machine.specs.declared.next.Next.TheVariants.{Routine}
use Rattle.wind_machine.proofs.Reserving.{all_none}
use Rattle.board_actors.specs.Instructions.{Executes}
use Rattle.board_actors.specs.Running.{OnlyRegs, RanMany}
use Rattle.board_actors.specs.declared.step_kind.StepKind.{StepKind}
use Rattle.board_actors.specs.declared.step_kind.StepKind.TheVariants as kinds
use Rattle.board_player.specs.Going.{IsRoutine}
use Rattle.board_player.specs.Bursts.{RoutineRunsOn, moved}
use Rattle.board_player.proofs.Deciding.{routine_next}
use Rattle.board_player.proofs.Stepping.{by_instruction}
use Rattle.board_player.proofs.ManySteps.{GoesOn}
use Rattle.board_player.proofs.Answering.{steps_on}
use Rattle.board_player.proofs.Settled.{still_settled}

-- nobody has a reservation, so none is dropped
pub routine_alone : (k : KernState) → ReservedBy None k → drop_all k ≡ k
routine_alone k none = ap (λ ts. record k { tasks = ts }) (all_none k.tasks none)

-- the task has no reservation
abbrev HasNone : Task → Type 0
HasNone t = IsSome t.regs.reserve → None ≡ Some t.id

dropped_has_none : (t : Task) → HasNone (unreserved t)
dropped_has_none t some = absurd (cc)

each_has_none : (ts : List Task) → All (λ t. HasNone (unreserved t)) ts
each_has_none [] = All-nil (λ t. HasNone (unreserved t))
each_has_none (t ∷ ts) = All-cons (λ u. HasNone (unreserved u)) t ts (dropped_has_none t) (each_has_none ts)

-- after all reservations are dropped, nobody has one
pub none_reserved : (k new : KernState) → new ≡ drop_all k → ReservedBy None new
none_reserved k new e = subst (ReservedBy None) (sym e) (All-map HasNone unreserved k.tasks (each_has_none k.tasks))

-- the active routine has registers
level_regs : (o : Option Regs) → is_some o ≡ true → o ≡ Some (unwrap_or o no_regs)
level_regs None e = absurd (cc)
level_regs (Some r) e = refl

module _ (s : State) (is : IsKern s.world.kern) (exact : HasExact s.world) (on : RoutineRunsOn s) where
  -- its step begins with the world as it is
  as_begun : cleared (unreserved_world s.world) ≡ s.world
  as_begun = ap₂ (λ k o. record s.world { kern = k; output = o }) on.alone (sym on.silent)

  comes : Routine ≡ next s
  comes = routine_next s on.active

  module _ (r : Regs) (b : BusState) (ex : Executes (board_rules s.world.board).gates_start (regs_of s.world Interrupt) (bus_of s.world) r b) where
    made : routine_step s ≡ moved s Interrupt r b 1
    made =
        ap (λ w. after_part s (actor_part s.shell w Interrupt)) as_begun
        ∙ ap (after_part s) (by_instruction s.shell s.world Interrupt r b ex)

    steps : Steps s (moved s Interrupt r b 1)
    steps = steps_on s (moved s Interrupt r b 1) Routine comes (λ said. ap (λ t. Some (settled_state t)) made ∙ ap Some (still_settled s (moved s Interrupt r b 1) is refl refl exact))

    one_step : IsSilentStep s (moved s Interrupt r b 1)
    one_step = record {
      who = Interrupt;
      last = ap (λ b. cond b (Some Interrupt) (option_map (λ n. by_task n) s.world.kern.last)) on.active;
      instruction = record { comes = ap actor_of (sym comes); in_call = λ e. absurd (cc); no_gate = ex.no_gate };
      goes_on = refl;
      last_stays = refl;
      steps = steps;
      silent = on.silent;
      uneventful = refl;
    }

-- ---- the routine goes on after them
module _ (s : State) (is : IsKern s.world.kern) (exact : HasExact s.world) (on : RoutineRunsOn s) where
  on_after : (m : Regs) (c : BusState) (k : ℕ) → RoutineRunsOn (moved s Interrupt m c k)
  on_after m c k = record { active = refl; alone = on.alone; silent = on.silent }

  pub routine_goes_on : (n : ℕ) → GoesOn s Interrupt n
  routine_goes_on n = record {
    one = λ k h m r c b ex. one_step (moved s Interrupt m c k) is exact (on_after m c k) r b ex;
    same = ap (λ (l : Option Regs). record s.world { watch = record s.world.watch { level = l } }) (sym (level_regs s.world.watch.level on.active));
    over = λ m r c b. refl;
  }

-- ---- what is known after instructions of the routine
-- it is active, and no task has a reservation, after one that is a step
pub routine_left : (k : KernState) (began done : WorldState) (kind : StepKind) → began.kern ≡ drop_all k → (kind ≡ kinds.Instruction → OnlyRegs began done Interrupt) → kind ≡ kinds.Instruction
    → IsRoutine done.kern done.watch.level
routine_left k began done kind dropped only is =
    let x = only is in
    record { active = ap (λ (w : WorldState). is_some w.watch.level) x.world; none = none_reserved k done.kern (ap (λ (w : WorldState). w.kern) x.world ∙ dropped) }

-- and after many
pub still_routine : (k : ℕ) (old new : WorldState) → RanMany k Interrupt old new → IsRoutine old.kern old.watch.level → IsRoutine new.kern new.watch.level
still_routine k old new ran is = subst (λ (w : WorldState). IsRoutine w.kern w.watch.level) (sym ran.world) (record { active = refl; none = is.none })
