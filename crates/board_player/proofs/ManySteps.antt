-- Instructions of an actor, one after the other, are silent steps.
use Rattle.std.proofs.Common.{◌≡◌, ℕ, zero, suc, ◌+◌, ◌≤◌, sym, ap, ap₂, ◌∙◌, subst, arith}
use Rattle.wind_base.specs.Boards.{board_rules}
use Rattle.wind_base.specs.declared.regs.Regs.{Regs}
use Rattle.board_bus.specs.BusState.{BusState}
use Rattle.live_loading.specs.KernelWorldState.{WorldState}
use Rattle.live_loading.specs.KernelWorldActor.{Actor}
use Rattle.wind_machine.specs.State.{State}
use Rattle.wind_machine.specs.Silent.{IsSilentStep, SilentSteps}
use Rattle.wind_machine.specs.Processor.{bus_of, regs_of}
use Rattle.board_actors.specs.Instructions.{Executes, ExecutesMany, executed_to}
use Rattle.board_actors.specs.Running.{RanMany}
use Rattle.board_player.specs.Bursts.{moved}

-- each of the next n instructions of the actor is a silent step, and the last registers and bus count
pub record GoesOn (s : State) (who : Actor) (n : ℕ) : Type 0 where
  pub one : (k : ℕ) → k + 1 ≤ n → (m r : Regs) (c b : BusState) → Executes (board_rules s.world.board).gates_start m c r b → IsSilentStep (moved s who m c k) (moved (moved s who m c k) who r b 1)
  pub same : executed_to s.world who (regs_of s.world who) (bus_of s.world) ≡ s.world
  pub over : (m r : Regs) (c b : BusState) → executed_to (executed_to s.world who m c) who r b ≡ executed_to s.world who r b

module _ (s : State) (who : Actor) (n : ℕ) (on : GoesOn s who n) where
  as_it_was : (r : Regs) (b : BusState) → r ≡ regs_of s.world who → b ≡ bus_of s.world → moved s who r b 0 ≡ s
  as_it_was r b e f =
      ap₂ (λ x c. record s { world = executed_to s.world who x c; time = s.time + 0; steps = s.steps + 0 }) e f
      ∙ ap (λ (w : WorldState). record s { world = w; time = s.time + 0; steps = s.steps + 0 }) on.same
      ∙ ap₂ (λ t n. record s { time = t; steps = n }) (omega arith) (omega arith)

  further : (m r : Regs) (c b : BusState) (k : ℕ) → moved (moved s who m c k) who r b 1 ≡ moved s who r b (suc k)
  further m r c b k =
      ap (λ (w : WorldState). record s { world = w; time = s.time + k + 1; steps = s.steps + k + 1 }) (on.over m r c b)
      ∙ ap₂ (λ t n. record s { world = executed_to s.world who r b; time = t; steps = n }) (omega arith) (omega arith)

  bursts : (k : ℕ) → k ≤ n → (r : Regs) (b : BusState) → ExecutesMany (board_rules s.world.board).gates_start k (regs_of s.world who) (bus_of s.world) r b → SilentSteps k s (moved s who r b k)
  bursts zero h r b many = as_it_was r b many.0 many.1
  bursts (suc k) h r b many =
      let m = many.0 in
      let c = many.1 in
      (moved s who m c k, bursts k (omega (arith, h)) m c many.2, subst (IsSilentStep (moved s who m c k)) (further m r c b k) (on.one k (omega (arith, h)) m r c b many.3))

  -- what a call for them leaves
  pub gone : (k time count : ℕ) (w : WorldState) → k ≤ n → RanMany k who s.world w → time ≡ s.time + k → count ≡ s.steps + k → SilentSteps k s (record s { world = w; time = time; steps = count })
  gone k time count w h ran t c =
      subst (SilentSteps k s)
      (ap (λ v. record s { world = v; time = s.time + k; steps = s.steps + k }) (sym ran.world) ∙ ap₂ (λ x y. record s { world = w; time = x; steps = y }) (sym t) (sym c))
      (bursts k h ran.regs ran.bus ran.many)
