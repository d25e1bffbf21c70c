-- What a burst changes of the world.
use Rattle.std.proofs.Common.{◌≡◌, ℕ, cond, Some, sym, ap, ap₂, ◌∙◌, subst}
use Rattle.std.specs.Option.{option_map}
use Rattle.live_loading.specs.KernelWorldState.{WorldState}
use Rattle.live_loading.specs.KernelWorldActor.{Actor}
use Rattle.live_loading.specs.KernelWorldActor.TheVariants.{Task as by_task, Interrupt}
use Rattle.wind_machine.specs.State.{State}
use Rattle.wind_machine.specs.Silent.{last_actor}
use Rattle.board_actors.specs.Running.{RanMany}
use Rattle.board_player.specs.Bursts.{MovesLast, MovesOnly, RunsOn}
use Rattle.board_player.specs.Going.{IsRoutine}

-- a task that goes on made the last step
pub task_last : (s : State) (who : ℕ) → RunsOn s who → last_actor s.world ≡ Some (by_task who)
task_last s who on = ap₂ (λ b l. cond b (Some Interrupt) (option_map (λ n. by_task n) l)) on.idle on.last

-- so did the active routine
pub routine_last : (w : WorldState) → IsRoutine w.kern w.watch.level → last_actor w ≡ Some Interrupt
routine_last w is = ap (λ b. cond b (Some Interrupt) (option_map (λ n. by_task n) w.kern.last)) is.active

-- instructions of the one that made the last step
pub moves_last : (w v : WorldState) (who : Actor) (k : ℕ) → last_actor w ≡ Some who → RanMany k who w v → MovesLast w v
moves_last w v who k last ran a is =
    let both : Some who ≡ Some a = sym last ∙ is in
    let same : who ≡ a = cc in
    subst (λ x. MovesOnly x w v) same (record { regs = ran.regs; bus = ran.bus; world = ran.world })
