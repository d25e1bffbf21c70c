-- Who runs in a world.
use Rattle.std.specs.Prelude.{ℕ, if◌then◌else◌, Option, None}
use Rattle.wind_core.specs.Orders.{runner}
use Rattle.kernel_world.specs.State.{WorldState}
use Rattle.wind_machine.specs.Next.{is_active}

-- the task that runs; none while an interrupt routine is active
abbrev pub running_task : WorldState → Option ℕ
running_task w = if is_active w then None else runner w.kern
