-- What a step changes of watchdogs, from the views before and after it.
use Rattle.std.specs.Prelude.{ℕ, ◌==◌, nat_le, if◌then◌else◌, List, [], ◌∷◌, ◌++◌, Option, None, Some}
use Rattle.id_table.specs.Records.{of_id}
use Rattle.isr_watch.specs.declared.watchdog.Timer.{Timer}
use Rattle.board_changes.specs.Views.{watchdog_id}
use Rattle.board_changes.specs.declared.view.WatchdogView.{WatchdogView}
use Rattle.board_changes.specs.declared.change.Change.{Change}
use Rattle.board_changes.specs.declared.change.Change.TheVariants as changes

-- the view of the watchdog with this id, and its timer, if it is there and running
abbrev pub found : List WatchdogView → ℕ → Option WatchdogView
found views id = of_id watchdog_id views id

abbrev pub timer_of : Option WatchdogView → Option Timer
timer_of None = None
timer_of (Some v) = v.timer

abbrev pub timer_in : List WatchdogView → ℕ → Option Timer
timer_in views id = timer_of (found views id)

-- a running watchdog has stopped: at its tick, or before
abbrev pub stopped : ℕ → ℕ → Timer → Change
stopped tick id timer = if nat_le timer.due tick then changes.Fired id else changes.Cancelled id

-- a watchdog is started, also again, or stops
abbrev pub timer_changes : ℕ → ℕ → Option Timer → Option Timer → List Change
timer_changes tick id None None = []
timer_changes tick id None (Some timer) = changes.Started id timer.due ∷ []
timer_changes tick id (Some timer) None = stopped tick id timer ∷ []
timer_changes tick id (Some old) (Some timer) = if old.start == timer.start then [] else changes.Started id timer.due ∷ []

-- the watchdogs that are there after the step, in their order
abbrev pub live_changes : ℕ → List WatchdogView → List WatchdogView → List Change
live_changes tick before [] = []
live_changes tick before (w ∷ ws) = timer_changes tick w.id (timer_in before w.id) w.timer ++ live_changes tick before ws

-- a watchdog that isn't found after the step has stopped, if it was running
abbrev pub gone_change : ℕ → WatchdogView → Option WatchdogView → List Change
gone_change tick w None = timer_changes tick w.id w.timer None
gone_change tick w (Some v) = []

abbrev pub gone_changes : ℕ → List WatchdogView → List WatchdogView → List Change
gone_changes tick after [] = []
gone_changes tick after (w ∷ ws) = gone_change tick w (found after w.id) ++ gone_changes tick after ws

-- what a step changes of watchdogs, at this tick
abbrev pub watchdog_changes : ℕ → List WatchdogView → List WatchdogView → List Change
watchdog_changes tick before after = live_changes tick before after ++ gone_changes tick after before
