-- Which tasks wait, where and by which key, as the tasks say it.
use Rattle.std.specs.Prelude.{List, Option, None, Some}
use Rattle.std.specs.List.{filter_map}
use Rattle.std.specs.Option.{option_map}
use Rattle.wind_base.specs.Limits.{most_tasks}
use Rattle.id_table.specs.declared.ident.Place.{Place}
use Rattle.task_block.specs.declared.task.Task.{Task}
use Rattle.wait_order.specs.declared.waits.Waiter.{Waiter}
use Rattle.wait_order.specs.Line.{Line, with_waiter, without_waiter}
use Rattle.wind_core.specs.Orders.{wait_pri}

-- a task that waits at this place, with the key that decides its position there
abbrev pub waiter_at : Task → Place → Waiter
waiter_at t place = record { place = place; who = t.id; pri = wait_pri t; since = t.since }

-- a task as a waiter, if it waits
abbrev pub as_waiter : Task → Option Waiter
as_waiter t = option_map (waiter_at t) t.wait

-- exactly the tasks that wait, each with its place and key
abbrev pub waits_of : List Task → List Waiter
waits_of ts = filter_map as_waiter ts

-- the same, with room for all tasks
abbrev pub task_waits : List Task → Line
task_waits ts = record { waiters = waits_of ts; room = most_tasks }

-- a line with one more waiter, if there is one
abbrev pub with_found : Line → Option Waiter → Line
with_found l None = l
with_found l (Some w) = with_waiter l w

-- the line after one task is updated: it is there as it waits now, or not at all
abbrev pub mended : Line → Task → Line
mended l t = with_found (without_waiter l t.id) (as_waiter t)
