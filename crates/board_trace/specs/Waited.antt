-- What a task waits for, from the place at which it waits.
use Rattle.std.specs.Prelude.{ℕ, ◌==◌, if◌then◌else◌, Option, is_some}
use Rattle.std.specs.Option.{option_map}
use Rattle.id_table.specs.Rows.{object_of}
use Rattle.id_table.specs.Sides.{object_side, deletion_side, console_side}
use Rattle.id_table.specs.declared.ident.Place.{Place}
use Rattle.task_block.specs.declared.task.Task.{Task}
use Rattle.kernel_world.specs.declared.objects.Objects.{Objects}
use Rattle.board_changes.specs.declared.awaited.Awaited.{Awaited}
use Rattle.board_changes.specs.declared.awaited.Awaited.TheVariants as awaited

-- at the side of an object: a mutex, a message of a queue, or otherwise a semaphore
abbrev pub awaited_object : Objects → ℕ → Awaited
awaited_object o id =
    if is_some (object_of o.mutexes.rows id) then awaited.Mutex id
    else if is_some (object_of o.queues.queues id) then awaited.Receiving id
    else awaited.Semaphore id

-- at a place: an object, the deletion of a task, the console, or room in a queue
abbrev pub awaited_at : Objects → Place → Awaited
awaited_at o p =
    if p.side == object_side then awaited_object o p.id
    else if p.side == deletion_side then awaited.Deletion p.id
    else if p.side == console_side then awaited.Console
    else awaited.Sending p.id

-- what a task waits for, if it waits
abbrev pub awaited_by : Objects → Task → Option Awaited
awaited_by o t = option_map (awaited_at o) t.wait
