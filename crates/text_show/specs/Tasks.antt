-- The table of tasks, as the shell's `i` shows it. Its columns are this project's own.
use Rattle.std.specs.Prelude.{ℕ, zero, suc, ◌-◌, ◌<◌, ◌==◌, nat_lt, ◌&&◌, ◌||◌, Bool, false, List, [], ◌∷◌, ◌++◌, codes, Option, None, Some}
use Rattle.std.specs.List.{filter, flat_map}
use Rattle.std.specs.Fmt.{decimal, digits}
use Rattle.task_block.specs.declared.task.Task.{Task}
use Rattle.task_block.specs.Standing.{status_word}
use Rattle.wind_core.specs.State.{KernState}
use Rattle.id_table.specs.Sorting.{sorted}
use Rattle.wind_base.specs.Texts.{hex_places}
use Rattle.text_show.specs.Columns.{left_in, right_in, row}

-- the ticks until a wake, or 0 if there is none
abbrev pub ticks_to : ℕ → Option ℕ → ℕ
ticks_to tick None = 0
ticks_to tick (Some wake) = wake - tick

-- the header of the table
unfoldable pub task_header : List ℕ
task_header = row (
    left_in 12 (codes "NAME")
    ∷ right_in 8 (codes "TID")
    ∷ right_in 3 (codes "PRI")
    ∷ left_in 8 (codes "STATUS")
    ∷ left_in 8 (codes "PC")
    ∷ right_in 8 (codes "ERRNO")
    ∷ right_in 10 (codes "DELAY")
    ∷ [])

-- the row of a task at a tick: its name, its id in hexadecimal, its priority, its status word, its program counter in 8
-- hexadecimal digits, its error number in hexadecimal, the ticks to its wake
unfoldable pub task_row : ℕ → Task → List ℕ
task_row tick t = row (
    left_in 12 t.name
    ∷ right_in 8 (digits 16 false t.id)
    ∷ right_in 3 (decimal t.pri)
    ∷ left_in 8 (status_word t)
    ∷ left_in 8 (hex_places 8 t.regs.pc)
    ∷ right_in 8 (digits 16 false t.errno)
    ∷ right_in 10 (decimal (ticks_to tick t.wake))
    ∷ [])

-- the order of the rows: by priority, the most urgent first, and then by id
abbrev pub stands_before : Task → Task → Bool
stands_before t u = nat_lt t.pri u.pri || (t.pri == u.pri && nat_lt t.id u.id)

-- the table: the header, and a row for each task in this order
unfoldable pub task_table_of : KernState → List ℕ
task_table_of s = task_header ++ flat_map (task_row s.tick) (sorted stands_before s.tasks)

-- ---- the rows as they are computed: one priority after another
abbrev pub has_priority : ℕ → Task → Bool
has_priority pri t = t.pri == pri

-- the tasks of k priorities, from one priority on
abbrev pub from_priority : ℕ → ℕ → List Task → List Task
from_priority zero pri ts = []
from_priority (suc k) pri ts = filter (has_priority pri) ts ++ from_priority k (suc pri) ts

-- each priority is below 256
abbrev pub AreLow : List Task → Type 0
AreLow [] = Unit {0}
AreLow (t ∷ ts) = (t.pri < 256) × AreLow ts
