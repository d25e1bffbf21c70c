-- What the program tells, in lines of its own.
use Rattle.std.specs.Prelude.{ℕ, List, ◌++◌, codes}
use Rattle.std.specs.Fmt.{decimal}
use Rattle.text_show.specs.Tasks.{task_table_of}
use Rattle.wind_machine.specs.State.{State}
use Rattle.live_session.specs.declared.record.Refusal.{Refusal}
use Rattle.live_session.specs.declared.record.Refusal.TheVariants as refusals
use Rattle.live_session.specs.declared.saving.Unsaved.{Unsaved}
use Rattle.live_session.specs.declared.saving.Unsaved.TheVariants as unsaved

-- a text in a line of its own, after the program's name
abbrev pub own_line : List ℕ → List ℕ
own_line text = codes "windlive: " ++ text ++ codes "\n"

-- why nothing was sent
abbrev pub refusal_text : Refusal → List ℕ
refusal_text refusals.Time = own_line (codes "not sent: board time is beyond 4294967295")
refusal_text refusals.Console = own_line (codes "not sent: console.txt would be longer than 1 MiB")
refusal_text refusals.Ticks = own_line (codes "not sent: ticks.txt would be longer than 1 MiB")
refusal_text refusals.NoMemory = own_line (codes "not sent: out of memory")

abbrev pub memory_text : List ℕ
memory_text = own_line (codes "out of memory")

abbrev pub unknown_text : List ℕ
unknown_text = own_line (codes "unknown; .help lists the lines that begin with `.`")

abbrev pub unsaved_text : List ℕ
unsaved_text = own_line (codes "nothing is saved without --record")

-- the record in the folder with this name was written, or wasn't
abbrev pub written_text : List ℕ → List ℕ
written_text folder = codes "windlive: " ++ folder ++ codes ": the record was written\n"

abbrev pub unwritten_text : List ℕ → List ℕ
unwritten_text folder = codes "windlive: " ++ folder ++ codes ": the record was not written\n"

-- why the record was not written
abbrev pub failure_text : List ℕ → Unsaved → List ℕ
failure_text folder unsaved.Failed = unwritten_text folder
failure_text folder unsaved.NoMemory = memory_text

-- the lines that begin with `.`
abbrev pub help_text : List ℕ
help_text =
    codes ".ticks N               N ticks, each when nothing else is left to do\n"
    ++ codes ".ticks N every M       N ticks, M units of board time apart, whatever runs\n"
    ++ codes ".irq SLOT              an interrupt of the device in a slot\n"
    ++ codes ".irqs N every M SLOT   N of them, M units of board time apart\n"
    ++ codes ".run N                 N steps\n"
    ++ codes ".break                 the byte 0x03, which aborts the shell's line and call\n"
    ++ codes ".state                 board time, steps, ticks and the table of tasks\n"
    ++ codes ".save                  write the record now\n"
    ++ codes ".quit                  end\n"
    ++ codes ".help                  this list\n"

-- board time, and the number of steps and of ticks
abbrev pub numbers_text : State → List ℕ
numbers_text board =
    codes "board time " ++ decimal board.time
    ++ codes "\nsteps " ++ decimal board.steps
    ++ codes "\nticks " ++ decimal board.world.kern.tick

-- the same, and what each task does
abbrev pub state_text : State → List ℕ
state_text board = numbers_text board ++ codes "\n" ++ task_table_of board.world.kern
