-- The journal of the console over a run, and the lines that the shell reads.
use Rattle.std.specs.Prelude.{ℕ, zero, suc, true, false, List, [], ◌∷◌, ◌++◌, map, take, ◌==◌, if◌then◌else◌}
use Rattle.id_table.specs.Idents.{shell_id}
use Rattle.con_line.specs.State.{ConsoleState}
use Rattle.con_line.specs.Lines.{first_line}
use Rattle.con_line.specs.Fates.{Arrival, Entry, journal_after}
use Rattle.tick_file.specs.declared.event.Event.{Event}
use Rattle.tick_file.specs.declared.event.Event.TheVariants.{Tick, Rx, Irq}
use Rattle.wind_machine.specs.State.{State}
use Rattle.wind_machine.specs.Feed.{first_end, taken_by, is_unended, supplied, brought}
use Rattle.wind_machine.specs.Next.{next}
use Rattle.wind_machine.specs.Run.{Answers, after}
use Rattle.wind_machine.specs.declared.next.Next.{Next}
use Rattle.wind_machine.specs.declared.next.Next.TheVariants.{Come, Arrive, Act}
use Rattle.wind_machine.specs.declared.phase.Phase.{Phase}
use Rattle.wind_machine.specs.declared.phase.Phase.TheVariants as phases

-- ---- what arrives at a step
-- bytes of the console file, and newlines that are supplied
abbrev pub file_arrivals : List ℕ → List Arrival
file_arrivals bytes = map (λ b. record { byte = b; is_supplied = false }) bytes

abbrev pub supplied_arrivals : List ℕ → List Arrival
supplied_arrivals bytes = map (λ b. record { byte = b; is_supplied = true }) bytes

-- an event brings bytes of the console file if it is one of `rx`
abbrev pub event_arrivals : Event → List ℕ → List Arrival
event_arrivals (Rx n) left = file_arrivals (take (brought n) left)
event_arrivals Tick left = []
event_arrivals (Irq slot) left = []

-- a chunk brings bytes of the console file, and a newline if these end the file without an end of their line
abbrev pub arrivals_by : Next → List ℕ → List Arrival
arrivals_by Arrive left =
    file_arrivals (take (taken_by (first_end left)) left)
    ++ supplied_arrivals (supplied (is_unended (first_end left) left))
arrivals_by (Come e) left = event_arrivals e left
arrivals_by n left = []

-- ---- what is read at a step
-- a shell that reads takes the first finished line
abbrev pub line_in : Phase → ConsoleState → List (List ℕ)
line_in phases.Read c = first_line c ∷ []
line_in p c = []

abbrev pub lines_read_by : Next → Phase → ConsoleState → List (List ℕ)
lines_read_by (Act who) p c = if who == shell_id then line_in p c else []
lines_read_by n p c = []

-- ---- a run
-- the bytes that arrived in the first k steps, in their order, and what became of each
abbrev pub journal : Answers → State → ℕ → List Entry
journal said s zero = []
journal said s (suc k) =
    journal_after (after said s k).console (arrivals_by (next (after said s k)) (after said s k).left)
    (journal said s k)

-- the lines that the shell read in the first k steps
abbrev pub lines_read : Answers → State → ℕ → List (List ℕ)
lines_read said s zero = []
lines_read said s (suc k) =
    lines_read said s k ++ lines_read_by (next (after said s k)) (after said s k).shell.phase (after said s k).console
