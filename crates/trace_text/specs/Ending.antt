-- The last line: how the run ended, and why nothing runs.
use Rattle.std.specs.Prelude.{ℕ, Bool, true, false, List, [], ◌∷◌, ◌++◌, Option, None, Some, codes}
use Rattle.std.specs.Fmt.{decimal}
use Rattle.board_changes.specs.declared.awaited.Awaited.{Awaited}
use Rattle.board_changes.specs.declared.view.TaskView.{TaskView}
use Rattle.trace_text.specs.Changes.{awaited_text, until_text, until_tick_text}
use Rattle.trace_text.specs.Lines.{columns}
use Rattle.trace_text.specs.Pieces.{escaped}
use Rattle.board_trace.specs.declared.who.Subject.TheVariants as subjects

-- a task waits for something, maybe until a tick
abbrev pub waiting_text : Awaited → Option ℕ → List ℕ
waiting_text object until = codes " waits for " ++ (awaited_text object ++ until_text until)

-- a task sleeps until a tick
abbrev pub sleeping_text : ℕ → List ℕ
sleeping_text tick = codes " sleeps" ++ until_tick_text tick

-- what a task does: it waits, sleeps, is suspended, or is ready
abbrev pub state_text : Option Awaited → Option ℕ → Bool → List ℕ
state_text (Some object) until suspended = waiting_text object until
state_text None (Some tick) suspended = sleeping_text tick
state_text None None true = []
state_text None None false = codes " is ready"

abbrev pub suspended_text : Bool → List ℕ
suspended_text true = codes " is suspended"
suspended_text false = []

-- a task and what it does
abbrev pub standing_text : TaskView → List ℕ
standing_text t = codes "; " ++ (decimal t.id ++ (codes " " ++ (escaped t.name ++ (state_text t.wait t.wake t.suspended ++ suspended_text t.suspended))))

abbrev pub standings : List TaskView → List ℕ
standings [] = []
standings (t ∷ ts) = standing_text t ++ standings ts

-- how many bytes of the console file are left
abbrev pub bytes_left_text : ℕ → List ℕ
bytes_left_text left = codes "; bytes of the console left: " ++ (decimal left ++ codes "\n")

-- how the run ended, what each task does, and how many bytes of the console file are left
abbrev pub outcome_text : List ℕ → List TaskView → ℕ → List ℕ
outcome_text how tasks left = codes "the run ends: " ++ (how ++ (standings tasks ++ bytes_left_text left))

-- the last line
abbrev pub last_line : ℕ → ℕ → List ℕ → List TaskView → ℕ → List ℕ
last_line time step how tasks left = columns time step subjects.Board [] ++ outcome_text how tasks left
