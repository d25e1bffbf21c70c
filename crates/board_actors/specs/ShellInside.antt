-- The fields of the shell, and their invariant.
use Rattle.std.specs.Prelude.{◌≡◌, ℕ, List, [], ◌∷◌, map, Option, None, Some}
use Rattle.shell_parse.specs.Trees.{PlainStmt, Nothing}
use Rattle.shell_eval.specs.Pending.{Pending}
use Rattle.shell_eval.specs.Laws.{holes}
use Rattle.wind_machine.specs.Shell.{begun_tree}
use Rattle.wind_machine.specs.declared.phase.Phase.{Phase}
use Rattle.wind_machine.specs.declared.phase.Phase.TheVariants as phases

-- the trees of the statement that has begun, if one has, and of the statements after it
abbrev pub trees_of : Option Pending → List PlainStmt → List (Option Pending)
trees_of None stmts = map begun_tree stmts
trees_of (Some p) stmts = Some p ∷ map begun_tree stmts

-- there is no statement, or the first has no token
abbrev pub IsBlank : List PlainStmt → Type 0
IsBlank [] = Unit {0}
IsBlank (Nothing ∷ stmts) = Unit {0}
IsBlank stmts = ⊥

-- how many answers are awaited
abbrev pub holes_of : Option Pending → ℕ
holes_of None = 0
holes_of (Some p) = holes p

-- in phase Eval no answer is awaited; in phase Call one call's answer is
abbrev pub Awaits : Phase → Option Pending → Type 0
Awaits phases.Prompt current = Unit {0}
Awaits phases.Read current = Unit {0}
Awaits phases.Eval current = holes_of current ≡ 0
Awaits phases.Call current = holes_of current ≡ 1
