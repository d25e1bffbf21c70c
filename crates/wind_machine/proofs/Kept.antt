-- What every step keeps of the line that the shell reads.
use Rattle.std.proofs.Common.{◌≡◌, ◌≢◌, ℕ, ◌+◌, List, [], ◌∷◌, ◌++◌, map, Bool, ap, sym, ◌∙◌, arith, length, length-append}
use Rattle.std.specs.Prelude.{◌==◌, not, if◌then◌else◌}
use Rattle.std.proofs.lemmas.Bool.Decides.{nat_tests}
use Rattle.shell_parse.specs.Reading.{Reading, Statements, Refused}
use Rattle.con_line.specs.State.{ConsoleState}
use Rattle.con_line.specs.Keys.{after_byte, byte_done}
use Rattle.con_line.specs.Effect.{Leaves}
use Rattle.con_line.specs.declared.console.ByteDone.{ByteDone}
use Rattle.con_line.specs.declared.console.ByteDone.TheVariants as done
use Rattle.con_line.proofs.Kept.{by_test}
use Rattle.con_line.proofs.Effects.{byte_leaves}
use Rattle.wind_machine.specs.State.{ShellState}
use Rattle.wind_machine.specs.Good.{HasItsLine}
use Rattle.wind_machine.specs.Shell.{at_prompt, prompted, begun_tree, is_nothing, shell_read}
use Rattle.wind_machine.specs.Events.{shell_after}
use Rattle.wind_machine.specs.declared.phase.Phase.{Phase}
use Rattle.wind_machine.specs.declared.phase.Phase.TheVariants as phases

-- another line after the finished ones
some_line : (finished line : List ℕ) → finished ++ (line ++ 10 ∷ []) ≢ []
some_line finished line empty =
    let none : length finished + length (line ++ 10 ∷ []) ≡ 0 = sym (length-append finished (line ++ 10 ∷ [])) ∙ ap length empty in
    omega (arith, none, length-append line (10 ∷ []))

-- a byte arrives: what it does to the finished lines and to the shell
answer_keeps : (d : ByteDone) (waits : Bool) (old new : ConsoleState) (shell : ShellState) → Leaves d old new → HasItsLine shell.phase old.finished → HasItsLine (shell_after d waits shell).phase new.finished
answer_keeps done.Abort waits old new shell leaves h = λ e. absurd (cc)
answer_keeps done.Line waits old new shell leaves h = λ _ empty. some_line old.finished old.edited (sym leaves ∙ empty)
answer_keeps done.Kept waits old new shell leaves h = λ e empty. h e (sym leaves ∙ empty)

pub byte_has_line : (c : ConsoleState) (waits : Bool) (shell : ShellState) (b : ℕ) → HasItsLine shell.phase c.finished → HasItsLine (shell_after (byte_done c b) waits shell).phase (after_byte c b).finished
byte_has_line c waits shell b h = answer_keeps (byte_done c b) waits c (after_byte c b) shell (byte_leaves c b) h

-- the shell writes its prompt
pub prompt_has_line : (finished : List ℕ) (shell : ShellState) → HasItsLine shell.phase finished → HasItsLine (prompted (not (length finished == 0)) shell).phase finished
prompt_has_line finished shell h =
    by_test
    (λ t. HasItsLine (if t then record shell { phase = phases.Read } else shell).phase finished)
    (not (length finished == 0))
    (λ e _ empty. let none : length finished ≡ 0 = ap length empty in grind (arith, nat_tests, e))
    (λ e. h)

-- a shell that has read a line does not read
pub read_phase : (r : Reading) → (shell_read r).phase ≢ phases.Read
read_phase (Refused column) = λ e. cc
read_phase (Statements stmts) = by_test (λ t. (if t then at_prompt else record { phase = phases.Eval; trees = map begun_tree stmts }).phase ≢ phases.Read) (is_nothing stmts) (λ _ e. cc) (λ _ e. cc)

-- a shell in any other phase needs no line
pub needs_none : (phase : Phase) (finished : List ℕ) → phase ≢ phases.Read → HasItsLine phase finished
needs_none phase finished other = λ e. absurd (other e)
