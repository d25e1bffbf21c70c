-- What is read of a state before the next step.
use Rattle.std.specs.Prelude.{ℕ, ◌+◌, ◌||◌, not, Bool, true, false, if◌then◌else◌, List, [], length, take, Option, None, Some}
use Rattle.std.specs.List.{list_any}
use Rattle.wind_base.specs.Boards.{board_rules}
use Rattle.wind_base.specs.Gates.{gate_at}
use Rattle.wind_base.specs.declared.gate.Gate.{Gate}
use Rattle.con_line.specs.State.{opening_console}
use Rattle.con_line.specs.Keys.{byte_done}
use Rattle.con_line.specs.declared.console.ByteDone.{ByteDone}
use Rattle.con_line.specs.declared.console.ByteDone.TheVariants as done
use Rattle.tick_file.specs.declared.event.Event.TheVariants.{Rx}
use Rattle.kernel_world.specs.State.{WorldState}
use Rattle.kernel_world.specs.Actors.{is_shell}
use Rattle.kernel_world.specs.CallWords.{call_by}
use Rattle.kernel_world.specs.declared.actor.Actor.{Actor}
use Rattle.kernel_world.specs.declared.call.Call.{Call}
use Rattle.wind_machine.specs.State.{State}
use Rattle.board_trace.specs.Causes.{target_of, word_there}
use Rattle.board_trace.specs.Mutexes.{mutex_named, owner_in}
use Rattle.wind_machine.specs.Feed.{chunk, brought}
use Rattle.wind_machine.specs.Next.{next}
use Rattle.wind_machine.specs.Machine.{actor_of}
use Rattle.wind_machine.specs.Processor.{regs_of}
use Rattle.wind_machine.specs.declared.next.Next.{Next}
use Rattle.wind_machine.specs.declared.next.Next.TheVariants.{Come, Arrive}
use Rattle.wind_machine.specs.declared.phase.Phase.{Phase}
use Rattle.wind_machine.specs.declared.phase.Phase.TheVariants as phases
use Rattle.board_trace.specs.declared.moment.BeforeStep.{BeforeStep}

-- the shell's task makes instructions and calls only during a call of the shell
abbrev pub is_calling : Phase → Bool
is_calling phases.Call = true
is_calling p = false

-- who makes instructions and calls: any task or routine, but the shell's task only during a call of the shell
abbrev pub is_on_processor : Phase → Actor → Bool
is_on_processor p who = not (is_shell who) || is_calling p

-- the address at which it is
abbrev pub counter_of : Phase → WorldState → Actor → Option ℕ
counter_of p w who = if is_on_processor p who then Some (regs_of w who).pc else None

abbrev pub counter_at : Phase → WorldState → Option Actor → Option ℕ
counter_at p w None = None
counter_at p w (Some who) = counter_of p w who

-- the gate there
abbrev pub gate_there : WorldState → Option ℕ → Option Gate
gate_there w None = None
gate_there w (Some at) = gate_at (board_rules w.board).gates_start at

-- the call at the gate
abbrev pub call_there : WorldState → Option Actor → Option Gate → Option Call
call_there w (Some a) (Some g) = call_by g w a
call_there w None g = None
call_there w (Some a) None = None

-- the owner of the mutex that a call names
abbrev pub owner_at : WorldState → Option ℕ → Option ℕ
owner_at w None = None
owner_at w (Some id) = owner_in w id

abbrev pub owner_named : WorldState → Option Call → Option ℕ
owner_named w c = owner_at w (mutex_named c)

-- the bytes that arrive in a step, of those that are left
abbrev pub arriving : Next → List ℕ → List ℕ
arriving Arrive left = chunk left
arriving (Come (Rx n)) left = take (brought n) left
arriving n left = []

-- a byte did this: it aborted the shell
abbrev pub has_aborted : ByteDone → Bool
has_aborted done.Abort = true
has_aborted done.Line = false
has_aborted done.Kept = false

-- the byte is the interrupt key's: it aborts the shell, as at any console, so at the opening one
abbrev pub is_interrupt_byte : ℕ → Bool
is_interrupt_byte b = has_aborted (byte_done opening_console b)

-- one of the bytes that arrive is the interrupt key's
abbrev pub has_interrupt_key : Next → List ℕ → Bool
has_interrupt_key n left = list_any is_interrupt_byte (arriving n left)

-- the same for what makes the next step of a state
abbrev pub at_of : State → Option ℕ
at_of s = counter_at s.shell.phase s.world (actor_of (next s))

abbrev pub gate_of : State → Option Gate
gate_of s = gate_there s.world (at_of s)

abbrev pub call_of : State → Option Call
call_of s = call_there s.world (actor_of (next s)) (gate_of s)

abbrev pub word_of : State → Option ℕ
word_of s = word_there s.world (at_of s) (gate_of s)

-- what is read of a state before the next step
abbrev pub before_step : State → BeforeStep
before_step s = record {
  next = next s;
  actor = actor_of (next s);
  at = at_of s;
  gate = gate_of s;
  call = call_of s;
  word = word_of s;
  target = target_of s.world (actor_of (next s)) (word_of s);
  owner = owner_named s.world (call_of s);
  time = s.time;
  step = s.steps + 1;
  phase = s.shell.phase;
  left = length s.left;
  interrupt_key = has_interrupt_key (next s) s.left;
}
