-- How the caller of a kernel call goes on after its gate, and how it is answered.
use Rattle.std.specs.Prelude.{ℕ, slice_set, Option, None, Some}
use Rattle.std.specs.Option.{option_map}
use Rattle.wind_base.specs.Errno.{errno_number}
use Rattle.wind_base.specs.declared.regs.Regs.{Regs}
use Rattle.wind_base.specs.declared.gate.Gate.{Gate}
use Rattle.task_block.specs.declared.task.Task.{Task as TaskRecord}
use Rattle.wind_core.specs.State.{task_of}
use Rattle.wind_core.specs.Moves.{leave_gate, answer, set_errno}
use Rattle.isr_watch.specs.State.{WatchState}
use Rattle.kernel_world.specs.State.{WorldState}
use Rattle.kernel_world.specs.Allowed.{refusal_word}
use Rattle.kernel_world.specs.declared.actor.Actor.{Actor}
use Rattle.kernel_world.specs.declared.actor.Actor.TheVariants.{Task, Interrupt}
use Rattle.kernel_world.specs.declared.reply.Reply.{Reply}
use Rattle.kernel_world.specs.declared.reply.Reply.TheVariants.{Answer, Refusal, Later, Gone}

-- errnoGet and errnoSet: each task has its last error number, and the interrupt level has one
abbrev pub errno_in : Option TaskRecord → ℕ
errno_in None = 0
errno_in (Some t) = t.errno

abbrev pub errno_of : WorldState → Actor → ℕ
errno_of w (Task who) = errno_in (task_of w.kern.tasks who)
errno_of w Interrupt = w.int_errno

abbrev pub with_errno : WorldState → Actor → ℕ → WorldState
with_errno w (Task who) n = record w { kern = set_errno w.kern who n }
with_errno w Interrupt n = record w { int_errno = n }

-- the caller goes on after its gate: its program counter becomes its link register
abbrev pub past_gate : Regs → Regs
past_gate r = record r { pc = r.lr }

-- the watchdogs' state after f has changed the active routine's registers
abbrev pub level_by : (Regs → Regs) → WatchState → WatchState
level_by f s = record s { level = option_map f s.level }

abbrev pub at_level : WorldState → (Regs → Regs) → WorldState
at_level w f = record w { watch = level_by f w.watch }

abbrev pub left_gate : WorldState → Actor → WorldState
left_gate w (Task who) = record w { kern = leave_gate w.kern who }
left_gate w Interrupt = at_level w past_gate

-- the answer is in r3
abbrev pub in_r3 : ℕ → Regs → Regs
in_r3 value r = record r { gpr = slice_set r.gpr 3 value }

abbrev pub with_answer : WorldState → Actor → ℕ → WorldState
with_answer w (Task who) value = record w { kern = answer w.kern who value }
with_answer w Interrupt value = at_level w (in_r3 value)

-- the caller is answered; one that pends is answered later, and one that has ended isn't answered
abbrev pub replied : Gate → WorldState → Actor → Reply → WorldState
replied g w a (Answer value) = with_answer w a value
replied g w a (Refusal e) = with_answer (with_errno w a (errno_number e)) a (refusal_word g)
replied g w a Later = w
replied g w a Gone = w
