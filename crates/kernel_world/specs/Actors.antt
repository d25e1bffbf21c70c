-- Who makes a kernel call, and the words that the caller hands in.
use Rattle.std.specs.Prelude.{ℕ, ◌+◌, ◌*◌, Bool, true, false, ◌==◌, List, [], ◌∷◌, Option, None, Some, unwrap_or, if◌then◌else◌}
use Rattle.std.specs.Option.{option_map}
use Rattle.wind_base.specs.declared.regs.Regs.{Regs}
use Rattle.id_table.specs.Idents.{shell_id}
use Rattle.board_mem.specs.Memory.{read}
use Rattle.wind_core.specs.State.{KernState, Lives, task_of}
use Rattle.wind_core.specs.Moves.{live_id}
use Rattle.kernel_world.specs.Objects.{IsReady}
use Rattle.kernel_world.specs.State.{WorldState}
use Rattle.kernel_world.specs.Starting.{no_regs}
use Rattle.kernel_world.specs.declared.actor.Actor.{Actor}
use Rattle.kernel_world.specs.declared.actor.Actor.TheVariants.{Task, Interrupt}

-- the caller is the interrupt level, not a task
abbrev pub is_interrupt : Actor → Bool
is_interrupt (Task who) = false
is_interrupt Interrupt = true

-- the caller is the shell's task
abbrev pub is_shell : Actor → Bool
is_shell (Task who) = who == shell_id
is_shell Interrupt = false

-- the task lives; the interrupt level is always there
abbrev pub Acts : KernState → Actor → Type 0
Acts k (Task who) = Lives k who
Acts k Interrupt = Unit {0}

-- a task that makes a call is ready
abbrev pub MayCall : KernState → Actor → Type 0
MayCall k (Task who) = IsReady k who
MayCall k Interrupt = Unit {0}

-- the task that an id in a call means: 0 is the caller, if the caller is a task
abbrev pub target : KernState → Actor → ℕ → Option ℕ
target k (Task who) id = if id == 0 then Some who else live_id k.tasks id
target k Interrupt id = live_id k.tasks id

-- the caller's registers, if there is such a caller
abbrev pub found_regs : KernState → Option Regs → Actor → Option Regs
found_regs k level (Task who) = option_map (λ t. t.regs) (task_of k.tasks who)
found_regs k level Interrupt = level

-- the caller's registers; no register has a value if there is no such caller
abbrev pub caller_regs : KernState → Option Regs → Actor → Regs
caller_regs k level a = unwrap_or (found_regs k level a) no_regs

-- the caller's registers r0 to r31
abbrev pub caller_words : WorldState → Actor → List ℕ
caller_words w a = (caller_regs w.kern w.watch.level a).gpr

-- the k-th argument word after those in registers: a word of RAM at 8(r1), 12(r1) and on; none if a byte of it is
-- outside RAM (System V ABI, PowerPC supplement, parameter passing)
abbrev pub stack_word : List ℕ → ℕ → ℕ → Option ℕ
stack_word ram pointer k = read 4 ram (pointer + (8 + 4 * k))

-- all of these, if none is missing
abbrev pub all_there : List (Option ℕ) → Option (List ℕ)
all_there [] = Some []
all_there (None ∷ os) = None
all_there (Some x ∷ os) = option_map (λ xs. x ∷ xs) (all_there os)
