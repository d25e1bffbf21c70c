-- Steps that need no file and write nothing.
use Rattle.std.specs.Prelude.{◌≡◌, ℕ, zero, suc, ◌+◌, ◌<◌, ◌≤◌, [], None, Option, Some, IsSome, true, if◌then◌else◌}
use Rattle.std.specs.Option.{option_map}
use Rattle.live_loading.specs.KernelWorldState.{WorldState}
use Rattle.live_loading.specs.KernelWorldActors.{is_shell}
use Rattle.live_loading.specs.KernelWorldActor.{Actor}
use Rattle.live_loading.specs.KernelWorldActor.TheVariants.{Task as by_task, Interrupt}
use Rattle.wind_machine.specs.State.{State}
use Rattle.wind_machine.specs.Next.{is_active}
use Rattle.wind_machine.specs.Processor.{gate_under}
use Rattle.wind_machine.specs.Machine.{file_asked, machine_step, stepping, Steps}
use Rattle.wind_machine.specs.Run.{Answers, after, text}
use Rattle.wind_machine.specs.declared.phase.Phase.TheVariants as phases

-- the active interrupt routine, else the task that made the last step of a task
abbrev pub last_actor : WorldState → Option Actor
last_actor w = if is_active w then Some Interrupt else option_map (λ who. by_task who) w.kern.last

-- the next step is an instruction of this task or routine: it is at no gate, and the shell's task is in a call
pub record IsInstructionOf (who : Actor) (s : State) : Type 0 where
  pub comes : stepping s ≡ Some who
  pub in_call : is_shell who ≡ true → s.shell.phase ≡ phases.Call
  pub no_gate : gate_under s.world who ≡ None

-- one step leads from one state to the next; it writes nothing and takes no event. It is an instruction of the task or
-- routine that made the last one, and would go on; the task that ran last is the same after it
pub record IsSilentStep (s t : State) : Type 0 where
  pub who : Actor
  pub last : last_actor s.world ≡ Some who
  pub instruction : IsInstructionOf who s
  pub goes_on : last_actor t.world ≡ Some who
  pub last_stays : t.world.kern.last ≡ s.world.kern.last
  pub steps : Steps s t
  pub silent : t.world.output ≡ []
  pub uneventful : t.schedule ≡ s.schedule

-- k such steps lead from a state to another
abbrev pub SilentSteps : ℕ → State → State → Type 0
SilentSteps zero s t = t ≡ s
SilentSteps (suc k) s t = (u : State) × SilentSteps k s u × IsSilentStep u t

-- after its first i steps, a run from s goes on by k silent steps, whatever the folder answers about files: it comes
-- to t, has written nothing more, and has needed no file meanwhile
pub record GoesOn (said : Answers) (s : State) (i k : ℕ) (u t : State) : Type 0 where
  pub state : t ≡ after said s (i + k)
  pub text_is : text said s (i + k) ≡ text said s i
  pub counted : t.steps ≡ u.steps + k
  pub uneventful : t.schedule ≡ u.schedule
  pub made : (j : ℕ) → i ≤ j → j < i + k → IsSome (machine_step (said j) (after said s j))
  pub unasked : (j : ℕ) → i ≤ j → j < i + k → file_asked (after said s j) ≡ None

-- silent steps from a state of a run are steps of that run
abbrev pub SilentLaw : Type 0
SilentLaw = (said : Answers) (s u t : State) (i k : ℕ) → u ≡ after said s i → SilentSteps k u t → GoesOn said s i k u t
