-- What follows from the machine's definitions alone.
use Rattle.std.specs.Prelude.{◌≡◌, ℕ, ◌+◌, List, Option, Some, None, IfSome, ◌⊎◌, ◌↔◌}
use Rattle.wind_base.specs.declared.board_kind.BoardKind.{BoardKind}
use Rattle.wind_base.specs.declared.profile.Profile.{Profile}
use Rattle.wind_base.specs.declared.profile.Profile.TheVariants.{One}
use Rattle.wind_outside.specs.Devices.{DeviceState}
use Rattle.live_loading.specs.Said.{FileSaid}
use Rattle.tick_file.specs.Schedule.{Timetable, timetable_of}
use Rattle.tick_file.specs.Laws.{IsEarly}
use Rattle.wind_core.specs.State.{Lives, task_of}
use Rattle.live_loading.specs.TaskSafetySafety.{safe_of}
use Rattle.live_loading.specs.KernelWorldState.{Choice, choice_of}
use Rattle.live_loading.specs.KernelWorldSettling.{HasExact}
use Rattle.live_loading.specs.KernelWorldActor.TheVariants.{Task as by_task}
use Rattle.wind_machine.specs.State.{State}
use Rattle.wind_machine.specs.Good.{Good, KeepsEffect}
use Rattle.wind_machine.specs.Instants.{IsInstant}
use Rattle.wind_machine.specs.Run.{Answers, after}
use Rattle.wind_machine.specs.Events.{next_event}
use Rattle.wind_machine.specs.Next.{next, ComesNext}
use Rattle.wind_machine.specs.Machine.{state_after, settled_state, machine_step, IsOver, stepping, opening}
use Rattle.wind_machine.specs.declared.next.Next.{Next}

-- exactly one value comes next, in every state
abbrev pub OrderLaw : Type 0
OrderLaw = (s : State) (n : Next) → ComesNext s n ↔ (n ≡ next s)

-- there is no further step, whatever the folder answers about a file, exactly if the run is over
abbrev pub OverLaw : Type 0
OverLaw = (said : FileSaid) (s : State) → (machine_step said s ≡ None) ↔ IsOver s

-- the opening state has the invariant
abbrev pub StartLaw : Type 0
StartLaw = (console : List ℕ) (schedule : Timetable) (slots : List (Option DeviceState)) (profile : Profile) (board : BoardKind)
    → Good (opening console schedule slots profile board)

-- every step keeps the invariant, whatever the folder answers about a file, if the next event comes before 2^64
abbrev pub StepLaw : Type 0
StepLaw = (said : FileSaid) (s t : State) → IfSome (next_event s) IsEarly → Good s → machine_step said s ≡ Some t → Good t

-- the effect of every step keeps the rest of the invariant, whatever the folder answers about a file
abbrev pub EffectLaw : Type 0
EffectLaw = (said : FileSaid) (s : State) → IfSome (next_event s) IsEarly → Good s
    → IfSome (state_after said s (next s)) KeepsEffect

-- settling priorities then gives the invariant
abbrev pub SettleLaw : Type 0
SettleLaw = (s : State) → KeepsEffect s → Good (settled_state s)

-- it changes nothing under profile 1, nor if priorities are exact already
abbrev pub IdleLaw : Type 0
IdleLaw = (s : State) → KeepsEffect s → (s.world.objects.mutexes.profile ≡ One) ⊎ HasExact s.world → settled_state s ≡ s

-- no step changes what was chosen at the start: the rule of inheritance, and the kind of board
abbrev pub ChoiceLaw : Type 0
ChoiceLaw = (said : FileSaid) (s t : State) → Good s → machine_step said s ≡ Some t → choice_of t.world ≡ choice_of s.world

-- every step is counted
abbrev pub CountLaw : Type 0
CountLaw = (said : FileSaid) (s t : State) → machine_step said s ≡ Some t → t.steps ≡ s.steps + 1

-- in a state with the invariant, whoever runs may run, owners inherit, and the others have their normal priority
abbrev pub InstantLaw : Type 0
InstantLaw = (s : State) → Good s → IsInstant s.world

-- a task that lives before a step and not after it was not safe from deletion, or it made the step itself
abbrev pub OnlyUnsafeGo : State → State → Type 0
OnlyUnsafeGo s t = (id : ℕ) → Lives s.world.kern id → (Lives t.world.kern id → ⊥)
    → (safe_of (task_of s.world.kern.tasks id) ≡ 0) ⊎ (stepping s ≡ Some (by_task id))

-- this holds for every step from a state with the invariant
abbrev pub SafetyLaw : Type 0
SafetyLaw = (said : FileSaid) (s t : State) → Good s → machine_step said s ≡ Some t → OnlyUnsafeGo s t

-- the state after k steps with this console file and these events under a rule of inheritance on a board of a kind,
-- given the folder's answers about the files that they need
abbrev pub at_step : Answers → List ℕ → Timetable → List (Option DeviceState) → Choice → ℕ → State
at_step said console schedule slots choice k = after said (opening console schedule slots choice.profile choice.board) k

-- what holds there: the invariant, what holds at each instant, and that no safe task ends in the step that follows
pub record HoldsAfter (said : Answers) (console : List ℕ) (schedule : Timetable) (slots : List (Option DeviceState)) (choice : Choice) (k : ℕ) : Type 0 where
  pub kept : Good (at_step said console schedule slots choice k)
  pub instant : IsInstant (at_step said console schedule slots choice k).world
  -- the rule of inheritance and the kind of board are those chosen at the start
  pub chosen : choice_of (at_step said console schedule slots choice k).world ≡ choice
  pub safety : OnlyUnsafeGo (at_step said console schedule slots choice k) (at_step said console schedule slots choice (k + 1))

-- it holds at every state of every run under both rules on both boards, whatever the console file, the tick file, the
-- module files and the devices are
abbrev pub RunLaw : Type 0
RunLaw = (said : Answers) (console ticks : List ℕ) (slots : List (Option DeviceState)) (choice : Choice) (k : ℕ)
    → HoldsAfter said console (timetable_of ticks) slots choice k
