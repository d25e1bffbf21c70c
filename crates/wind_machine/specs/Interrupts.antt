-- The interrupts of devices over steps and runs, and what a removed device leaves.
use Rattle.std.specs.Prelude.{◌≡◌, ℕ, zero, suc, ◌+◌, ◌≤◌, ◌<◌, Bool, true, false, not, ◌==◌, ◌&&◌, nat_lt, if◌then◌else◌, List, Option, Some, slice_index}
use Rattle.wind_base.specs.Limits.{greatest_word}
use Rattle.wind_base.specs.declared.gate.Gate.TheVariants as gates
use Rattle.wind_base.specs.declared.board_kind.BoardKind.{BoardKind}
use Rattle.wind_base.specs.declared.profile.Profile.{Profile}
use Rattle.wind_outside.specs.Devices.{DeviceState}
use Rattle.tick_file.specs.Schedule.{Timetable, timetable_of}
use Rattle.tick_file.specs.declared.event.Event.{Event}
use Rattle.tick_file.specs.declared.event.Event.TheVariants.{Irq}
use Rattle.board_mem.specs.Memory.{has}
use Rattle.board_bus.specs.Slots.{is_occupied, slot_number}
use Rattle.board_bus.specs.Access.{faults_at}
use Rattle.dev_irq.specs.State.{pending_of, IsIrqs}
use Rattle.live_loading.specs.CallRowsIrqRows.{is_device}
use Rattle.live_loading.specs.KernelCallsRemoving.{OnlyRemoves}
use Rattle.live_loading.specs.KernelWorldState.{WorldState}
use Rattle.live_loading.specs.KernelWorldActors.{caller_words}
use Rattle.live_loading.specs.KernelWorldActor.TheVariants.{Task as by_task}
use Rattle.live_loading.specs.Said.{FileSaid}
use Rattle.wind_machine.specs.State.{State}
use Rattle.wind_machine.specs.Part.{part_of}
use Rattle.wind_machine.specs.Processor.{bus_of, gate_under, without_own}
use Rattle.wind_machine.specs.ActorSteps.{IsOnProcessor, at_step_start, stepped}
use Rattle.wind_machine.specs.Next.{next, due_delivery}
use Rattle.wind_machine.specs.Machine.{machine_step, settled_state, opening}
use Rattle.wind_machine.specs.Run.{Answers, after}
use Rattle.wind_machine.specs.declared.next.Next.{Next}
use Rattle.wind_machine.specs.declared.next.Next.TheVariants.{Deliver, Come, Act}

-- ---- one step
-- how many interrupts of slot i are pending
abbrev pub pending : State → ℕ → ℕ
pending s i = pending_of s.world.irqs i

-- an event raises an interrupt of slot i: it is one of that slot, which holds a device, and the count isn't at its
-- greatest
abbrev pub raises : State → ℕ → Event → Bool
raises s i (Irq j) = (j == i) && (is_device s.world.slots i && nat_lt (pending s i) greatest_word)
raises s i e = false

-- how many interrupts of slot i the step raises
abbrev pub raised_by : State → ℕ → Next → ℕ
raised_by s i (Come e) = if raises s i e then 1 else 0
raised_by s i n = 0

-- how many it delivers
abbrev pub delivered_by : ℕ → Next → ℕ
delivered_by i (Deliver j) = if j == i then 1 else 0
delivered_by i n = 0

-- the device of slot i is removed: the slot holds one before the step and none after it
abbrev pub is_removed : State → State → ℕ → Bool
is_removed s t i = is_occupied s.world.slots i && not (is_occupied t.world.slots i)

-- what comes next is a task's call of devRemove with the number of slot i, which holds a device
pub record IsRemoval (s : State) (n : Next) (who i : ℕ) : Type 0 where
  pub acts : n ≡ Act who
  pub calls : IsOnProcessor s.shell.phase (by_task who)
  pub gate : gate_under s.world (by_task who) ≡ Some gates.DevRemove
  pub slot : slice_index (caller_words s.world (by_task who)) 3 ≡ i
  pub device : is_device s.world.slots i ≡ true

-- what a step does to slot i and its interrupts
pub record StepsSlot (s t : State) (i : ℕ) : Type 0 where
  -- the count changes exactly by what is raised and what is delivered, and becomes 0 at a removal
  pub counts : pending t i + delivered_by i (next s) ≡ (if is_removed s t i then 0 else pending s i + raised_by s i (next s))
  -- an empty slot stays empty
  pub gone : is_occupied s.world.slots i ≡ false → is_occupied t.world.slots i ≡ false
  -- only devRemove removes a device
  pub removed : is_removed s t i ≡ true → (who : ℕ) × IsRemoval s (next s) who i

-- this holds for every step from a state with a valid controller, whatever the folder answers about a file
abbrev pub SlotLaw : Type 0
SlotLaw = (said : FileSaid) (s t : State) (i : ℕ) → IsIrqs s.world.irqs → machine_step said s ≡ Some t → StepsSlot s t i

-- the task's call leaves a world in which the device of slot i is removed and nothing else changed but the task's answer;
-- the rest is what each step of a task does: reservations and the output are dropped before it, the task's own
-- reservation after it, the task is noted as the last that ran, the step is counted and priorities are settled
pub record OnlyRemovesIn (s t : State) (who i : ℕ) : Type 0 where
  pub left : WorldState
  pub only : OnlyRemoves (at_step_start s.world who) left who i
  pub step : t ≡ settled_state (stepped s who (part_of s.shell (without_own left (by_task who))))

-- a removal changes nothing else
abbrev pub RemovalLaw : Type 0
RemovalLaw = (said : FileSaid) (s t : State) (who i : ℕ) → IsRemoval s (next s) who i → machine_step said s ≡ Some t → OnlyRemovesIn s t who i

-- the controller is valid in the opening state, and after every step from a state in which it is
abbrev pub LinesOpenLaw : Type 0
LinesOpenLaw = (console : List ℕ) (schedule : Timetable) (slots : List (Option DeviceState)) (profile : Profile) (board : BoardKind)
    → IsIrqs (opening console schedule slots profile board).world.irqs

abbrev pub LinesLaw : Type 0
LinesLaw = (said : FileSaid) (s t : State) → IsIrqs s.world.irqs → machine_step said s ≡ Some t → IsIrqs t.world.irqs

-- ---- a run
-- how many interrupts of slot i the first k steps raise, and how many they deliver
abbrev pub raised_in : Answers → State → ℕ → ℕ → ℕ
raised_in said s i zero = 0
raised_in said s i (suc k) = raised_in said s i k + raised_by (after said s k) i (next (after said s k))

abbrev pub delivered_in : Answers → State → ℕ → ℕ → ℕ
delivered_in said s i zero = 0
delivered_in said s i (suc k) = delivered_in said s i k + delivered_by i (next (after said s k))

-- none of the first k steps removes the device of slot i
abbrev pub NeverRemoved : Answers → State → ℕ → ℕ → Type 0
NeverRemoved said s i k = (j : ℕ) → j < k → is_removed (after said s j) (after said s (j + 1)) i ≡ false

-- a slot is empty: no interrupt of it is due, and an access at its addresses, outside RAM, faults
pub record IsEmptySlot (s : State) (i : ℕ) : Type 0 where
  pub empty : is_occupied s.world.slots i ≡ false
  pub silent : due_delivery s ≡ Some i → ⊥
  pub faults : (n at : ℕ) → slot_number at ≡ i → has s.world.ram at n ≡ false → faults_at (bus_of s.world) n at ≡ true

-- what holds of slot i after the first k steps
pub record HoldsOfSlot (said : Answers) (s : State) (i k : ℕ) : Type 0 where
  -- each interrupt is delivered at most once; without a removal none is lost
  pub once : delivered_in said s i k + pending (after said s k) i ≤ raised_in said s i k
  pub all : NeverRemoved said s i k → delivered_in said s i k + pending (after said s k) i ≡ raised_in said s i k
  -- a slot that was empty before is empty now
  pub gone : (j : ℕ) → j ≤ k → is_occupied (after said s j).world.slots i ≡ false → IsEmptySlot (after said s k) i

-- this holds in every run, under each rule of inheritance and on each board, whatever the console file, the tick file,
-- the module files and the devices are
abbrev pub InterruptLaw : Type 0
InterruptLaw = (said : Answers) (console ticks : List ℕ) (slots : List (Option DeviceState)) (profile : Profile) (board : BoardKind) (i k : ℕ)
    → HoldsOfSlot said (opening console (timetable_of ticks) slots profile board) i k
