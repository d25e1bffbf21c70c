-- What a call does to the device slots and to their interrupts: only devRemove changes a device or a count.
use Rattle.std.specs.Prelude.{◌≡◌, ◌≢◌, ℕ, Bool, true, false, not, ◌&&◌, if◌then◌else◌, slice_index}
use Rattle.std.specs.Option.{option_map}
use Rattle.wind_base.specs.Limits.{ok_word}
use Rattle.wind_base.specs.declared.gate.Gate.{Gate}
use Rattle.wind_base.specs.declared.gate.Gate.TheVariants as gates
use Rattle.wind_core.specs.State.{task_of}
use Rattle.wind_core.specs.Moves.{past_gate, with_answer}
use Rattle.board_bus.specs.Slots.{is_occupied, device_at}
use Rattle.dev_irq.specs.State.{idle_line, line_of, pending_of}
use Rattle.call_rows.specs.IrqRows.{is_device}
use Rattle.call_rows.specs.KernelWorldState.{WorldState}
use Rattle.call_rows.specs.KernelWorldActors.{caller_words}
use Rattle.call_rows.specs.KernelWorldActor.{Actor}
use Rattle.call_rows.specs.KernelWorldActor.TheVariants.{Task}
use Rattle.kernel_calls.specs.Calls.{call}
use Rattle.kernel_calls.specs.Laws.{ElseStays}

-- ---- devRemove
-- a task calls devRemove with the number of slot i, which holds a device
pub record Removes (g : Gate) (w : WorldState) (a : Actor) (who i : ℕ) : Type 0 where
  pub gate : g ≡ gates.DevRemove
  pub caller : a ≡ Task who
  pub slot : slice_index (caller_words w (Task who)) 3 ≡ i
  pub device : is_device w.slots i ≡ true

-- a task has removed the device of slot i: the slot is empty, its line is as at first, and all else stays but the
-- task's answer
pub record OnlyRemoves (w v : WorldState) (who i : ℕ) : Type 0 where
  pub stays : ElseStays w v who
  pub open stays use *
  pub gone : is_occupied v.slots i ≡ false
  pub slots : (j : ℕ) → j ≢ i → device_at v.slots j ≡ device_at w.slots j
  pub line : line_of v.irqs i ≡ idle_line
  pub lines : (j : ℕ) → j ≢ i → line_of v.irqs j ≡ line_of w.irqs j
  pub ram : v.ram ≡ w.ram
  pub part : v.part ≡ w.part
  pub symbols : v.symbols ≡ w.symbols
  pub modules : v.modules ≡ w.modules
  pub output : v.output ≡ w.output
  -- the task is after its gate, with OK in r3
  pub own : task_of v.kern.tasks who ≡ option_map (λ t. with_answer ok_word (past_gate t)) (task_of w.kern.tasks who)
  pub ids : v.kern.next_id ≡ w.kern.next_id
  pub lent : v.kern.lent ≡ w.kern.lent

abbrev pub RemoveLaw : Type 0
RemoveLaw = (g : Gate) (w : WorldState) (a : Actor) (who i : ℕ) → Removes g w a who i → OnlyRemoves w (call g w a) who i

-- ---- every call
-- an empty slot is empty afterwards too
abbrev pub IsNoneBack : WorldState → WorldState → Type 0
IsNoneBack w v = (i : ℕ) → is_occupied w.slots i ≡ false → is_occupied v.slots i ≡ false

-- no call puts a device back
abbrev pub NoneBackLaw : Type 0
NoneBackLaw = (g : Gate) (w : WorldState) (a : Actor) → IsNoneBack w (call g w a)

-- slot i holds a device before, and none after
abbrev pub is_removed : WorldState → WorldState → ℕ → Bool
is_removed w v i = is_occupied w.slots i && not (is_occupied v.slots i)

-- from one world to another by a call, slot i: only devRemove removes its device; no call changes the device's state;
-- the count of pending interrupts stays, and becomes 0 at a removal
pub record KeepsSlot (g : Gate) (w v : WorldState) (a : Actor) (i : ℕ) : Type 0 where
  pub removed : is_removed w v i ≡ true → (who : ℕ) × Removes g w a who i
  pub device : is_removed w v i ≡ false → device_at v.slots i ≡ device_at w.slots i
  pub count : pending_of v.irqs i ≡ (if is_removed w v i then 0 else pending_of w.irqs i)

abbrev pub SlotLaw : Type 0
SlotLaw = (g : Gate) (w : WorldState) (a : Actor) (i : ℕ) → KeepsSlot g w (call g w a) a i
