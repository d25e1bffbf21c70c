-- The rows of the calls on the interrupts of devices, and of the removal of a device. Slots are this project's own.
use Rattle.std.specs.Prelude.{ℕ, List, Bool, ◌&&◌, nat_lt, Option, None, Some, if◌then◌else◌}
use Rattle.wind_base.specs.Limits.{ok_word, most_slots}
use Rattle.wind_base.specs.declared.errno.Errno.{Errno}
use Rattle.wind_base.specs.declared.errno.Errno.TheVariants as errors
use Rattle.wind_outside.specs.Devices.{DeviceState}
use Rattle.board_bus.specs.Slots.{is_occupied, without_device}
use Rattle.isr_watch.specs.declared.watchdog.Routine.{Routine}
use Rattle.dev_irq.specs.declared.line.Line.{Line}
use Rattle.dev_irq.specs.State.{line_of, pending_of}
use Rattle.dev_irq.specs.Calls.{connect_refusal, connected, disconnect_refusal, disconnected, enabled, cleared}
use Rattle.kernel_world.specs.declared.reply.Reply.{Reply}
use Rattle.call_rows.specs.declared.irq_rows.LineChange.{LineChange}
use Rattle.call_rows.specs.declared.irq_rows.LineChange.TheVariants.{Connect, Disconnect, Enable}
use Rattle.kernel_world.specs.declared.reply.Reply.TheVariants.{Answer, Refusal}

-- the interrupt controller and the device slots after the effect of a call, and how its caller is answered
pub record IrqRow : Type 0 where
  pub irqs : List Line
  pub slots : List (Option DeviceState)
  pub reply : Reply

abbrev pub row_of : List Line → List (Option DeviceState) → Reply → IrqRow
row_of irqs slots r = record { irqs = irqs; slots = slots; reply = r }

-- there is a slot with this number, and it holds a device
abbrev pub is_device : List (Option DeviceState) → ℕ → Bool
is_device slots i = nat_lt i most_slots && is_occupied slots i

-- each call is refused if there is no such device, and then changes nothing
abbrev pub on_device : List Line → List (Option DeviceState) → ℕ → IrqRow → IrqRow
on_device irqs slots i r = if is_device slots i then r else row_of irqs slots (Refusal errors.ObjIdError)

abbrev pub reply_by : Option Errno → Reply
reply_by None = Answer ok_word
reply_by (Some e) = Refusal e

-- intConnect
abbrev pub connect_row : List Line → List (Option DeviceState) → ℕ → Routine → IrqRow
connect_row irqs slots i routine = on_device irqs slots i (row_of (connected irqs i routine) slots (reply_by (connect_refusal (line_of irqs i))))

-- intDisconnect
abbrev pub disconnect_row : List Line → List (Option DeviceState) → ℕ → ℕ → IrqRow
disconnect_row irqs slots i entry = on_device irqs slots i (row_of (disconnected irqs i entry) slots (reply_by (disconnect_refusal entry (line_of irqs i))))

-- intEnable and intDisable
abbrev pub enable_row : List Line → List (Option DeviceState) → ℕ → Bool → IrqRow
enable_row irqs slots i mark = on_device irqs slots i (row_of (enabled irqs i mark) slots (Answer ok_word))

-- a change of a device's line is one of these
abbrev pub change_row : List Line → List (Option DeviceState) → ℕ → LineChange → IrqRow
change_row irqs slots i (Connect routine) = connect_row irqs slots i routine
change_row irqs slots i (Disconnect entry) = disconnect_row irqs slots i entry
change_row irqs slots i (Enable mark) = enable_row irqs slots i mark

-- intPending
abbrev pub pending_row : List Line → List (Option DeviceState) → ℕ → IrqRow
pending_row irqs slots i = on_device irqs slots i (row_of irqs slots (Answer (pending_of irqs i)))

-- devRemove: the slot is empty, and its line is as at first
abbrev pub remove_row : List Line → List (Option DeviceState) → ℕ → IrqRow
remove_row irqs slots i = on_device irqs slots i (row_of (cleared irqs i) (without_device slots i) (Answer ok_word))
