-- The board nests five levels deep.
use Rattle.std.proofs.Common.{◌≡◌, ℕ, zero, suc, ◌*◌, ◌/◌, ◌≤◌, Bool, true, false, List, length, Option, None, Some, refl, arith}
use Rattle.std.specs.Option.{option_map}
use Rattle.wind_base.specs.declared.regs.Regs.{Regs}
use Rattle.wind_outside.specs.Devices.{DeviceState}
use Rattle.wind_outside.specs.declared.device.DeviceKind.{DeviceKind}
use Rattle.wind_base.specs.Limits.{most_slots}
use Rattle.board_bus.specs.Slots.{device_at}
use Rattle.sem_plain.specs.declared.semaphore.Semaphore.{Semaphore}
use Rattle.inheritance.specs.declared.mutex.Mutex.{Mutex}
use Rattle.msg_queue.specs.State.{QueueState}
use Rattle.isr_watch.specs.declared.watchdog.Watchdog.{Watchdog}
use Rattle.dev_irq.specs.declared.line.Line.{Line}
use Rattle.board_mem.specs.Memory.{bytes_at}
use Rattle.mem_partition.specs.declared.block.Block.{Block}
use Rattle.symbol_table.specs.declared.symbol.Symbol.{Symbol}
use Rattle.module_loader.specs.declared.module.LoadedModule.{LoadedModule}
use Rattle.serde_json.specs.Data.{depth}
use Rattle.trace_state.specs.Memory.{Range, Ranges, block_data, closed, listed, range_data, ranges_of, ram_data, unit_bytes, with_unit, is_zero}
use Rattle.trace_state.specs.Modules.{device_data, devices_data, module_data, slot_data, slots_below, symbol_data}
use Rattle.trace_state.specs.Objects.{level_data, mutex_data, queue_data, semaphore_data, watchdog_data}
use Rattle.trace_state.proofs.Shallow.{AreWithin, both_within, items_within, maybe_within, member_within, object_within}

-- ---- objects
pub semaphore_within : (id : ℕ) (s : Semaphore) → depth (semaphore_data id s) ≤ 1
semaphore_within id s = object_within _ 0 (member_within _ _ _ _ (omega arith) (member_within _ _ _ _ (omega arith) (member_within _ _ _ _ (omega arith) (member_within _ _ _ _ (omega arith) (omega arith)))))

pub mutex_within : (id : ℕ) (m : Mutex) → depth (mutex_data id m) ≤ 1
mutex_within id m = object_within _ 0 (member_within _ _ _ _ (omega arith) (member_within _ _ _ _ (omega arith) (member_within _ _ _ _ (omega arith) (member_within _ _ _ _ (omega arith) (member_within _ _ _ _ (maybe_within 0 m.owner) (member_within _ _ _ _ (omega arith) (omega arith)))))))

pub queue_within : (id : ℕ) (q : QueueState) → depth (queue_data id q) ≤ 1
queue_within id q = object_within _ 0 (member_within _ _ _ _ (omega arith) (member_within _ _ _ _ (omega arith) (member_within _ _ _ _ (omega arith) (member_within _ _ _ _ (omega arith) (member_within _ _ _ _ (omega arith) (omega arith))))))

pub watchdog_within : (w : Watchdog) → depth (watchdog_data w) ≤ 1
watchdog_within w = object_within _ 0 (member_within _ _ _ _ (omega arith) (member_within _ _ _ _ (omega arith) (member_within _ _ _ _ (maybe_within 0 (option_map (λ t. t.due) w.timer)) (member_within _ _ _ _ (omega arith) (omega arith)))))

pub level_within : (level : Option Regs) (errno : ℕ) → depth (level_data level errno) ≤ 1
level_within level errno = object_within _ 0 (member_within _ _ _ _ (omega arith) (member_within _ _ _ _ (maybe_within 0 (option_map (λ r. r.pc) level)) (omega arith)))

-- ---- modules, symbols, devices
pub module_within : (id : ℕ) (m : LoadedModule) → depth (module_data id m) ≤ 1
module_within id m = object_within _ 0 (member_within _ _ _ _ (omega arith) (member_within _ _ _ _ (omega arith) (member_within _ _ _ _ (omega arith) (member_within _ _ _ _ (omega arith) (member_within _ _ _ _ (omega arith) (omega arith))))))

pub symbol_within : (s : Symbol) → depth (symbol_data s) ≤ 1
symbol_within s = object_within _ 0 (member_within _ _ _ _ (omega arith) (member_within _ _ _ _ (omega arith) (member_within _ _ _ _ (omega arith) (member_within _ _ _ _ (omega arith) (omega arith)))))

pub device_within : (slot : ℕ) (kind : DeviceKind) (pending : ℕ) → depth (device_data slot kind pending) ≤ 1
device_within slot kind pending = object_within _ 0 (member_within _ _ _ _ (omega arith) (member_within _ _ _ _ (omega arith) (member_within _ _ _ _ (omega arith) (omega arith))))

slot_within : (irqs : List Line) (slot : ℕ) (s : Option DeviceState) → AreWithin 1 (slot_data irqs slot s)
slot_within irqs slot None = tt
slot_within irqs slot (Some d) = (device_within slot d.kind _, tt)

slots_within : (irqs : List Line) (ss : List (Option DeviceState)) (n : ℕ) → AreWithin 1 (slots_below irqs ss n)
slots_within irqs ss zero = tt
slots_within irqs ss (suc n) = both_within 1 (slots_below irqs ss n) (slot_data irqs n (device_at ss n)) (slots_within irqs ss n) (slot_within irqs n (device_at ss n))

pub devices_within : (irqs : List Line) (ss : List (Option DeviceState)) → depth (devices_data irqs ss) ≤ 2
unfolding devices_data
devices_within irqs ss = items_within 1 (slots_below irqs ss most_slots) (slots_within irqs ss most_slots)

-- ---- memory
pub block_within : (b : Block) → depth (block_data b) ≤ 1
block_within b = object_within _ 0 (member_within _ _ _ _ (omega arith) (member_within _ _ _ _ (omega arith) (member_within _ _ _ _ (omega arith) (omega arith))))

pub range_within : (r : Range) → depth (range_data r) ≤ 1
range_within r = object_within _ 0 (member_within _ _ _ _ (omega arith) (member_within _ _ _ _ (omega arith) (member_within _ _ _ _ (omega arith) (omega arith))))

listed_within : (o : Option Range) → AreWithin 1 (listed o)
listed_within None = tt
listed_within (Some r) = (range_within r, tt)

closed_within : (r : Ranges) → AreWithin 1 r.ended → AreWithin 1 (closed r).ended
closed_within r h = both_within 1 r.ended (listed r.last) h (listed_within r.last)

unit_within : (zero_is : Bool) (r : Ranges) (start : ℕ) (unit : List ℕ) → is_zero unit ≡ zero_is → AreWithin 1 r.ended → AreWithin 1 (with_unit r start unit).ended
unit_within true r start unit e h = rw e (closed_within r h)
unit_within false r start unit e h = rw e h

ranges_within : (ram : List ℕ) (n : ℕ) → AreWithin 1 (ranges_of ram n).ended
ranges_within ram zero = tt
ranges_within ram (suc n) = unit_within _ (ranges_of ram n) (n * unit_bytes) (bytes_at ram (n * unit_bytes) unit_bytes) refl (ranges_within ram n)

pub ram_within : (ram : List ℕ) → depth (ram_data ram) ≤ 2
ram_within ram =
    let all = ranges_of ram (length ram / unit_bytes) in
    items_within 1 (closed all).ended (closed_within all (ranges_within ram (length ram / unit_bytes)))
