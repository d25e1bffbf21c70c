-- What `lmw` and `stmw` do on the board's bus, register by register (Book I 3.3.5), and what a removed device leaves.
use Rattle.std.specs.Prelude.{◌≡◌, ◌≢◌, ℕ, ◌+◌, ◌-◌, ◌*◌, ◌%◌, ◌^◌, ◌<◌, ◌≤◌, true, false, List, Option, ◌⊎◌, Some, length, slice_index}
use Rattle.ppc_word.specs.declared.row.Row.TheVariants as row
use Rattle.ppc_word.specs.Rows.{row_of}
use Rattle.wind_base.specs.declared.regs.Regs.{Regs}
use Rattle.ppc_core.specs.Fields.{rt}
use Rattle.ppc_core.specs.Registers.{gpr, next}
use Rattle.ppc_core.specs.Storage.{offset}
use Rattle.ppc_core.specs.Outcomes.{Done}
use Rattle.ppc_core.specs.Instructions.{exec_of}
use Rattle.board_mem.specs.Memory.{has, word_at}
use Rattle.wind_outside.specs.Devices.{DeviceState}
use Rattle.board_bus.specs.BusState.{BusState}
use Rattle.board_bus.specs.Slots.{is_occupied, device_at, without_device, slot_number, slots_loaded, slots_stored}
use Rattle.board_bus.specs.Access.{board_meaning, faults_at}

-- EA is a multiple of 4, and the words from there on for the registers RT to 31 are in RAM
pub record AreInRam (r : Regs) (w : ℕ) (b : BusState) : Type 0 where
  pub aligned : offset r w % 4 ≡ 0
  pub there : has b.ram (offset r w) (4 * (32 - rt w)) ≡ true

-- register RT + k holds the word at EA + 4k; nothing else changes but the program counter
pub record HasLoaded (r s : Regs) (w : ℕ) (b : BusState) : Type 0 where
  pub words : (k : ℕ) → rt w + k < 32 → gpr s (rt w + k) ≡ word_at b.ram (offset r w + 4 * k)
  pub below : (j : ℕ) → j < rt w → gpr s j ≡ gpr r j
  pub others : s ≡ record (next r) { gpr = s.gpr }

-- the word at EA + 4k is register RS + k; no other byte changes, and no device
pub record HasStored (r : Regs) (w : ℕ) (b c : BusState) : Type 0 where
  pub words : (k : ℕ) → rt w + k < 32 → word_at c.ram (offset r w + 4 * k) ≡ gpr r (rt w + k)
  pub others : (a : ℕ) → (a < offset r w) ⊎ (offset r w + 4 * (32 - rt w) ≤ a) → slice_index c.ram a ≡ slice_index b.ram a
  pub size : length c.ram ≡ length b.ram
  pub slots : c.slots ≡ b.slots

-- if the words are in RAM, lmw loads them and stmw stores them; registers are 32 words
pub record MultipleLaw : Type 0 where
  pub load :
      (r : Regs) (w : ℕ) (b : BusState) → length r.gpr ≡ 32 → row_of w ≡ Some row.Lmw → AreInRam r w b →
      (s : Regs) × (exec_of board_meaning r w b ≡ Done s b) × HasLoaded r s w b
  pub store :
      (r : Regs) (w : ℕ) (b : BusState) → ((j : ℕ) → gpr r j < 2 ^ 32) → row_of w ≡ Some row.Stmw → AreInRam r w b →
      (c : BusState) × (exec_of board_meaning r w b ≡ Done (next r) c) × HasStored r w b c

-- slots from which a device was removed, and slots under loads and stores
pub record RemovalLaw : Type 0 where
  -- the slot is empty, and every other slot is as before
  pub empty : (slots : List (Option DeviceState)) (i : ℕ) → is_occupied (without_device slots i) i ≡ false
  pub others : (slots : List (Option DeviceState)) (i j : ℕ) → j ≢ i → device_at (without_device slots i) j ≡ device_at slots j
  -- an access outside RAM at an address of an empty slot faults
  pub faults : (b : BusState) (n at : ℕ) → has b.ram at n ≡ false → is_occupied b.slots (slot_number at) ≡ false → faults_at b n at ≡ true
  -- loads and stores fill no slot and empty none
  pub loading : (slots : List (Option DeviceState)) (n at i : ℕ) → is_occupied (slots_loaded slots n at) i ≡ is_occupied slots i
  pub storing : (slots : List (Option DeviceState)) (n at v i : ℕ) → is_occupied (slots_stored slots n at v) i ≡ is_occupied slots i
