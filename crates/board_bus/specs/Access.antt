-- What an access of n bytes at an address does: RAM by its bytes, a device by whole words at multiples of 4, otherwise a fault.
use Rattle.std.specs.Prelude.{ℕ, ◌%◌, Bool, not, ◌&&◌, ◌==◌, if◌then◌else◌, nat_lt, Option, None, is_some, unwrap_or, length}
use Rattle.board_mem.specs.Memory.{has, number_at, with_number, read}
use Rattle.ppc_core.specs.Buses.{Meaning}
use Rattle.board_bus.specs.BusState.{BusState}
use Rattle.board_bus.specs.Slots.{slot_offset, reached, answer_of, slots_loaded, slots_stored}

-- an access faults if a byte of it is outside RAM and it reaches no device
abbrev pub faults_at : BusState → ℕ → ℕ → Bool
faults_at b n at = not (has b.ram at n) && not (is_some (reached b.slots n at))

-- the result of a load
abbrev pub answer_at : BusState → ℕ → ℕ → ℕ
answer_at b n at =
    if has b.ram at n then number_at n b.ram at
    else unwrap_or (answer_of (reached b.slots n at) (slot_offset at)) 0

-- the bus after a load: only the device that it reaches can change
abbrev pub loaded_at : BusState → ℕ → ℕ → BusState
loaded_at b n at =
    if has b.ram at n then b else record b { slots = slots_loaded b.slots n at }

-- the bus after a store: the bytes in RAM change, or only the device that it reaches
abbrev pub stored_at : BusState → ℕ → ℕ → ℕ → BusState
stored_at b n at v =
    if has b.ram at n then record b { ram = with_number n b.ram at v }
    else record b { slots = slots_stored b.slots n at v }

-- the meaning of the board's bus
abbrev pub board_meaning : Meaning BusState
board_meaning =
    record {
      faults = faults_at;
      answer = answer_at;
      loaded = loaded_at;
      stored = stored_at;
      ram = λ b a. nat_lt a (length b.ram);
    }

-- the word of an instruction: a word in RAM at a multiple of 4
abbrev pub fetched : BusState → ℕ → Option ℕ
fetched b at = if at % 4 == 0 then read 4 b.ram at else None
