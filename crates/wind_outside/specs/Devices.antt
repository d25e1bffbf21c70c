-- What a load and a store do to a device's list of words. The kinds are this project's own.
use Rattle.std.specs.Prelude.{ℕ, ◌+◌, ◌/◌, ◌%◌, ◌^◌, List, [], ◌∷◌, ◌++◌, Option, length, slice_index, slice_set, drop, map, ◌==◌, nat_lt, if◌then◌else◌}
use Rattle.std.specs.Option.{option_map}
use Rattle.wind_outside.specs.declared.device.DeviceKind.{DeviceKind}
use Rattle.wind_outside.specs.declared.device.DeviceKind.TheVariants.{Latch, ByteFifo, EventCounter}

-- the result of a load: a latch's word; a queue's first byte at 0 and its length at 4; a counter's word at 0; otherwise 0
abbrev pub load_answer : DeviceKind → List ℕ → ℕ → ℕ
load_answer Latch words off = if nat_lt off 16 then slice_index words (off / 4) else 0
load_answer ByteFifo words off = if off == 0 then slice_index words 0 else (if off == 4 then length words else 0)
load_answer EventCounter words off = if off == 0 then slice_index words 0 else 0

-- the words after a load: a queue loses its first byte at 0; otherwise they stay
abbrev pub after_load : DeviceKind → List ℕ → ℕ → List ℕ
after_load Latch words off = words
after_load ByteFifo words off = if off == 0 then drop 1 words else words
after_load EventCounter words off = words

-- the words after a store: a latch holds the word; a queue of fewer than 64 bytes gets its low byte at the end, at 0;
-- a counter rises by it at 0, and becomes 0 at 4
abbrev pub after_store : DeviceKind → List ℕ → ℕ → ℕ → List ℕ
after_store Latch words off v = if nat_lt off 16 then slice_set words (off / 4) v else words
after_store ByteFifo words off v = if off == 0 then (if nat_lt (length words) 64 then words ++ (v % 256) ∷ [] else words) else words
after_store EventCounter words off v = if off == 0 then slice_set words 0 ((slice_index words 0 + v) % 2 ^ 32) else (if off == 4 then slice_set words 0 0 else words)

-- a device as plain data
pub record DeviceState : Type 0 where
  pub kind : DeviceKind
  pub words : List ℕ

-- the slots as plain data, if a device is seen through these functions
abbrev pub slots_of : {D : Type 0} → (D → DeviceKind) → (D → List ℕ) → List (Option D) → List (Option DeviceState)
slots_of kind_of words_of slots = map (option_map (λ d. record { kind = kind_of d; words = words_of d })) slots
