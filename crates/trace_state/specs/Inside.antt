-- The ranges of RAM under way, as the code holds them.
use Rattle.std.specs.Prelude.{◌≡◌, ℕ, ◌≤◌, length, Option, None, Some}
use Rattle.sha2.specs.Hashers.{Holds256}
use Rattle.trace_state.specs.Held.{items_in}
use Rattle.trace_state.specs.Memory.{Range as RangeState, Ranges}
use Rattle.trace_state.specs.declared.memory.RamRanges.{RamRanges}
use Rattle.trace_state.specs.declared.memory.Range.{Range}

-- a range with its bytes, of which there are at most as many as its end's address says
pub record IsRange (at : ℕ) (held : Range) (r : RangeState) : Type 0 where
  pub start : held.start ≡ r.start
  pub count : held.bytes ≡ length r.bytes
  pub few : length r.bytes ≤ at
  pub hasher : Holds256 held.hasher r.bytes

-- the range that ends at an address, if any
abbrev pub HoldsLast : ℕ → Option Range → Option RangeState → Type 0
HoldsLast at None None = Unit {0}
HoldsLast at (Some held) (Some r) = IsRange at held r
HoldsLast at None (Some r) = ⊥
HoldsLast at (Some held) None = ⊥

-- the ranges up to an address
pub record HoldsRanges (at : ℕ) (held : RamRanges) (r : Ranges) : Type 0 where
  pub ended : items_in held.ended ≡ r.ended
  pub last : HoldsLast at held.last r.last
