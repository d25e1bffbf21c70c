use Rattle.std.proofs.Common.{◌≡◌, ◌<◌, ◌^◌, drop}
use Rattle.std.specs.Str.Parse.{digits_value_after, digits_value}
use Rattle.debug_wire.proofs.number.value_of.Given as goal

-- the value of the digits so far fits 64 bits, and counting on from it gives the value
abbrev pub invariant-loop-byte : goal.invariant-loop-byte
invariant-loop-byte l = record {
  small : l.value < 2 ^ 64;
  rest : digits_value_after 16 l.value (drop l.byte-index l.digits) ≡ digits_value 16 l.digits;
}
