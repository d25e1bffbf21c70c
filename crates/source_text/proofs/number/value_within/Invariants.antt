use Rattle.std.proofs.Common.{◌≡◌, ◌≤◌, drop}
use Rattle.std.specs.Str.Parse.{digits_value_after, digits_value}
use Rattle.source_text.proofs.number.value_within.Given as goal

-- the value of the digits so far fits 32 bits, and counting on from it gives the value
abbrev pub invariant-loop-byte : goal.invariant-loop-byte
invariant-loop-byte l = record {
  small : l.value ≤ 0xffffffff;
  rest : digits_value_after l.radix l.value (drop l.byte-index l.digits) ≡ digits_value l.radix l.digits;
}
