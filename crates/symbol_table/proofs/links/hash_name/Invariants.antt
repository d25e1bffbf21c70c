use Rattle.std.proofs.Common.{◌≡◌, ◌<◌, drop}
use Rattle.symbol_table.specs.Chains.{hash_from}
use Rattle.symbol_table.proofs.links.hash_name.Given as goal

abbrev pub invariant-loop-byte : goal.invariant-loop-byte
invariant-loop-byte l = record {
  below : l.hash < 65536;
  rest : hash_from l.hash (drop l.byte-index l.name) ≡ hash_from 5381 l.name;
}
