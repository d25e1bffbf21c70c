use Rattle.std.proofs.Common.{◌≡◌, eqb, not, map}
use Rattle.std.specs.Prelude.{vec_capacity}
use Rattle.std.proofs.lemmas.List.Filters.{FiltersInPlace}
use Rattle.symbol_table.specs.Chains.{hashes_of}
use Rattle.symbol_table.proofs.chains.drop_group.Given as goal

abbrev pub invariant-loop-i : goal.invariant-loop-i
invariant-loop-i l = record {
  filtered : FiltersInPlace (λ s. not (eqb s.group l.group)) l.fn.list.items l.list.items l.kept l.i;
  capacity : vec_capacity l.list ≡ vec_capacity l.fn.list;
  hashed : l.hashes.items ≡ map hashes_of l.list.items;
  hashes_capacity : vec_capacity l.hashes ≡ vec_capacity l.fn.hashes;
}
