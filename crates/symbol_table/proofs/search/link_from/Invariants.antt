use Rattle.std.proofs.Common.{◌≡◌, take, length}
use Rattle.std.specs.Prelude.{vec_capacity}
use Rattle.symbol_table.specs.Chains.{AreLinked, state_of}
use Rattle.symbol_table.proofs.search.link_from.Given as goal

abbrev pub invariant-loop-i : goal.invariant-loop-i
invariant-loop-i l = record {
  chained : AreLinked l.key (take l.i l.list) (state_of l.links);
  heads : length l.links.heads.items ≡ length l.fn.links.heads.items;
  capacity : vec_capacity l.links.before ≡ vec_capacity l.fn.links.before;
}
