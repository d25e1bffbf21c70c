use Rattle.std.proofs.Common.{◌≡◌, ◌*◌, true}
use Rattle.ppc_core.specs.Buses.{all_ram}
use Rattle.ppc_core.specs.Multiples.{words_stored}
use Rattle.ppc_core.proofs.multiple.store_words.Given as goal

abbrev pub invariant-loop-k : goal.invariant-loop-k
invariant-loop-k g l = record {
  bus : g.B.Bus.held l.bus ≡ words_stored g.B.Bus.meaning l.regs (g.B.Bus.held l.fn.bus) l.source l.at l.k;
  ram : all_ram g.B.Bus.meaning (g.B.Bus.held l.bus) l.at (4 * l.count) ≡ true;
}
