use Rattle.std.proofs.Common.{◌≡◌, ◌*◌, true}
use Rattle.ppc_core.specs.Buses.{all_ram}
use Rattle.ppc_core.specs.Multiples.{words_loaded, with_words}
use Rattle.ppc_core.proofs.multiple.load_words.Given as goal

abbrev pub invariant-loop-k : goal.invariant-loop-k
invariant-loop-k g l = record {
  regs : l.regs ≡ with_words g.B.Bus.meaning l.fn.regs (g.B.Bus.held l.fn.bus) l.target l.at l.k;
  bus : g.B.Bus.held l.bus ≡ words_loaded g.B.Bus.meaning (g.B.Bus.held l.fn.bus) l.at l.k;
  ram : all_ram g.B.Bus.meaning (g.B.Bus.held l.bus) l.at (4 * l.count) ≡ true;
}
