use Rattle.ppc_core.proofs.RamRanges.{word_in_ram}
use Rattle.ppc_core.proofs.multiple.load_words.Goals as goal

pub unreachable-requires : goal.unreachable-requires
unreachable-requires g c =
    let reached = word_in_ram g.B.Bus.meaning g.met.B.Bus.lawful (g.B.Bus.held c.loop-k.bus) c.args.at c.loop-k.k c.args.count c.loop-k.invariant.ram c.loop-k-test.true in
    let not_reached = c.in_default.ensures.0 in cc
