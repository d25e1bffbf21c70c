use Rattle.std.proofs.Common.{◌∙◌}
use Rattle.wind_link.specs.Values.{entry_of}
use Rattle.wind_link.proofs.Exporting.{after_symbol}
use Rattle.wind_link.proofs.values.Values.add_symbols.Goals as goal

pub loop-i-preserved : goal.loop-i-preserved
loop-i-preserved c = λ sections q.
    after_symbol sections c.args.mode c.args.symbols.now c.args.values.now c.loop-i.i c.index-symbols-i.result _ q (entry_of c.loop-i.self q) (entry_of c.add_symbol.new.self q)
    c.loop-i-test.true c.requires c.index-symbols-i.is (c.in_ok-add_symbol.ensures sections q)
    ∙ c.loop-i.invariant sections q
