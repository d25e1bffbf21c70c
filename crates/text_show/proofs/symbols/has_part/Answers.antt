use Rattle.std.proofs.Common.{sym, ◌∙◌}
use Rattle.text_show.proofs.Shown.{prefix_has}
use Rattle.text_show.proofs.symbols.has_part.Goals as goal

pub returns : goal.returns
returns c = prefix_has c.args.part.now c.loop-rest.rest.now (sym c.loop-rest-test.false ∙ c.starts_with.ensures.value) ∙ c.loop-rest.invariant
