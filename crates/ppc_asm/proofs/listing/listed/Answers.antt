use Rattle.std.proofs.Common.{[], true, false, refl, sym, ◌∙◌}
use Rattle.ppc_asm.proofs.Listed.{lines_listed}
use Rattle.ppc_asm.proofs.listing.listed.Goals as goal

pub returns-then-not-is_listed : goal.returns-then-not-is_listed
returns-then-not-is_listed c = lines_listed c.args.bytes.now [] c.args.i false (sym c.if-not-is_listed.true ∙ c.is_listed.ensures) refl

pub returns : goal.returns
returns c = lines_listed c.args.bytes.now c.content.result.now c.args.i true (sym c.if-not-is_listed.false ∙ c.is_listed.ensures) c.content.ensures
