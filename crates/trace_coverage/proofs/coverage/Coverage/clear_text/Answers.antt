use Rattle.std.proofs.Common.{refl}
use Rattle.trace_coverage.proofs.Texts.{held_put}
use Rattle.trace_coverage.proofs.coverage.Coverage.clear_text.Goals as goal

-- what was given has the text too
pub returns : goal.returns
returns c = λ given k holds. held_put c.args.self.now (record c.args.self.now { gone = c.clear.new.self }) given k holds refl c.clear.ensures.items
