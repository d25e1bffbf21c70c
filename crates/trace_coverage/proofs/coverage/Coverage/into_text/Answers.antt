use Rattle.std.proofs.Common.{ap, ◌++◌, ◌∙◌}
use Rattle.trace_coverage.specs.Text.{modules_text}
use Rattle.trace_coverage.proofs.Texts.{held_text}
use Rattle.trace_coverage.proofs.coverage.Coverage.into_text.Goals as goal

pub returns : goal.returns
returns c = λ given k holds. held_text c.args.self c.args.self given k holds _ (c.in_ok-add_modules.ensures ∙ ap (λ ms. c.args.self.gone.items ++ modules_text ms) c.deref.ensures.value)
