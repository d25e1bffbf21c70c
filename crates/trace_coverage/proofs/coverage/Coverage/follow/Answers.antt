use Rattle.std.proofs.Common.{ap, ◌++◌, ◌∙◌}
use Rattle.trace_coverage.specs.Text.{texts_of_gone}
use Rattle.trace_coverage.proofs.Texts.{held_table, ok_leads}
use Rattle.trace_coverage.proofs.coverage.Coverage.follow.Goals as goal

pub returns : goal.returns
returns c = ok_leads c.add_new.result _ _ (λ last given k holds. held_table _ _ given k holds c.args.modules.now.rows _ (c.in_ok-add_gone.ensures ∙ ap (λ ms. c.args.self.now.gone.items ++ texts_of_gone c.args.modules.now.rows ms) c.deref.ensures.value) c.drop_gone.ensures last) c.add_new.ensures
