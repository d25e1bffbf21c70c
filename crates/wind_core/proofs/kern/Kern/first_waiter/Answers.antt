use Rattle.std.proofs.Common.{◌∙◌}
use Rattle.wind_core.proofs.Mending.{first_kept}
use Rattle.wind_core.proofs.kern.Kern.first_waiter.Goals as goal

pub returns : goal.returns
returns c = c.first.ensures ∙ first_kept c.self.inside c.args.self.now c.args.place c.self.invariant.0 c.self.view_is
