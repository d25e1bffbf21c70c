use Rattle.std.proofs.Common.{◌∙◌}
use Rattle.wind_core.proofs.Mending.{first_kept}
use Rattle.wind_core.proofs.kern.Kern.front_waiter.Goals as goal

pub returns-clause-first : goal.returns-clause-first
returns-clause-first c = c.first.ensures ∙ first_kept c.self.inside c.args.self.now c.args.place.now c.self.invariant.0 c.self.view_is
