use Rattle.std.proofs.Common.{◌∙◌}
use Rattle.wind_link.specs.Steps.{loads}
use Rattle.wind_link.proofs.Joining.{rightly_placed, place_told, link_told}
use Rattle.wind_link.proofs.linking.link_all.Goals as goal

pub returns-in-Ok-link_placed-clause-done : goal.returns-in-Ok-link_placed-clause-done
returns-in-Ok-link_placed-clause-done c = rightly_placed (loads c.args.list.now) c.in-Ok.ensures.placed ∙ c.in-Ok-link_placed.ensures.done

pub returns-clause-refused : goal.returns-clause-refused
returns-clause-refused c = link_told (loads c.args.list.now) c.in-Err-link_placed.error c.in-Ok.ensures.placed c.in-Err-link_placed.ensures.refused

pub returns-in-Err-clause-refused : goal.returns-in-Err-clause-refused
returns-in-Err-clause-refused c = place_told (loads c.args.list.now) c.in-Err.error c.in-Err.ensures.wrong
