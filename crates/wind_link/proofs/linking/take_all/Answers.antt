use Rattle.wind_link.proofs.Placement.{needs_aligned}
use Rattle.wind_link.proofs.linking.take_all.Goals as goal

pub take_module-requires : goal.take_module-requires
take_module-requires c = needs_aligned c.index-list-i.result.module c.in-Ok-measure_module.needs c.in-Ok-measure_module.ensures
