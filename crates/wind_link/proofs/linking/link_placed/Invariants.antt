use Rattle.std.proofs.Common.{◌-◌, drop, map}
use Rattle.wind_link.specs.Steps.{loads}
use Rattle.wind_link.specs.Undefined.{pair_of}
use Rattle.wind_link.proofs.Joining.{IsLinking}
use Rattle.wind_link.proofs.linking.link_placed.Given as goal

abbrev pub invariant-loop-i : goal.invariant-loop-i
invariant-loop-i l = IsLinking l.extent.low (l.extent.end - l.extent.low) (drop l.i l.list) l.values l.image.items l.i (map pair_of l.names.items) (loads l.list)
