use Rattle.std.proofs.Common.{◌≡◌, drop}
use Rattle.module_image.specs.Opening.{opening_blocks}
use Rattle.wind_link.specs.Placing.{wrong_place, taken_by}
use Rattle.wind_link.specs.Steps.{loads}
use Rattle.wind_link.proofs.linking.take_all.Given as goal

abbrev pub invariant-loop-i : goal.invariant-loop-i
invariant-loop-i l = record {
  places : wrong_place l.i l.taken.items (loads (drop l.i l.list)) ≡ wrong_place 0 opening_blocks (loads l.list);
  taken : taken_by l.taken.items (loads (drop l.i l.list)) ≡ taken_by opening_blocks (loads l.list);
}
