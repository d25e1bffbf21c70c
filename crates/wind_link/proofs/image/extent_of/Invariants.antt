use Rattle.std.proofs.Common.{◌≡◌, ◌^◌, drop}
use Rattle.wind_link.specs.Steps.{low_after, high_after}
use Rattle.wind_link.proofs.image.extent_of.Given as goal

abbrev pub invariant-loop-block : goal.invariant-loop-block
invariant-loop-block l = record {
  low : low_after l.extent.low (drop l.block-index l.blocks) ≡ low_after (2 ^ 32) l.blocks;
  end : high_after l.extent.end (drop l.block-index l.blocks) ≡ high_after 0 l.blocks;
}
