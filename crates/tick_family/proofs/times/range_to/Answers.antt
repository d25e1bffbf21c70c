use Rattle.std.proofs.Common.{sym, subst}
use Rattle.tick_family.specs.Inside.{IsSmall}
use Rattle.tick_family.proofs.EntryLemmas.{word_small}
use Rattle.tick_family.proofs.times.range_to.Goals as goal

pub range_in-requires : goal.range_in-requires
range_in-requires c = subst IsSmall (sym c.number-last.ensures) (word_small c.before_byte.result.now)
