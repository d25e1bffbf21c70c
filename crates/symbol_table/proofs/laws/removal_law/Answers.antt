use Rattle.symbol_table.proofs.Removing.{gone, stays, same}
use Rattle.symbol_table.proofs.laws.removal_law.Goals as goal

pub returns : goal.returns
returns c = record { gone = gone; stays = stays; same = same }
