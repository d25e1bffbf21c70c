use Rattle.symbol_table.proofs.Finding.{found, only, absent, newest-added}
use Rattle.symbol_table.proofs.laws.newest_law.Goals as goal

pub returns : goal.returns
returns c = record { found = found; only = only; absent = absent; added = newest-added }
