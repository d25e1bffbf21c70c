use Rattle.symbol_table.proofs.Chaining.{chain_exact}
use Rattle.symbol_table.proofs.laws.chains_law.Goals as goal

pub returns : goal.returns
returns c = record { exact = chain_exact }
