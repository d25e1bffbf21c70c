use Rattle.live_loading.proofs.Going.{load_law}
use Rattle.live_loading.proofs.Alone.{alone_law}
use Rattle.live_loading.proofs.laws.loading_law.Goals as goal

pub returns-clause-kept : goal.returns-clause-kept
returns-clause-kept c = load_law

pub returns-clause-alone : goal.returns-clause-alone
returns-clause-alone c = alone_law
