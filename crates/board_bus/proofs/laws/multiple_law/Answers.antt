use Rattle.board_bus.proofs.Multiple.{load-multiple, store-multiple}
use Rattle.board_bus.proofs.laws.multiple_law.Goals as goal

pub returns : goal.returns
returns c = record { load = load-multiple; store = store-multiple }
