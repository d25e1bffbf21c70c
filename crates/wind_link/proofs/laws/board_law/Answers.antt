use Rattle.wind_link.proofs.Boarding.{board_law}
use Rattle.wind_link.proofs.laws.board_law.Goals as goal

pub returns : goal.returns
returns c = board_law
