use Rattle.wind_base.proofs.Tables.{names_apart, numbers_apart}
use Rattle.wind_base.proofs.Boarding.{boards_alike}
use Rattle.wind_base.proofs.Gating.{gates_stand}
use Rattle.wind_base.proofs.laws.tables_law.Goals as goal

pub returns : goal.returns
returns c = record { names = names_apart; numbers = numbers_apart; gates = gates_stand; boards = boards_alike }
