use Rattle.debug_view.proofs.InList.{in_list}
use Rattle.debug_view.proofs.laws.listed_law.Goals as goal

pub returns : goal.returns
returns c = in_list
