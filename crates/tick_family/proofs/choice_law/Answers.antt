use Rattle.tick_family.proofs.ChoiceLemmas.{all_choices}
use Rattle.tick_family.proofs.choice_law.Goals as goal

pub returns : goal.returns
returns c = all_choices
